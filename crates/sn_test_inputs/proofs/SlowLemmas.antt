-- A read into the front of some bytes.
use Rattle.std.proofs.Common.{◌≡◌, ℕ, ◌≤◌, ◌⊎◌, List, ◌++◌, Option, None, Some, Result, Ok, Err, IfOk, IfSome, length, take, drop, min, inl, inr, ap, sym, ◌∙◌, arith, append_assoc, length-take}
use Rattle.std.proofs.lemmas.List.{take-append-drop, drop-append-le}
use Rattle.sn_io.specs.declared.inputs.InputFault.{InputFault}
use Rattle.sn_io.specs.Inputs.{Reads}

reads_front : (file old mid part new : List ℕ) (at n most : ℕ) → mid ≡ take most old → new ≡ part ++ drop most old → most ≤ length old → (most ≡ 0 → length old ≡ 0) → n ≤ most → Reads file at n mid part → Reads file at n old new
reads_front file old mid part new at n most mid_is new_is fits some within r =
    let long : length mid ≡ most = ap length mid_is ∙ length-take most old ∙ (omega arith) in
    let rest : drop n old ≡ drop n mid ++ drop most old =
    ap (drop n) (sym (take-append-drop most old) ∙ ap (λ (xs : List ℕ). xs ++ drop most old) (sym mid_is)) ∙ drop-append-le n mid (drop most old) (omega arith) in
    record {
      bytes = new_is ∙ ap (λ (xs : List ℕ). xs ++ drop most old) r.bytes ∙ append_assoc (take n (drop at file)) (drop n mid) (drop most old) ∙ ap (λ (xs : List ℕ). take n (drop at file) ++ xs) (sym rest);
      within = r.within;
      none = (λ zero. forth (r.none.0 zero), λ ends. r.none.1 (back ends));
    }
  where
    forth : (length file ≤ at) ⊎ (length mid ≡ 0) → (length file ≤ at) ⊎ (length old ≡ 0)
    forth (inl past) = inl past
    forth (inr empty) = inr (some (let e : length mid ≡ min most (length old) = ap length mid_is ∙ length-take most old in omega arith))

    back : (length file ≤ at) ⊎ (length old ≡ 0) → (length file ≤ at) ⊎ (length mid ≡ 0)
    back (inl past) = inl past
    back (inr empty) = inr (let e : length mid ≡ min most (length old) = ap length mid_is ∙ length-take most old in omega arith)

pub slow_reads : (r : Result ℕ InputFault) (reported : Option (List ℕ)) (old mid part new : List ℕ) (at most : ℕ) → mid ≡ take most old → new ≡ part ++ drop most old → most ≤ length old → (most ≡ 0 → length old ≡ 0)
    → IfOk r (λ n. n ≤ length mid) → IfOk r (λ n. IfSome reported (λ file. Reads file at n mid part)) → IfOk r (λ n. IfSome reported (λ file. Reads file at n old new))
slow_reads (Err fault) reported old mid part new at most mid_is new_is fits some within reads = tt
slow_reads (Ok n) None old mid part new at most mid_is new_is fits some within reads = tt
slow_reads (Ok n) (Some file) old mid part new at most mid_is new_is fits some within reads =
    reads_front file old mid part new at n most mid_is new_is fits some (let e : length mid ≡ min most (length old) = ap length mid_is ∙ length-take most old in omega arith) reads
