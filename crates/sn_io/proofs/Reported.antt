use Rattle.std.proofs.Common.{◌≡◌, ℕ, ◌+◌, ◌-◌, ◌≤◌, List, [], Option, None, Some, ◌++◌, length, take, drop, is_some, IfSome, IsSomeAnd, refl, ap, ◌∙◌, sym, append_assoc, length-drop, arith}
use Rattle.std.proofs.Math.Seq.{take-add}
use Rattle.std.proofs.lemmas.List.{length-take-le, take-append-le, take-take, take_all, append-nil}
use Rattle.std.specs.FinMap.{get}
use Rattle.std.specs.Io.KnownBytes.{append_known}
use Rattle.sn_io.specs.Counts.{ByName}
use Rattle.sn_io.specs.Inputs.{Reads, stated_file}

-- what `&piece[done..]` has
pub rest_is : (piece : List ℕ) (done : ℕ) → take (length piece - done) (drop done piece) ≡ drop done piece
rest_is piece done = take_all (length piece - done) (drop done piece) (omega (arith, length-drop done piece))

-- a front of the rest goes out after the front that went out
pub reported_more : (reported : Option (List ℕ)) (piece : List ℕ) (done more : ℕ) → append_known (append_known reported (take done piece)) (take more (take (length piece - done) (drop done piece))) ≡ append_known reported (take (done + more) piece)
reported_more None piece done more = refl
reported_more (Some out) piece done more = ap (λ ys. Some ys) (append_assoc out (take done piece) (take more (take (length piece - done) (drop done piece))) ∙ ap (λ ys. out ++ ys) (ap (λ ys. take done piece ++ take more ys) (rest_is piece done) ∙ sym (take-add done more piece)))

-- a file with known contents has a known name
pub reported_known : (reported now : Option (ByName (List ℕ))) (counts : ByName ℕ) (name : List ℕ) (P : List ℕ → Type 0) → now ≡ reported → ((files : ByName (List ℕ)) (other : List ℕ) → now ≡ Some files → is_some (get files other) ≡ is_some (get counts other)) → IsSomeAnd (stated_file reported name) P → get counts name ≡ None → ⊥
reported_known None now counts name P same law here unknown = here
reported_known (Some files) now counts name P same law here unknown =
    let known : is_some (get files name) ≡ is_some (get counts name) = law files name same in
    let missing : is_some (get counts name) ≡ is_some {T = ℕ} None = ap is_some unknown in
    elim (get files name) as (λ o. get files name ≡ o → IsSomeAnd o P → ⊥) [
      | None ↦ λ _ none. none
      | Some file ↦ λ is _. let held : is_some (get files name) ≡ is_some (Some file) = ap is_some is in cc
    ] refl here

-- two pieces, one after the other
pub append_known-append : (reported : Option (List ℕ)) (first second : List ℕ) → append_known (append_known reported first) second ≡ append_known reported (first ++ second)
append_known-append None first second = refl
append_known-append (Some out) first second = ap (λ ys. Some ys) (append_assoc out first second)

-- where nothing went out
pub append_known-nil : (reported : Option (List ℕ)) → append_known reported [] ≡ reported
append_known-nil None = refl
append_known-nil (Some out) = ap (λ ys. Some ys) (append-nil out)

-- what a read gives goes on from the front that was read before
pub front_read : (reported : Option (List ℕ)) (at count after : ℕ) (bytes more old new : List ℕ) →
    IfSome reported (λ file. (bytes ≡ take at file) × (at ≤ length file)) → IfSome reported (λ file. Reads file at count old new) →
    more ≡ bytes ++ take count new → after ≡ at + count → IfSome reported (λ file. (more ≡ take after file) × (after ≤ length file))
front_read None at count after bytes more old new front read grown later = front
front_read (Some file) at count after bytes more old new front read grown later =
    let piece : take count new ≡ take count (drop at file) =
    ap (take count) read.bytes
    ∙ take-append-le count (take count (drop at file)) (drop count old) (omega (arith, length-take-le count (drop at file) read.within))
    ∙ take-take count count (drop at file) (omega arith) in (
      grown ∙ ap (λ ys. bytes ++ ys) piece ∙ ap (λ ys. ys ++ take count (drop at file)) front.0 ∙ sym (take-add at count file) ∙ ap (λ n. take n file) (sym later),
      omega (arith, front.1, read.within, length-drop at file, later),
    )
