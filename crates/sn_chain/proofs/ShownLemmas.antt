-- What cells show, by the marks of those in use.
use Rattle.std.proofs.Common.{◌≡◌, ◌≢◌, ℕ, zero, suc, ◌<◌, ◌≤◌, List, [], ◌∷◌, length, Some, None, get_or, set, replicate, refl, ap, ap₂, sym, ◌∙◌, arith}
use Rattle.std.proofs.lemmas.List.{get_or_past}
use Rattle.sn_chain.specs.Cells.{shown_if, shown_where, all_shown}
use Rattle.sn_chain.specs.Marks.{mark_at}
use Rattle.sn_chain.specs.Registers.{cell}

module _ {X : Type 0} where
  length-shown_where : (mark : ℕ → ℕ) (xs : List X) → length (shown_where mark xs) ≡ length xs
  length-shown_where mark [] = refl
  length-shown_where mark (x ∷ xs) = ap suc (length-shown_where (λ p. mark (suc p)) xs)

  -- marks that are alike show the same
  same_shown : (mark other : ℕ → ℕ) (xs : List X) → ((p : ℕ) → other p ≡ mark p) → shown_where mark xs ≡ shown_where other xs
  same_shown mark other [] same = refl
  same_shown mark other (x ∷ xs) same = ap₂ (λ o os. o ∷ os) (ap (λ n. shown_if n x) (sym (same 0))) (same_shown (λ p. mark (suc p)) (λ p. other (suc p)) xs (λ p. same (suc p)))

  shown_at : (mark : ℕ → ℕ) (xs : List X) (i : ℕ) (x : X) → i < length xs → x ≡ get_or xs i x → cell (shown_where mark xs) i ≡ shown_if (mark i) x
  shown_at mark [] i x within is = absurd (omega arith)
  shown_at mark (y ∷ xs) zero x within is = ap (shown_if (mark 0)) (sym is)
  shown_at mark (y ∷ xs) (suc i) x within is = shown_at (λ p. mark (suc p)) xs i x (omega arith) is

  -- one cell gets something else, and its mark may change
  shown_set : (mark other : ℕ → ℕ) (xs : List X) (i : ℕ) (x : X) → ((p : ℕ) → p ≢ i → other p ≡ mark p) → shown_where other (set xs i x) ≡ set (shown_where mark xs) i (shown_if (other i) x)
  shown_set mark other [] i x same = refl
  shown_set mark other (y ∷ xs) zero x same =
      ap (λ os. shown_if (other 0) x ∷ os) (sym (same_shown (λ p. mark (suc p)) (λ p. other (suc p)) xs (λ p. same (suc p) (λ e. suc_zero p e))))
    where
      suc_zero : (p : ℕ) → suc p ≡ 0 → ⊥
      suc_zero p e = omega (arith, e)
  shown_set mark other (y ∷ xs) (suc i) x same =
      ap₂ (λ o os. o ∷ os) (ap (λ n. shown_if n y) (same 0 (λ e. zero_suc e)))
      (shown_set (λ p. mark (suc p)) (λ p. other (suc p)) xs i x (λ p apart. same (suc p) (λ e. apart (one_less p e))))
    where
      zero_suc : 0 ≡ suc i → ⊥
      zero_suc e = omega (arith, e)

      one_less : (p : ℕ) → suc p ≡ suc i → p ≡ i
      one_less p e = omega (arith, e)

  none_shown : (mark : ℕ → ℕ) (xs : List X) → ((p : ℕ) → mark p ≡ 0) → shown_where mark xs ≡ replicate (length xs) None
  none_shown mark [] none = refl
  none_shown mark (x ∷ xs) none = ap₂ (λ o os. o ∷ os) (ap (λ n. shown_if n x) (none 0)) (none_shown (λ p. mark (suc p)) xs (λ p. none (suc p)))

module _ {X : Type 0} (marks : List ℕ) (xs : List X) where
  pub length-all_shown : length (all_shown marks xs) ≡ length xs
  length-all_shown = length-shown_where (mark_at marks) xs

  -- what a cell that was read shows
  pub read_cell : (i : ℕ) (x : X) → i < length xs → x ≡ get_or xs i x → cell (all_shown marks xs) i ≡ shown_if (mark_at marks i) x
  read_cell i x within is = shown_at (mark_at marks) xs i x within is

  pub read_held : (i : ℕ) (x : X) → i < length xs → x ≡ get_or xs i x → mark_at marks i ≡ 1 → cell (all_shown marks xs) i ≡ Some x
  read_held i x within is held = read_cell i x within is ∙ ap (λ n. shown_if n x) held

  pub read_past : (i : ℕ) → length xs ≤ i → cell (all_shown marks xs) i ≡ None
  read_past i past = get_or_past (all_shown marks xs) i None (omega (arith, past, length-all_shown))

  -- a cell gets something else
  pub set_shown : (i : ℕ) (x : X) → all_shown marks (set xs i x) ≡ set (all_shown marks xs) i (shown_if (mark_at marks i) x)
  set_shown i x = shown_set (mark_at marks) (mark_at marks) xs i x (λ p apart. refl)

  -- a cell is taken
  pub set_taken : (new : List ℕ) (i : ℕ) (x : X) → mark_at new i ≡ 1 → ((p : ℕ) → p ≢ i → mark_at new p ≡ mark_at marks p) → all_shown new (set xs i x) ≡ set (all_shown marks xs) i (Some x)
  set_taken new i x here others = shown_set (mark_at marks) (mark_at new) xs i x others ∙ ap (λ n. set (all_shown marks xs) i (shown_if n x)) here

  -- no cell is in use
  pub none_in_use : ((p : ℕ) → mark_at marks p ≡ 0) → all_shown marks xs ≡ replicate (length xs) None
  none_in_use none = none_shown (mark_at marks) xs none
