-- What a draw picks may happen.
use Rattle.std.proofs.Common.{◌≡◌, ℕ, zero, suc, List, [], ◌∷◌, filter, slice_get, Bool, true, false, cond, Some, refl, ap, sym, ◌∙◌}
use Rattle.sn_base.proofs.Lists.{none_some, some_same}

module _ {X : Type 0} (p : X → Bool) where
  passes_if : (x : X) (xs : List X) (k : ℕ) (y : X) (b : Bool) → p x ≡ b → ((n : ℕ) → slice_get (filter p xs) n ≡ Some y → p y ≡ true) → slice_get (cond b (x ∷ filter p xs) (filter p xs)) k ≡ Some y → p y ≡ true
  passes_if x xs zero y true is rest e = ap p (sym (some_same x y e)) ∙ is
  passes_if x xs (suc k) y true is rest e = rest k e
  passes_if x xs k y false is rest e = rest k e

  got_passes : (xs : List X) (k : ℕ) (y : X) → slice_get (filter p xs) k ≡ Some y → p y ≡ true
  got_passes [] k y e = absurd (none_some e)
  got_passes (x ∷ xs) k y e = passes_if x xs k y (p x) refl (λ n f. got_passes xs n y f) e
