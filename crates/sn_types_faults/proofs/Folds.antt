-- Folds over values of equal widths are equal.
use Rattle.std.proofs.Common.{◌≡◌, ℕ, ◌≤◌, subst, ap}
use Rattle.std.proofs.Math.Bridge.{le_prop}

abbrev pub InRange : ℕ → Type 0
InRange v = (1 ≤ v) × (v ≤ 64)

in_range_prop : (v : ℕ) → IsProp (InRange v)
in_range_prop v = hlevel le_prop

pub same_fold : {F : Type 0} (make : (v : ℕ) → InRange v → F) (v w : ℕ) (p : InRange v) (q : InRange w) → v ≡ w → make v p ≡ make w q
same_fold make v w p q e =
    subst (λ (x : ℕ). (r : InRange x) → make v p ≡ make x r) e (λ r. ap (make v) (in_range_prop v p r)) q
