-- The last row of the last part, left out by its place.
use Rattle.std.proofs.Common.{◌≡◌, ℕ, ◌<◌, ◌-◌, ◌↔◌, List, [], ◌∷◌, ◌++◌, length, get_or, set, Option, None, Some, refl, ap, sym, subst, ◌∙◌, arith}
use Rattle.std.specs.Prelude.{IsNone, IfNone, IfSome}
use Rattle.sn_core.specs.Events.{change_at}
use Rattle.sn_core.proofs.Tests.{set_changed}
use Rattle.sn_test_machines.specs.Twist.{all_but_last, change_last}

last_at : {X : Type 0} (change : X → X) (x : X) (xs : List X) → change_at change (x ∷ xs) (length xs) ≡ change_last change (x ∷ xs)
last_at change x [] = refl
last_at change x (y ∷ xs) = ap (λ rest. x ∷ rest) (last_at change y xs)

last_of : {X : Type 0} (change : X → X) (xs : List X) (d y : X) → 0 < length xs → y ≡ change (get_or xs (length xs - 1) d) → set xs (length xs - 1) y ≡ change_last change xs
last_of change [] d y some is = absurd (omega (arith, some))
last_of change (x ∷ xs) d y some is =
    let back : length (x ∷ xs) - 1 ≡ length xs = omega arith in
    set_changed change (x ∷ xs) (length (x ∷ xs) - 1) d y (omega arith) is ∙ ap (change_at change (x ∷ xs)) back ∙ last_at change x xs

pub last_changed : {X : Type 0} (change : X → X) (xs : List X) (n : ℕ) (d y : X) → n ≡ length xs → 0 < n → y ≡ change (get_or xs (n - 1) d) → set xs (n - 1) y ≡ change_last change xs
last_changed change xs n d y count = subst (λ (m : ℕ). 0 < m → y ≡ change (get_or xs (m - 1) d) → set xs (m - 1) y ≡ change_last change xs) (sym count) (last_of change xs d y)

but_last : {X : Type 0} (xs : List X) (x : X) → all_but_last (xs ++ x ∷ []) ≡ xs
but_last [] x = refl
but_last (y ∷ []) x = refl
but_last (y ∷ z ∷ xs) x = ap (λ rest. y ∷ rest) (but_last (z ∷ xs) x)

-- what is left when the last one is taken off, if there is one
pub popped : {X : Type 0} (xs left : List X) (o : Option X) → IfSome o (λ x. xs ≡ left ++ x ∷ []) → (IsNone o ↔ (xs ≡ [])) → IfNone o (left ≡ []) → left ≡ all_but_last xs
popped xs left None some none empty = empty ∙ sym (ap all_but_last (none.0 refl))
popped xs left (Some x) some none empty = sym (ap all_but_last some ∙ but_last left x)
