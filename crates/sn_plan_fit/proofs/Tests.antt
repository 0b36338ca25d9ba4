-- Tests and what they decide.
use Rattle.std.proofs.Common.{◌≡◌, ℕ, ◌≤◌, ◌<◌, List, [], ◌∷◌, Bool, true, false, not, ◌&&◌, nat_lt, Option, Some, None, refl, sym, arith}
use Rattle.std.specs.Prelude.{◌↔◌, ◌==◌}
use Rattle.std.specs.List.{AllByRecursion, list_all}
use Rattle.sn_plan_fit.specs.declared.misfit.Misfit.{Misfit}
use Rattle.sn_plan_fit.specs.declared.misfit.MisfitKind.{MisfitKind}
use Rattle.sn_plan_fit.specs.Checks.{failing, or_else}
use Rattle.sn_types.proofs.Facts.{some_none}

-- a check fails nowhere where its test doesn't hold
pub failing_none : (b : Bool) (kind : MisfitKind) (want got : ℕ) → (failing b kind want got ≡ None) ↔ (b ≡ false)
failing_none true kind want got = (λ e. absurd (some_none e), λ e. cc)
failing_none false kind want got = (λ e. refl, λ e. refl)

-- neither of two checks fails
pub or_none : (a b : Option Misfit) → (or_else a b ≡ None) ↔ ((a ≡ None) × (b ≡ None))
or_none None b = (λ e. (refl, e), λ e. e.1)
or_none (Some m) b = (λ e. absurd (some_none e), λ e. absurd (some_none e.0))

pub both : {A B C D : Type 0} → A ↔ C → B ↔ D → (A × B) ↔ (C × D)
both f g = (λ h. (f.0 h.0, g.0 h.1), λ h. (f.1 h.0, g.1 h.1))

pub then : {A B C : Type 0} → A ↔ B → B ↔ C → A ↔ C
then f g = (λ a. g.0 (f.0 a), λ c. f.1 (g.1 c))

pub not_above : (m n : ℕ) → (nat_lt m n ≡ false) ↔ (n ≤ m)
not_above m n = (λ e. grind (arith, e), λ h. grind (arith, h))

pub is_below : (m n : ℕ) → (nat_lt m n ≡ true) ↔ (m < n)
is_below m n = (λ e. grind (arith, e), λ h. grind (arith, h))

pub is_equal : (m n : ℕ) → ((m == n) ≡ true) ↔ (m ≡ n)
is_equal m n = (λ e. grind (arith, e), λ h. grind (arith, h))

pub not_unequal : (m n : ℕ) → (not (m == n) ≡ false) ↔ (m ≡ n)
not_unequal m n = then (turned (m == n)) (is_equal m n)
  where
    turned : (b : Bool) → (not b ≡ false) ↔ (b ≡ true)
    turned true = (λ e. refl, λ e. refl)
    turned false = (λ e. sym e, λ e. sym e)

pub not_not : (b : Bool) → (not b ≡ false) ↔ (b ≡ true)
not_not true = (λ e. refl, λ e. refl)
not_not false = (λ e. sym e, λ e. sym e)

pub and_true : (a b : Bool) → ((a && b) ≡ true) ↔ ((a ≡ true) × (b ≡ true))
and_true true b = (λ e. (refl, e), λ e. e.1)
and_true false b = (λ e. cc, λ e. cc)

pub all_true : {X : Type 0} (t : X → Bool) (xs : List X) → (list_all t xs ≡ true) ↔ AllByRecursion (λ x. t x ≡ true) xs
all_true t [] = (λ e. tt, λ h. refl)
all_true t (x ∷ xs) = then (and_true (t x) (list_all t xs)) (both (λ e. e, λ e. e) (all_true t xs))
