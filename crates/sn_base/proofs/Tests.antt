-- Small lemmas on tests of booleans and numbers that the crates above share.
use Rattle.std.proofs.Common.{◌≡◌, ℕ, ◌+◌, ◌*◌, ◌/◌, ◌%◌, ◌<◌, ◌≤◌, Bool, true, false, not, ◌&&◌, nat_eq, nat_lt, nat_le, refl, ap, sym, arith, inl, inr, ◌⊎◌}
use Rattle.std.proofs.lemmas.Bool.{ltb-true, ltb-false, ne_eqb}
use Rattle.std.proofs.lemmas.Bool.Decides.{nat_tests}
use Rattle.sn_base.proofs.Lists.{and_parts, by_test}

-- ---- booleans

pub either_way : (b : Bool) → (b ≡ true) ⊎ (b ≡ false)
either_way true = inl refl
either_way false = inr refl

pub not_to_false : (b : Bool) → not b ≡ true → b ≡ false
not_to_false true e = sym e
not_to_false false e = refl

pub and_never : (b : Bool) → (b && false) ≡ false
and_never true = refl
and_never false = refl

pub and_false_left : (a b : Bool) → a ≡ false → (a && b) ≡ false
and_false_left a b e = ap (λ c. c && b) e

pub and_false_right : (a b : Bool) → b ≡ false → (a && b) ≡ false
and_false_right true b e = e
and_false_right false b e = refl

pub three_parts : (a b c : Bool) → (a && b && c) ≡ true → (a ≡ true) × (b ≡ true) × (c ≡ true)
three_parts a b c is =
    let outer = and_parts (a && b) c is in
    let inner = and_parts a b outer.0 in
    (inner.0, inner.1, outer.1)

-- ---- orders

pub by_order : {G : Type 0} (a b : ℕ) → (a < b → G) → (b ≤ a → G) → G
by_order a b less more = by_test (nat_lt a b) (λ e. less (ltb-true a b e)) (λ e. more (ltb-false a b e))

pub less : (a b : ℕ) → a < b → nat_lt a b ≡ true
less a b h = grind (arith, nat_tests)

pub not_less : (a b : ℕ) → b ≤ a → nat_lt a b ≡ false
not_less a b h = grind (arith, nat_tests)

pub not_less_is : (a b : ℕ) → nat_lt a b ≡ false → b ≤ a
not_less_is a b e = ltb-false a b e

pub at_most : (a b : ℕ) → a ≤ b → nat_le a b ≡ true
at_most a b h = grind (arith, nat_tests)

pub not_at_most : (a b : ℕ) → b < a → nat_le a b ≡ false
not_at_most a b h = grind (arith, nat_tests)

-- ---- unequal numbers

pub nat_apart : (a b : ℕ) → (a ≡ b → ⊥) → nat_eq a b ≡ false
nat_apart a b h = ne_eqb a b h

pub nat_below : (a b : ℕ) → a < b → nat_eq a b ≡ false
nat_below a b h = grind (arith, nat_tests)

pub nat_above : (a b : ℕ) → b < a → nat_eq a b ≡ false
nat_above a b h = grind (arith, nat_tests)

-- ---- sums and halves

pub zero_plus : (n : ℕ) → 0 + n ≡ n
zero_plus n = omega arith

pub even : (n : ℕ) → (2 * n) % 2 ≡ 0
even n = omega arith

pub odd : (n : ℕ) → (1 + 2 * n) % 2 ≡ 1
odd n = omega arith

pub half_even : (n : ℕ) → (2 * n) / 2 ≡ n
half_even n = omega arith

pub half_odd : (n : ℕ) → (1 + 2 * n) / 2 ≡ n
half_odd n = omega arith
