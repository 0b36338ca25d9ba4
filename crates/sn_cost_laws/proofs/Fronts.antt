-- The front of a path up to a level is the path up to that level.
use Rattle.std.proofs.Common.{◌≡◌, ℕ, zero, suc, ◌+◌, ◌*◌, ◌^◌, ◌<◌, List, [], ◌∷◌, length, filter, take, Bool, true, false, ◌&&◌, ◌||◌, cond, nat_eq, refl, ap, sym, ◌∙◌, subst, arith, slice_index}
use Rattle.std.specs.Prelude.{◌/◌, ◌==◌, nat_le, if◌then◌else◌}
use Rattle.std.specs.List.{AllByRecursion, list_any}
use Rattle.std.proofs.Math.Nat.{pow-suc}
use Rattle.sn_base.proofs.Lists.{all_weaker, by_test, nat_same, all_at as all_index}
use Rattle.sn_plan_lists.proofs.PathNumbers.{among_head, among_rest, not_among, among_all, known_rest}
use Rattle.sn_plan_lists.specs.Costs.{bits_of, is_upto}
use Rattle.sn_cost.specs.Entries.{front_of}
use Rattle.sn_plan_fit.specs.Paths.{is_among}
use Rattle.sn_base.specs.Rising.{IsRising}
use Rattle.sn_base.proofs.Tests.{zero_plus, at_most, even, odd, half_even, half_odd, not_at_most}

-- ---- levels by their bits

front_bits : (test : ℕ → Bool) (levels : List ℕ) → front_of (bits_of test levels) levels ≡ filter test levels
front_bits test [] = refl
front_bits test (l ∷ levels) = by_bit (test l) (bits_of test levels) (front_bits test levels)
  where
    by_bit : (b : Bool) (n : ℕ) → front_of n levels ≡ filter test levels → front_of ((if b then 1 else 0) + 2 * n) (l ∷ levels) ≡ cond b (l ∷ filter test levels) (filter test levels)
    by_bit true n rest =
        ap (λ (r : ℕ). if r == 1 then l ∷ front_of ((1 + 2 * n) / 2) levels else front_of ((1 + 2 * n) / 2) levels) (odd n)
        ∙ ap (λ (m : ℕ). l ∷ front_of m levels) (half_odd n) ∙ ap (λ xs. l ∷ xs) rest
    by_bit false n rest =
        ap (λ (m : ℕ). front_of m (l ∷ levels)) (zero_plus (2 * n))
        ∙ ap (λ (r : ℕ). if r == 1 then l ∷ front_of ((2 * n) / 2) levels else front_of ((2 * n) / 2) levels) (even n)
        ∙ ap (λ (m : ℕ). front_of m levels) (half_even n) ∙ rest

pub bits_below : (test : ℕ → Bool) (levels : List ℕ) → bits_of test levels < 2 ^ length levels
bits_below test [] = omega arith
bits_below test (l ∷ levels) = by_bit (test l) (bits_below test levels) (pow-suc 2 (length levels))
  where
    by_bit : (b : Bool) → bits_of test levels < 2 ^ length levels → 2 ^ length (l ∷ levels) ≡ 2 ^ length levels * 2 → (if b then 1 else 0) + 2 * bits_of test levels < 2 ^ length (l ∷ levels)
    by_bit true below two = omega (arith, below, two)
    by_bit false below two = omega (arith, below, two)

-- ---- levels among others

filter_and : (p q : ℕ → Bool) (xs : List ℕ) → filter (λ x. p x && q x) xs ≡ filter q (filter p xs)
filter_and p q [] = refl
filter_and p q (x ∷ xs) = by_tests (p x) (filter_and p q xs)
  where
    by_tests : (b : Bool) → filter (λ y. p y && q y) xs ≡ filter q (filter p xs)
        → cond (b && q x) (x ∷ filter (λ y. p y && q y) xs) (filter (λ y. p y && q y) xs) ≡ filter q (cond b (x ∷ filter p xs) (filter p xs))
    by_tests true rest = ap (λ ys. cond (q x) (x ∷ ys) ys) rest
    by_tests false rest = rest

filter_agree : (p q : ℕ → Bool) (xs : List ℕ) → AllByRecursion (λ x. p x ≡ q x) xs → filter p xs ≡ filter q xs
filter_agree p q [] h = refl
filter_agree p q (x ∷ xs) h = ap (λ b. cond b (x ∷ filter p xs) (filter p xs)) h.0 ∙ ap (λ ys. cond (q x) (x ∷ ys) ys) (filter_agree p q xs h.1)

-- the levels of a path, among all levels
path_among : (levels path : List ℕ) → IsRising levels → IsRising path → AllByRecursion (λ l. is_among levels l ≡ true) path → filter (is_among path) levels ≡ path
path_among [] [] r s k = refl
path_among [] (x ∷ path) r s k = absurd (let no : false ≡ true = k.0 in cc)
path_among (l ∷ levels) [] r s k = path_among levels [] r.1 tt tt
path_among (l ∷ levels) (x ∷ path) r s k = by_test (nat_eq x l) (λ is. here (nat_same x l is) (path_among levels path r.1 s.1)) (λ isnt. following isnt (path_among levels (x ∷ path) r.1 s))
  where
    here : x ≡ l → (AllByRecursion (λ y. is_among levels y ≡ true) path → filter (is_among path) levels ≡ path) → filter (is_among (x ∷ path)) (l ∷ levels) ≡ x ∷ path
    here e rest =
        let above : AllByRecursion (λ y. l < y) path = subst (λ (m : ℕ). AllByRecursion (λ y. m < y) path) e s.0 in
        subst (λ (y : ℕ). filter (is_among (y ∷ path)) (l ∷ levels) ≡ y ∷ path) (sym e)
        (ap (λ b. cond b (l ∷ filter (is_among (l ∷ path)) levels) (filter (is_among (l ∷ path)) levels)) (among_head l path)
        ∙ ap (λ ys. l ∷ ys) (filter_agree (is_among (l ∷ path)) (is_among path) levels (all_weaker (λ y. l < y) (λ y. is_among (l ∷ path) y ≡ is_among path y) (λ y lt. among_rest l y path lt) levels r.0))
        ∙ ap (λ ys. l ∷ ys) (rest (known_rest l levels path above k.1)))

    following : nat_eq x l ≡ false → (AllByRecursion (λ y. is_among levels y ≡ true) (x ∷ path) → filter (is_among (x ∷ path)) levels ≡ x ∷ path) → filter (is_among (x ∷ path)) (l ∷ levels) ≡ x ∷ path
    following isnt rest =
        let later : is_among levels x ≡ true = sym (ap (λ b. b || list_any (nat_eq x) levels) isnt) ∙ k.0 in
        let lt : l < x = among_all (λ y. l < y) x levels later r.0 in
        let above : AllByRecursion (λ y. l < y) (x ∷ path) = (lt, all_weaker (λ y. x < y) (λ y. l < y) (λ y more. omega (arith, lt, more)) path s.0) in
        ap (λ b. cond b (l ∷ filter (is_among (x ∷ path)) levels) (filter (is_among (x ∷ path)) levels)) (not_among l (x ∷ path) above)
        ∙ rest (known_rest l levels (x ∷ path) above k)

-- ---- levels up to one

none_upto : (level : ℕ) (path : List ℕ) → AllByRecursion (λ l. level < l) path → filter (λ l. nat_le l level) path ≡ []
none_upto level [] h = refl
none_upto level (l ∷ path) h = ap (λ b. cond b (l ∷ filter (λ x. nat_le x level) path) (filter (λ x. nat_le x level) path)) (not_at_most l level h.0) ∙ none_upto level path h.1

path_upto : (path : List ℕ) (level j : ℕ) → IsRising path → j < length path → slice_index path j ≡ level → filter (λ l. nat_le l level) path ≡ take (suc j) path
path_upto [] level j r lt is = absurd (omega (arith, lt))
path_upto (l ∷ path) level zero r lt is =
    let same : l ≡ level = is in
    ap (λ b. cond b (l ∷ filter (λ x. nat_le x level) path) (filter (λ x. nat_le x level) path)) (at_most l level (omega (arith, same)))
    ∙ ap (λ ys. l ∷ ys) (none_upto level path (subst (λ (m : ℕ). AllByRecursion (λ x. m < x) path) same r.0))
path_upto (l ∷ path) level (suc j) r lt is =
    let within : j < length path = omega (arith, lt) in
    let same : slice_index path j ≡ level = is in
    let less : l < slice_index path j = all_index (λ x. l < x) path j r.0 within in
    ap (λ b. cond b (l ∷ filter (λ x. nat_le x level) path) (filter (λ x. nat_le x level) path)) (at_most l level (omega (arith, same, less)))
    ∙ ap (λ ys. l ∷ ys) (path_upto path level j r.1 within same)

pub front_is : (levels path : List ℕ) (level j : ℕ) → IsRising levels → IsRising path → AllByRecursion (λ l. is_among levels l ≡ true) path → j < length path → slice_index path j ≡ level
    → front_of (bits_of (is_upto path level) levels) levels ≡ take (suc j) path
front_is levels path level j r s known lt is =
    front_bits (is_upto path level) levels ∙ filter_and (is_among path) (λ l. nat_le l level) levels ∙ ap (filter (λ l. nat_le l level)) (path_among levels path r s known) ∙ path_upto path level j s lt is
