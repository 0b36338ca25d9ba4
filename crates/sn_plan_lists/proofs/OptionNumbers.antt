-- The options of a piece, each once.
use Rattle.std.proofs.Common.{◌≡◌, ℕ, zero, suc, ◌+◌, ◌≤◌, ◌<◌, List, [], ◌∷◌, map, take, length, Bool, true, false, ◌||◌, ◌&&◌, refl, ap, sym, ◌∙◌, subst, arith, inl, inr}
use Rattle.std.specs.Prelude.{nat_eq, ◌==◌}
use Rattle.std.specs.Cmp.Lexicographic.{pointwise}
use Rattle.std.specs.List.{AllByRecursion, flat_map, range_with_len}
use Rattle.std.proofs.lemmas.Bool.Decides.{nat_tests}
use Rattle.sn_base.proofs.Lists.{and_both, and_parts, nat_same as equal_or, nat_self as same_equal}
use Rattle.sn_tree_space.specs.Space.{IsOneOf}
use Rattle.sn_switch.specs.declared.switch.Switch.{Switch}
use Rattle.sn_types.specs.declared.typed_query.TypedBranch.{TypedBranch}
use Rattle.sn_types.specs.Cuts.{stateful}
use Rattle.sn_plan_fit.specs.Paths.{is_among}
use Rattle.sn_base.specs.Rising.{IsRising}
use Rattle.sn_plan_choices.specs.Options.{Setting, size_lists, options, option_at}
use Rattle.sn_plan_lists.specs.Numbers.{is_setting, option_number}
use Rattle.sn_plan_lists.proofs.Places.{place_of, place_at, one_at, distinct_above, in_map, of_map, in_flat, of_flat, Distinct, distinct_flat, distinct_map, distinct_range, Tells}
use Rattle.sn_tree_space.proofs.Order.{list_itself, same_list}
use Rattle.sn_tree_space.proofs.Reading.{of_range}
use Rattle.sn_tree_space.proofs.Agendas.{in_range}

-- ---- the test of settings

same_number : (n : ℕ) → (n == n) ≡ true
same_number n = grind (arith, nat_tests)

equal_numbers : (n m : ℕ) → (n == m) ≡ true → n ≡ m
equal_numbers n m e = grind (arith, nat_tests)

pub setting_test : Tells is_setting
setting_test = record {
  finds = λ a. and_both (a.0 == a.0) (pointwise nat_eq a.1 a.1) (same_number a.0) (list_itself a.1);
  only = λ a b e. let k = and_parts (a.0 == b.0) (pointwise nat_eq a.1 b.1) e in
      ap (λ (n : ℕ). (n, a.1)) (equal_numbers a.0 b.0 k.0) ∙ ap (λ (l : List ℕ). (b.0, l)) (same_list a.1 b.1 k.1);
}

-- ---- lists of sizes

pub among_one : (x : ℕ) (xs : List ℕ) → is_among xs x ≡ true → IsOneOf x xs
among_one x [] e = cc
among_one x (y ∷ xs) e = by_head (nat_eq x y) refl e (among_one x xs)
  where
    by_head : (b : Bool) → nat_eq x y ≡ b → (b || is_among xs x) ≡ true → (is_among xs x ≡ true → IsOneOf x xs) → IsOneOf x (y ∷ xs)
    by_head true k e rest = inl (equal_or x y k)
    by_head false k e rest = inr (rest e)

pub one_among : (x : ℕ) (xs : List ℕ) → IsOneOf x xs → is_among xs x ≡ true
one_among x [] i = absurd i
one_among x (y ∷ xs) (inl e) = ap (λ b. b || is_among xs x) (ap (λ (n : ℕ). nat_eq x n) (sym e) ∙ same_equal x)
one_among x (y ∷ xs) (inr i) = ap (λ b. nat_eq x y || b) (one_among x xs i) ∙ or_true (nat_eq x y)
  where
    or_true : (a : Bool) → (a || true) ≡ true
    or_true true = refl
    or_true false = refl

pub of_sizes : (slots : List ℕ) (n : ℕ) (sizes : List ℕ) → IsOneOf sizes (size_lists slots n) → (length sizes ≡ n) × AllByRecursion (λ x. is_among slots x ≡ true) sizes
of_sizes slots zero sizes (inl e) = subst (λ l. (length l ≡ 0) × AllByRecursion (λ x. is_among slots x ≡ true) l) (sym e) (refl, tt)
of_sizes slots zero sizes (inr i) = absurd i
of_sizes slots (suc n) sizes i =
    let a = of_flat (λ size. map (λ rest. size ∷ rest) (size_lists slots n)) sizes slots i in
    let b = of_map (λ rest. a.0 ∷ rest) sizes (size_lists slots n) a.2 in
    let k = of_sizes slots n b.0 b.2 in
    subst (λ l. (length l ≡ suc n) × AllByRecursion (λ x. is_among slots x ≡ true) l) (sym b.1) (ap suc k.0, (one_among a.0 slots a.1, k.1))

pub in_sizes : (slots : List ℕ) (n : ℕ) (sizes : List ℕ) → length sizes ≡ n → AllByRecursion (λ x. is_among slots x ≡ true) sizes → IsOneOf sizes (size_lists slots n)
in_sizes slots zero [] e h = inl refl
in_sizes slots zero (x ∷ sizes) e h = absurd (omega arith)
in_sizes slots (suc n) [] e h = absurd (omega arith)
in_sizes slots (suc n) (x ∷ sizes) e h =
    in_flat (λ size. map (λ rest. size ∷ rest) (size_lists slots n)) x (x ∷ sizes) slots (among_one x slots h.0)
    (in_map (λ rest. x ∷ rest) sizes (size_lists slots n) (in_sizes slots n sizes (omega arith) h.1))

abbrev first_in : List ℕ → ℕ
first_in [] = 0
first_in (x ∷ xs) = x

abbrev rest_in : List ℕ → List ℕ
rest_in [] = []
rest_in (x ∷ xs) = xs

distinct_sizes : (slots : List ℕ) (n : ℕ) → Distinct slots → Distinct (size_lists slots n)
distinct_sizes slots zero h = (tt, tt)
distinct_sizes slots (suc n) h =
    distinct_flat (λ size. map (λ rest. size ∷ rest) (size_lists slots n)) first_in
    (λ size y i. let k = of_map (λ rest. size ∷ rest) y (size_lists slots n) i in ap first_in k.1)
    (λ size. distinct_map (λ rest. size ∷ rest) (λ x y e. ap rest_in e) (size_lists slots n) (distinct_sizes slots n h)) slots h

-- ---- settings

abbrev settings_of : List ℕ → (ℕ → ℕ) → ℕ → List Setting
settings_of slots count most = flat_map (λ cut. map (λ sizes. (cut, sizes)) (size_lists slots (count cut))) (range_with_len 0 (most + 1))

of_settings : (slots : List ℕ) (count : ℕ → ℕ) (most : ℕ) (o : Setting) → IsOneOf o (settings_of slots count most)
    → (o.0 ≤ most) × (length o.1 ≡ count o.0) × AllByRecursion (λ x. is_among slots x ≡ true) o.1
of_settings slots count most o i =
    let a = of_flat (λ cut. map (λ sizes. (cut, sizes)) (size_lists slots (count cut))) o (range_with_len 0 (most + 1)) i in
    let b = of_map (λ sizes. (a.0, sizes)) o (size_lists slots (count a.0)) a.2 in
    let r = (of_range 0 (most + 1) a.0 a.1).1 in
    let k = of_sizes slots (count a.0) b.0 b.2 in
    subst (λ (u : Setting). (u.0 ≤ most) × (length u.1 ≡ count u.0) × AllByRecursion (λ x. is_among slots x ≡ true) u.1) (sym b.1) (omega arith, k.0, k.1)

in_settings : (slots : List ℕ) (count : ℕ → ℕ) (most cut : ℕ) (sizes : List ℕ) → cut ≤ most → length sizes ≡ count cut → AllByRecursion (λ x. is_among slots x ≡ true) sizes
    → IsOneOf (cut, sizes) (settings_of slots count most)
in_settings slots count most cut sizes h e k =
    in_flat (λ cut. map (λ sizes. (cut, sizes)) (size_lists slots (count cut))) cut (cut, sizes) (range_with_len 0 (most + 1)) (in_range cut 0 (most + 1) (omega arith) (omega arith))
    (in_map (λ sizes. (cut, sizes)) sizes (size_lists slots (count cut)) (in_sizes slots (count cut) sizes e k))

distinct_settings : (slots : List ℕ) (count : ℕ → ℕ) (most : ℕ) → Distinct slots → Distinct (settings_of slots count most)
distinct_settings slots count most h =
    distinct_flat (λ cut. map (λ sizes. (cut, sizes)) (size_lists slots (count cut))) (λ o. o.0)
    (λ cut o i. let k = of_map (λ sizes. (cut, sizes)) o (size_lists slots (count cut)) i in ap (λ (u : Setting). u.0) k.1)
    (λ cut. distinct_map (λ sizes. (cut, sizes)) (λ x y e. ap (λ (u : Setting). u.1) e) (size_lists slots (count cut)) (distinct_sizes slots (count cut) h))
    (range_with_len 0 (most + 1)) (distinct_range 0 (most + 1))

-- ---- options

pub distinct_rising : (xs : List ℕ) → IsRising xs → Distinct xs
distinct_rising [] h = tt
distinct_rising (x ∷ xs) h = (distinct_above x xs h.0, distinct_rising xs h.1)

-- a setting that a piece may have
pub record IsOption (s : Switch) (b : TypedBranch) (o : Setting) : Type 0 where
  pub cut : o.0 ≤ b.max_cut
  pub sizes : length o.1 ≡ stateful (take o.0 b.ops)
  pub listed : AllByRecursion (λ n. is_among s.slots n ≡ true) o.1

module _ (s : Switch) (b : TypedBranch) where
  pub number_of_option : (o : Setting) → IsOption s b o → (option_number s b o < length (options s b)) × (option_at s b (option_number s b o) ≡ o)
  number_of_option o h = place_of is_setting setting_test (0, []) o (options s b) (in_settings s.slots (λ cut. stateful (take cut b.ops)) b.max_cut o.0 o.1 h.cut h.sizes h.listed)

  pub option_at_is : (x : ℕ) → x < length (options s b) → IsOption s b (option_at s b x)
  option_at_is x h =
      let k = of_settings s.slots (λ cut. stateful (take cut b.ops)) b.max_cut (option_at s b x) (one_at (0, []) (options s b) x h) in
      record { cut = k.0; sizes = k.1; listed = k.2 }

  pub number_of_option_at : (x : ℕ) → IsRising s.slots → x < length (options s b) → option_number s b (option_at s b x) ≡ x
  number_of_option_at x r h =
      place_at is_setting setting_test (0, []) (options s b) x (distinct_settings s.slots (λ cut. stateful (take cut b.ops)) b.max_cut (distinct_rising s.slots r)) h
