-- Lists that are part of others.
use Rattle.std.proofs.Common.{◌≡◌, ℕ, ◌≤◌, List, [], ◌∷◌, ◌++◌, map, filter, fold, Bool, true, false, not, sym, ◌∙◌, subst, arith}
use Rattle.std.specs.List.{AllByRecursion, list_any}
use Rattle.std.specs.Cmp.Lexicographic.{nat_list_eq_equiv}
use Rattle.std.proofs.lemmas.Bool.{false≢true}
use Rattle.std.proofs.lemmas.List.{map-append}
use Rattle.std.proofs.lemmas.List.Elements.{filter-append, All-from_recursion}
use Rattle.std.proofs.lemmas.List.Folds.{list_any-append}
use Rattle.std.proofs.lemmas.Nat.{le_or_l}
use Rattle.sn_base.specs.AnyFold.{any_has, any_laws, any_step, any_unit}
use Rattle.sn_base.specs.Bags.{SameBag}
use Rattle.sn_base.specs.Groups.{Row, once, same_row}
use Rattle.sn_base.specs.declared.any_fold.AnyFold.{AnyFold}
use Rattle.sn_base.specs.declared.any_fold.AnyFold.TheVariants.{SatSum, Max, Min, Or}
use Rattle.sn_base.proofs.BagLemmas.{all_bag, bag_any, bag_back, bag_before, bag_filter, bag_map, bag_parted, bag_same, bag_swapped, bag_then, fold_bag}
use Rattle.sn_base.proofs.FoldLemmas.{fold_had, fold_of_two}
use Rattle.sn_base.proofs.FoldedLemmas.{same_row_exact}
use Rattle.sn_base.proofs.GroupLemmas.{home_bag}
use Rattle.sn_base.proofs.Lists.{or_left}
use Rattle.sn_base.proofs.OnceLemmas.{any_once, once_apart}
use Rattle.sn_refine_laws.specs.Monotone.{is_rising}

-- with some more, one list is the bag of the other
pub record IsWithin {A : Type 0} (xs ys : List A) : Type 0 where
  pub rest : List A
  pub same : SameBag (xs ++ rest) ys

pub within_same : {A : Type 0} {xs zs ys : List A} → xs ≡ zs → IsWithin xs ys → IsWithin zs ys
within_same {ys = ys} e h = subst (λ l. IsWithin l ys) e h

pub within_filter : {A : Type 0} (t : A → Bool) (xs ys : List A) → IsWithin xs ys → IsWithin (filter t xs) (filter t ys)
within_filter t xs ys h = record { rest = filter t h.rest; same = bag_then (bag_same (sym (filter-append t xs h.rest))) (bag_filter t (xs ++ h.rest) ys h.same) }

pub within_map : {A B : Type 0} (f : A → B) (xs ys : List A) → IsWithin xs ys → IsWithin (map f xs) (map f ys)
within_map f xs ys h = record { rest = map f h.rest; same = bag_then (bag_same (sym (map-append f xs h.rest))) (bag_map f (xs ++ h.rest) ys h.same) }

-- a test that finds one in the part finds one in the whole
pub within_any : {A : Type 0} (t : A → Bool) (xs ys : List A) → IsWithin xs ys → list_any t xs ≡ true → list_any t ys ≡ true
within_any t xs ys h is = sym (bag_any t (xs ++ h.rest) ys h.same) ∙ list_any-append t xs h.rest ∙ or_left (list_any t xs) (list_any t h.rest) is

-- those that pass a test are within all
pub within_passing : {A : Type 0} (t : A → Bool) (xs : List A) → IsWithin (filter t xs) xs
within_passing t xs = record { rest = filter (λ x. not (t x)) xs; same = bag_then (bag_swapped (filter t xs) (filter (λ x. not (t x)) xs)) (bag_parted t xs) }

pub within_once : (xs ys : List Row) → IsWithin xs ys → IsWithin (once same_row xs) (once same_row ys)
within_once xs ys h =
    let one : List Row = once same_row xs in
    let t : Row → Bool = λ k. list_any (same_row k) one in
    let rest : List Row = filter (λ k. not (t k)) (once same_row ys) in
    let known : (k : Row) → t k ≡ true → list_any (same_row k) ys ≡ true = λ k is.
    within_any (same_row k) xs ys h (sym (any_once nat_list_eq_equiv same_row_exact k xs) ∙ is) in
    record {
      rest = rest;
      same =
          bag_then (bag_swapped one rest)
          (bag_then (bag_before rest one (filter t (once same_row ys)) (home_bag one ys (once_apart same_row xs) known))
          (bag_parted t (once same_row ys)));
    }

-- ---- folds that rise

-- what is put to a number doesn't make it less
abbrev pub Rises : AnyFold → Type 0
Rises f = (a b : ℕ) → any_has f a → any_has f b → a ≤ any_step f a b

-- the fold of more values is at least that of some of them
pub fold_within : (f : AnyFold) → Rises f → (xs ys : List ℕ) → IsWithin xs ys → AllByRecursion (any_has f) ys → fold (any_step f) (any_unit f) xs ≤ fold (any_step f) (any_unit f) ys
fold_within f rises xs ys h had =
    let L = any_laws f in
    let step = any_step f in
    let unit = any_unit f in
    let both : AllByRecursion (any_has f) (xs ++ h.rest) = all_bag (any_has f) ys (xs ++ h.rest) (bag_back (xs ++ h.rest) ys h.same) had in
    let front = all_first (any_has f) xs h.rest both in
    let back = all_last (any_has f) xs h.rest both in
    let whole : fold step unit ys ≡ step (fold step unit xs) (fold step unit h.rest) =
    sym (fold_bag L (xs ++ h.rest) ys h.same unit L.unit_had both)
    ∙ fold_of_two L xs h.rest (All-from_recursion (any_has f) xs front) (All-from_recursion (any_has f) h.rest back) in
    subst (λ (n : ℕ). fold step unit xs ≤ n) (sym whole) (rises (fold step unit xs) (fold step unit h.rest) (fold_had L unit xs L.unit_had front) (fold_had L unit h.rest L.unit_had back))
  where
    all_first : {X : Type 0} (P : X → Type 0) (xs ys : List X) → AllByRecursion P (xs ++ ys) → AllByRecursion P xs
    all_first P [] ys h = tt
    all_first P (x ∷ xs) ys h = (h.0, all_first P xs ys h.1)

    all_last : {X : Type 0} (P : X → Type 0) (xs ys : List X) → AllByRecursion P (xs ++ ys) → AllByRecursion P ys
    all_last P [] ys h = h
    all_last P (x ∷ xs) ys h = all_last P xs ys h.1

pub rises : (f : AnyFold) → is_rising f ≡ true → Rises f
rises (SatSum f) is a b ha hb = omega (arith, ha)
rises (Max f) is a b ha hb = omega arith
rises (Min f) is a b ha hb = absurd (false≢true is)
rises (Or f) is a b ha hb = le_or_l a b
