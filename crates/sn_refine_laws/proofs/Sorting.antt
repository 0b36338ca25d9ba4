-- A filter of sorted rows.
use Rattle.std.proofs.Common.{Ordering, Less, Equal, Greater, ◌≡◌, List, [], ◌∷◌, filter, Bool, true, false, cond, refl, ap, sym, ◌∙◌, subst}
use Rattle.std.specs.List.{AllByRecursion}
use Rattle.std.specs.Ordering.{nat_cmp, is_gt, ordering_reverse}
use Rattle.std.specs.Cmp.Lexicographic.{slice_cmp, nat_list_cmp_total}
use Rattle.std.proofs.lemmas.Bool.{false≢true}
use Rattle.std.proofs.lemmas.Cmp.{upto}
use Rattle.sn_base.specs.Bags.{SameBag}
use Rattle.sn_base.specs.Bags.SameBag.{stays, following, turned}
use Rattle.sn_base.specs.Groups.{Row}
use Rattle.sn_base.specs.Sorted.{put_row, sorted_rows}
use Rattle.sn_base.proofs.BagLemmas.{bag_back, bag_filter, bag_then}
use Rattle.sn_base.proofs.Lists.{all_filter, all_weaker, by_test}
use Rattle.sn_base.proofs.SortLemmas.{sort_bag}

abbrev pub gt : Row → Row → Bool
gt x y = is_gt (slice_cmp nat_cmp x y)

-- no row is above one after it
abbrev pub AreOrdered : List Row → Type 0
AreOrdered [] = Unit {0}
AreOrdered (x ∷ xs) = AllByRecursion (λ y. gt x y ≡ false) xs × AreOrdered xs

turn : (x y : Row) → gt x y ≡ true → gt y x ≡ false
turn x y is = gt_reverse (slice_cmp nat_cmp y x) (slice_cmp nat_cmp x y) (nat_list_cmp_total.antisymm y x) is
  where
    gt_reverse : (a b : Ordering) → a ≡ ordering_reverse b → is_gt b ≡ true → is_gt a ≡ false
    gt_reverse a Less e is = absurd (false≢true is)
    gt_reverse a Equal e is = absurd (false≢true is)
    gt_reverse a Greater e is = ap is_gt e

all_put : (P : Row → Type 0) (x : Row) (ys : List Row) → P x → AllByRecursion P ys → AllByRecursion P (put_row x ys)
all_put P x [] h all = (h, tt)
all_put P x (y ∷ ys) h all =
    elim (gt x y) as (λ b. AllByRecursion P (cond b (y ∷ put_row x ys) (x ∷ y ∷ ys))) [
      | true ↦ (all.0, all_put P x ys h all.1)
      | false ↦ (h, all)
    ]

pub sorted_all : (P : Row → Type 0) (xs : List Row) → AllByRecursion P xs → AllByRecursion P (sorted_rows xs)
sorted_all P [] h = tt
sorted_all P (x ∷ xs) h = all_put P x (sorted_rows xs) h.0 (sorted_all P xs h.1)

ordered_put : (x : Row) (ys : List Row) → AreOrdered ys → AreOrdered (put_row x ys)
ordered_put x [] h = (tt, tt)
ordered_put x (y ∷ ys) h =
    by_test (gt x y)
    (λ is. subst (λ (b : Bool). AreOrdered (cond b (y ∷ put_row x ys) (x ∷ y ∷ ys))) (sym is) (all_put (λ z. gt y z ≡ false) x ys (turn x y is) h.0, ordered_put x ys h.1))
    (λ isnt. subst (λ (b : Bool). AreOrdered (cond b (y ∷ put_row x ys) (x ∷ y ∷ ys))) (sym isnt)
    ((isnt, all_weaker (λ z. gt y z ≡ false) (λ z. gt x z ≡ false) (λ z far. upto nat_list_cmp_total x y z isnt far) ys h.0), h))

pub ordered : (xs : List Row) → AreOrdered (sorted_rows xs)
ordered [] = tt
ordered (x ∷ xs) = ordered_put x (sorted_rows xs) (ordered xs)

ordered_filter : (t : Row → Bool) (xs : List Row) → AreOrdered xs → AreOrdered (filter t xs)
ordered_filter t [] h = tt
ordered_filter t (x ∷ xs) h =
    elim (t x) as (λ b. AreOrdered (cond b (x ∷ filter t xs) (filter t xs))) [
      | true ↦ (all_filter (λ y. gt x y ≡ false) t xs h.0, ordered_filter t xs h.1)
      | false ↦ ordered_filter t xs h.1
    ]

stays_sorted : (xs : List Row) → AreOrdered xs → sorted_rows xs ≡ xs
stays_sorted [] h = refl
stays_sorted (x ∷ []) h = refl
stays_sorted (x ∷ y ∷ ys) h = ap (put_row x) (stays_sorted (y ∷ ys) h.1) ∙ ap (λ b. cond b (y ∷ put_row x ys) (x ∷ y ∷ ys)) h.0.0

put_bag : (x : Row) (ys : List Row) → SameBag (put_row x ys) (x ∷ ys)
put_bag x [] = stays (x ∷ [])
put_bag x (y ∷ ys) =
    elim (gt x y) as (λ b. SameBag (cond b (y ∷ put_row x ys) (x ∷ y ∷ ys)) (x ∷ y ∷ ys)) [
      | true ↦ bag_then (following y (put_row x ys) (x ∷ ys) (put_bag x ys)) (turned y x ys)
      | false ↦ stays (x ∷ y ∷ ys)
    ]

pub sorted_bag : (xs : List Row) → SameBag (sorted_rows xs) xs
sorted_bag [] = stays []
sorted_bag (x ∷ xs) = bag_then (put_bag x (sorted_rows xs)) (following x (sorted_rows xs) xs (sorted_bag xs))

-- rows may be kept before they are sorted or after it
pub sorted_filter : (t : Row → Bool) (xs : List Row) → sorted_rows (filter t xs) ≡ filter t (sorted_rows xs)
sorted_filter t xs =
    sort_bag (filter t xs) (filter t (sorted_rows xs)) (bag_filter t xs (sorted_rows xs) (bag_back (sorted_rows xs) xs (sorted_bag xs)))
    ∙ stays_sorted (filter t (sorted_rows xs)) (ordered_filter t (sorted_rows xs) (ordered xs))
