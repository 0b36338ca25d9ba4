-- Sorted rows: one list for each bag, and what a sort gives.
use Rattle.std.proofs.Common.{Ordering, Less, Equal, Greater, ◌≡◌, ◌<◌, ◌+◌, ℕ, zero, suc, List, [], ◌∷◌, length, get_or, set, Bool, true, false, cond, refl, ap, sym, ◌∙◌, subst, arith}
use Rattle.std.proofs.lemmas.Bool.{false≢true}
use Rattle.std.specs.List.{swap}
use Rattle.std.specs.List.Sorted.{IsPermutation, IsSorted}
use Rattle.std.proofs.lemmas.List.Sorted.{IsPermutation-keeps}
use Rattle.std.proofs.lemmas.List.Edits.{swap_is}
use Rattle.std.specs.Ordering.{nat_cmp, is_gt, is_lt, is_eq, ordering_reverse}
use Rattle.std.specs.Cmp.Lexicographic.{slice_cmp, nat_list_cmp_total, texts_ties}
use Rattle.std.proofs.lemmas.Cmp.{upto}
use Rattle.sn_base.specs.Bags.{SameBag}
use Rattle.sn_base.specs.Bags.SameBag.{stays, following, turned, joined}
use Rattle.sn_base.specs.Groups.{Row}
use Rattle.sn_base.specs.Sorted.{put_row, sorted_rows}
use Rattle.sn_base.proofs.Lists.{by_test}
use Rattle.sn_base.proofs.BagLemmas.{bag_then}
use Rattle.sn_base.proofs.FoldedLemmas.{same_row_exact}

abbrev gt : Row → Row → Bool
gt x y = is_gt (slice_cmp nat_cmp x y)

gt_reverse : (a b : Ordering) → a ≡ ordering_reverse b → is_gt b ≡ true → is_gt a ≡ false
gt_reverse a Less e is = absurd (false≢true is)
gt_reverse a Equal e is = absurd (false≢true is)
gt_reverse a Greater e is = ap is_gt e

equal_from : (a b : Ordering) → a ≡ ordering_reverse b → is_gt a ≡ false → is_gt b ≡ false → a ≡ Equal
equal_from a Less e ha hb = absurd (false≢true (sym ha ∙ ap is_gt e))
equal_from a Equal e ha hb = e
equal_from a Greater e ha hb = absurd (false≢true (sym hb))

turn : (x y : Row) → gt x y ≡ true → gt y x ≡ false
turn x y is = gt_reverse (slice_cmp nat_cmp y x) (slice_cmp nat_cmp x y) (nat_list_cmp_total.antisymm y x) is

apart_rows : (x y : Row) → gt x y ≡ false → gt y x ≡ false → x ≡ y
apart_rows x y h k =
    same_row_exact x y (texts_ties x y ∙ ap is_eq (equal_from (slice_cmp nat_cmp x y) (slice_cmp nat_cmp y x) (nat_list_cmp_total.antisymm x y) h k))

yes_put : (x y : Row) (ys : List Row) → gt x y ≡ true → put_row x (y ∷ ys) ≡ y ∷ put_row x ys
yes_put x y ys is = ap (λ b. cond b (y ∷ put_row x ys) (x ∷ y ∷ ys)) is

no_put : (x y : Row) (ys : List Row) → gt x y ≡ false → put_row x (y ∷ ys) ≡ x ∷ y ∷ ys
no_put x y ys isnt = ap (λ b. cond b (y ∷ put_row x ys) (x ∷ y ∷ ys)) isnt

-- two insertions may be exchanged
put_greater : (x y : Row) → gt x y ≡ true → (zs : List Row) → put_row x (put_row y zs) ≡ put_row y (put_row x zs)
put_greater x y is [] = yes_put x y [] is ∙ sym (no_put y x [] (turn x y is))
put_greater x y is (z ∷ zs) =
    by_test (gt y z)
    (λ yz. let xz : gt x z ≡ true = by_test (gt x z) (λ e. e) (λ e. absurd (false≢true (sym (upto nat_list_cmp_total x z y e (turn y z yz)) ∙ is))) in
    ap (put_row x) (yes_put y z zs yz) ∙ yes_put x z (put_row y zs) xz ∙ ap (λ ws. z ∷ ws) (put_greater x y is zs)
    ∙ sym (ap (put_row y) (yes_put x z zs xz) ∙ yes_put y z (put_row x zs) yz))
    (λ zy. ap (put_row x) (no_put y z zs zy) ∙ yes_put x y (z ∷ zs) is
    ∙ sym (by_test (gt x z)
    (λ xz. ap (put_row y) (yes_put x z zs xz) ∙ no_put y z (put_row x zs) zy ∙ ap (λ ws. y ∷ ws) (sym (yes_put x z zs xz)))
    (λ zx. ap (put_row y) (no_put x z zs zx) ∙ no_put y x (z ∷ zs) (turn x y is) ∙ ap (λ ws. y ∷ ws) (sym (no_put x z zs zx)))))

put_turned : (x y : Row) (zs : List Row) → put_row x (put_row y zs) ≡ put_row y (put_row x zs)
put_turned x y zs =
    by_test (gt x y)
    (λ is. put_greater x y is zs)
    (λ isnt. by_test (gt y x)
    (λ is. sym (put_greater y x is zs))
    (λ neither. subst (λ (w : Row). put_row x (put_row w zs) ≡ put_row w (put_row x zs)) (apart_rows x y isnt neither) refl))

-- equal bags have one order
pub sort_bag : (xs ys : List Row) → SameBag xs ys → sorted_rows xs ≡ sorted_rows ys
sort_bag _ _ (stays xs) = refl
sort_bag _ _ (following x xs ys b) = ap (put_row x) (sort_bag xs ys b)
sort_bag _ _ (turned x y xs) = put_turned x y (sorted_rows xs)
sort_bag _ _ (joined xs ys zs b c) = sort_bag xs ys b ∙ sort_bag ys zs c

-- ---- from a sort as std says it

bag_put : {A : Type 0} (x : A) (xs : List A) (j : ℕ) (d : A) → j < length xs → SameBag (x ∷ xs) (get_or xs j d ∷ set xs j x)
bag_put x [] j d lt = absurd (omega arith)
bag_put x (y ∷ ys) zero d lt = turned x y ys
bag_put x (y ∷ ys) (suc j) d lt =
    bag_then (turned x y ys) (bag_then (following y (x ∷ ys) (get_or ys j d ∷ set ys j x) (bag_put x ys j d (omega arith))) (turned y (get_or ys j d) (set ys j x)))

bag_swapped : {A : Type 0} (xs : List A) (i j : ℕ) (d : A) → i < length xs → j < length xs → SameBag xs (set (set xs i (get_or xs j d)) j (get_or xs i d))
bag_swapped [] i j d li lj = absurd (omega arith)
bag_swapped (x ∷ xs) zero zero d li lj = stays (x ∷ xs)
bag_swapped (x ∷ xs) zero (suc j) d li lj = bag_put x xs j d (omega arith)
bag_swapped (x ∷ xs) (suc i) zero d li lj = bag_put x xs i d (omega arith)
bag_swapped (x ∷ xs) (suc i) (suc j) d li lj = following x xs (set (set xs i (get_or xs j d)) j (get_or xs i d)) (bag_swapped xs i j d (omega arith) (omega arith))

swap_bag : (xs : List Row) (i j : ℕ) → i < length xs → j < length xs → SameBag xs (swap xs i j)
swap_bag xs i j li lj = subst (SameBag xs) (swap_is xs i j [] li lj) (bag_swapped xs i j [] li lj)

pub bag_of_permutation : (xs ys : List Row) → IsPermutation xs ys → SameBag xs ys
bag_of_permutation xs ys h = IsPermutation-keeps xs (SameBag xs) (stays xs) (λ l i j li lj b. bag_then b (swap_bag l i j li lj)) ys h

lt_gt : (a b : Ordering) → a ≡ ordering_reverse b → is_lt b ≡ false → is_gt a ≡ false
lt_gt a Less e h = absurd (false≢true (sym h))
lt_gt a Equal e h = ap is_gt e
lt_gt a Greater e h = ap is_gt e

sorted_stays : (xs : List Row) → IsSorted (slice_cmp nat_cmp) xs → sorted_rows xs ≡ xs
sorted_stays [] h = refl
sorted_stays (x ∷ []) h = refl
sorted_stays (x ∷ y ∷ ys) h =
    ap (put_row x) (sorted_stays (y ∷ ys) (λ k d low high. let e : suc k + 1 ≡ suc (k + 1) = omega arith in
    subst (λ (n : ℕ). is_lt (slice_cmp nat_cmp (get_or (x ∷ y ∷ ys) n d) (get_or (y ∷ ys) k d)) ≡ false) e (h (suc k) d (omega arith) (omega arith))))
    ∙ no_put x y ys (lt_gt (slice_cmp nat_cmp x y) (slice_cmp nat_cmp y x) (nat_list_cmp_total.antisymm x y) (h 0 [] (omega arith) (omega arith)))

-- what a sort gives is the rows in order
pub sorted_is : (xs out : List Row) → IsPermutation xs out → IsSorted (slice_cmp nat_cmp) out → out ≡ sorted_rows xs
sorted_is xs out p s = sym (sorted_stays out s) ∙ sym (sort_bag xs out (bag_of_permutation xs out p))
