-- The order of lists, and the order in which they are taken.
use Rattle.std.proofs.Common.{◌≡◌, ◌≢◌, ℕ, ◌≤◌, List, [], ◌∷◌, ◌++◌, Bool, true, false, refl, ap, sym, ◌∙◌, arith, Ordering, Less, Equal, Greater}
use Rattle.std.specs.Prelude.{◌||◌, ◌&&◌, ◌==◌, nat_lt, nat_eq}
use Rattle.std.specs.Ordering.{is_lt, is_gt, nat_cmp, ordering_then, ordering_reverse}
use Rattle.std.specs.Cmp.Lexicographic.{slice_cmp, pointwise}
use Rattle.std.proofs.lemmas.Bool.Decides.{Decides-eqb, nat_tests}
use Rattle.std.proofs.lemmas.Slice.Eq.{slice_eq-Decides}
use Rattle.std.proofs.lemmas.Map.Lookups.{exact_bytes}
use Rattle.std.proofs.lemmas.Cmp.{nat_list_cmp_total, upto}
use Rattle.sn_tree_space.specs.Space.{Space, stands_before, taken_before}

pub same_list : (q r : List ℕ) → pointwise nat_eq q r ≡ true → q ≡ r
same_list q r e = (slice_eq-Decides Decides-eqb q r (pointwise nat_eq q r) refl).0 e

pub list_itself : (q : List ℕ) → pointwise nat_eq q q ≡ true
list_itself q = (slice_eq-Decides Decides-eqb q q (pointwise nat_eq q q) refl).1 refl

same_number : (x : ℕ) → nat_cmp x x ≡ Equal
same_number x = grind (arith, nat_tests)

-- a list isn't after one that begins with it
pub front_first : (q more : List ℕ) → is_gt (slice_cmp nat_cmp q (q ++ more)) ≡ false
front_first [] [] = refl
front_first [] (x ∷ more) = refl
front_first (x ∷ q) more = ap (λ o. is_gt (ordering_then o (slice_cmp nat_cmp q (q ++ more)))) (same_number x) ∙ front_first q more

-- of two lists, one that isn't after and isn't the same stands before
before_other : (q r : List ℕ) (o : Ordering) → slice_cmp nat_cmp q r ≡ o → q ≢ r → is_gt o ≡ false → is_lt o ≡ true
before_other q r Less e n h = refl
before_other q r Equal e n h = absurd (n (exact_bytes q r e))
before_other q r Greater e n h = cc

pub stands_first : (q r : List ℕ) → q ≢ r → is_gt (slice_cmp nat_cmp q r) ≡ false → stands_before q r ≡ true
stands_first q r n h = before_other q r (slice_cmp nat_cmp q r) refl n h

turned : (o : Ordering) → is_lt (ordering_reverse o) ≡ false → is_gt o ≡ false
turned Less h = refl
turned Equal h = refl
turned Greater h = cc

pub not_after : (q r : List ℕ) → stands_before r q ≡ false → is_gt (slice_cmp nat_cmp q r) ≡ false
not_after q r h = turned (slice_cmp nat_cmp q r) (ap is_lt (sym (nat_list_cmp_total.antisymm r q)) ∙ h)

turned_back : (o : Ordering) → is_gt o ≡ false → is_lt (ordering_reverse o) ≡ false
turned_back Less h = refl
turned_back Equal h = refl
turned_back Greater h = cc

pub not_before : (q r : List ℕ) → is_gt (slice_cmp nat_cmp q r) ≡ false → stands_before r q ≡ false
not_before q r h = ap is_lt (nat_list_cmp_total.antisymm r q) ∙ turned_back (slice_cmp nat_cmp q r) h

pub not_after_along : (q r t : List ℕ) → is_gt (slice_cmp nat_cmp q r) ≡ false → is_gt (slice_cmp nat_cmp r t) ≡ false → is_gt (slice_cmp nat_cmp q t) ≡ false
not_after_along q r t = upto nat_list_cmp_total q r t

-- ---- the order in which lists are taken

by_bound : (a b : ℕ) (t : Bool) → (nat_lt a b || ((a == b) && t)) ≡ false → (b ≤ a) × (a ≡ b → t ≡ false)
by_bound a b t h = (grind (arith, nat_tests), λ e. grind (arith, nat_tests))

pub taken_later : (s : Space) (q r : List ℕ) → taken_before s q r ≡ false → (s.lower r ≤ s.lower q) × (s.lower q ≡ s.lower r → stands_before q r ≡ false)
taken_later s q r h = by_bound (s.lower q) (s.lower r) (stands_before q r) h

lower_bound : (a b : ℕ) (t : Bool) → a ≤ b → (a ≡ b → t ≡ true) → (nat_lt a b || ((a == b) && t)) ≡ true
lower_bound a b t h k = grind (arith, nat_tests)

pub taken_first : (s : Space) (q r : List ℕ) → s.lower q ≤ s.lower r → (s.lower q ≡ s.lower r → stands_before q r ≡ true) → taken_before s q r ≡ true
taken_first s q r h k = lower_bound (s.lower q) (s.lower r) (stands_before q r) h k
