-- A machine for tests, which doesn't tell the answers as they are.
use Rattle.std.specs.Prelude.{◌≡◌, ℕ, List, [], ◌∷◌, map, Bool, true, false}
use Rattle.std.specs.List.{AllByRecursion}
use Rattle.std.specs.Ordering.{nat_cmp, is_gt, ordering_reverse}
use Rattle.std.specs.Cmp.Lexicographic.{slice_cmp, nat_list_cmp_total}
use Rattle.std.proofs.Common.{Ordering, Less, Equal, Greater, cond, refl, ap, sym, subst, ◌∙◌}
use Rattle.std.proofs.lemmas.Bool.{false≢true}
use Rattle.sn_base.specs.Groups.{Row}
use Rattle.sn_base.specs.Sorted.{put_row, sorted_rows}
use Rattle.sn_base.proofs.Lists.{by_test}
use Rattle.sn_core_drive.specs.Telling.{IsSortedPart, Tells, place_of}
use Rattle.sn_types.specs.declared.answers.Answers.{Answers}
use Rattle.sn_types.specs.declared.answers.Part.{Part}
use Rattle.sn_types.specs.declared.typed_query.TypedQuery.{TypedQuery}

-- the last one is left out, if there is one
abbrev pub all_but_last : {X : Type 0} → List X → List X
all_but_last [] = []
all_but_last (x ∷ []) = []
all_but_last (x ∷ y ∷ xs) = x ∷ all_but_last (y ∷ xs)

-- the last one is changed, if there is one
abbrev pub change_last : {X : Type 0} → (X → X) → List X → List X
change_last change [] = []
change_last change (x ∷ []) = change x ∷ []
change_last change (x ∷ y ∷ xs) = x ∷ change_last change (y ∷ xs)

abbrev pub shorter : Part → Part
shorter part = record { query = part.query; level = part.level; rows = all_but_last part.rows }

-- the last row of the last part is left out
abbrev pub twisted : Answers → Answers
twisted answers = record { window = answers.window; emitted = answers.emitted; parts = change_last shorter answers.parts }

-- ---- this may be reported

abbrev gt : Row → Row → Bool
gt x y = is_gt (slice_cmp nat_cmp x y)

gt_reverse : (a b : Ordering) → a ≡ ordering_reverse b → is_gt b ≡ true → is_gt a ≡ false
gt_reverse a Less e is = absurd (false≢true is)
gt_reverse a Equal e is = absurd (false≢true is)
gt_reverse a Greater e is = ap is_gt e

turn : (x y : Row) → gt x y ≡ true → gt y x ≡ false
turn x y is = gt_reverse (slice_cmp nat_cmp y x) (slice_cmp nat_cmp x y) (nat_list_cmp_total.antisymm y x) is

abbrev IsFirst : Row → List Row → Type 0
IsFirst y [] = Unit {0}
IsFirst y (x ∷ xs) = gt y x ≡ false

abbrev AreInOrder : List Row → Type 0
AreInOrder [] = Unit {0}
AreInOrder (x ∷ xs) = IsFirst x xs × AreInOrder xs

put_first : (x y : Row) (ys : List Row) → gt y x ≡ false → IsFirst y ys → IsFirst y (put_row x ys)
put_first x y [] h k = h
put_first x y (z ∷ zs) h k =
    by_test (gt x z)
    (λ is. subst (λ b. IsFirst y (cond b (z ∷ put_row x zs) (x ∷ z ∷ zs))) (sym is) k)
    (λ isnt. subst (λ b. IsFirst y (cond b (z ∷ put_row x zs) (x ∷ z ∷ zs))) (sym isnt) h)

put_in_order : (x : Row) (ys : List Row) → AreInOrder ys → AreInOrder (put_row x ys)
put_in_order x [] h = (tt, tt)
put_in_order x (y ∷ ys) h =
    by_test (gt x y)
    (λ is. subst (λ b. AreInOrder (cond b (y ∷ put_row x ys) (x ∷ y ∷ ys))) (sym is) (put_first x y ys (turn x y is) h.0, put_in_order x ys h.1))
    (λ isnt. subst (λ b. AreInOrder (cond b (y ∷ put_row x ys) (x ∷ y ∷ ys))) (sym isnt) (isnt, h))

sorted_in_order : (xs : List Row) → AreInOrder (sorted_rows xs)
sorted_in_order [] = tt
sorted_in_order (x ∷ xs) = put_in_order x (sorted_rows xs) (sorted_in_order xs)

put_stays : (x : Row) (xs : List Row) → IsFirst x xs → put_row x xs ≡ x ∷ xs
put_stays x [] h = refl
put_stays x (y ∷ ys) h = ap (λ b. cond b (y ∷ put_row x ys) (x ∷ y ∷ ys)) h

in_order_sorted : (xs : List Row) → AreInOrder xs → sorted_rows xs ≡ xs
in_order_sorted [] h = refl
in_order_sorted (x ∷ xs) h = ap (put_row x) (in_order_sorted xs h.1) ∙ put_stays x xs h.0

less_first : (x y : Row) (xs : List Row) → IsFirst x (y ∷ xs) → IsFirst x (all_but_last (y ∷ xs))
less_first x y [] h = tt
less_first x y (z ∷ zs) h = h

less_in_order : (xs : List Row) → AreInOrder xs → AreInOrder (all_but_last xs)
less_in_order [] h = tt
less_in_order (x ∷ []) h = tt
less_in_order (x ∷ y ∷ xs) h = (less_first x y xs h.0, less_in_order (y ∷ xs) h.1)

less_sorted : (xs : List Row) → sorted_rows xs ≡ xs → sorted_rows (all_but_last xs) ≡ all_but_last xs
less_sorted xs e = in_order_sorted (all_but_last xs) (less_in_order xs (subst AreInOrder e (sorted_in_order xs)))

all_less : {X : Type 0} (P : X → Type 0) (xs : List X) → AllByRecursion P xs → AllByRecursion P (all_but_last xs)
all_less P [] h = tt
all_less P (x ∷ []) h = tt
all_less P (x ∷ y ∷ xs) h = (h.0, all_less P (y ∷ xs) h.1)

shorter_part : (queries : List TypedQuery) (part : Part) → IsSortedPart queries part → IsSortedPart queries (shorter part)
shorter_part queries part h =
    record { part = record { query = h.part.query; rows = all_less _ part.rows h.part.rows }; sorted = less_sorted part.rows h.sorted }

same_places : (parts : List Part) → map place_of (change_last shorter parts) ≡ map place_of parts
same_places [] = refl
same_places (x ∷ []) = refl
same_places (x ∷ y ∷ xs) = ap (λ (rest : List (ℕ × ℕ)). place_of x ∷ rest) (same_places (y ∷ xs))

changed_parts : (queries : List TypedQuery) (parts : List Part) → AllByRecursion (IsSortedPart queries) parts
    → AllByRecursion (IsSortedPart queries) (change_last shorter parts)
changed_parts queries [] h = tt
changed_parts queries (x ∷ []) h = (shorter_part queries x h.0, tt)
changed_parts queries (x ∷ y ∷ xs) h = (h.0, changed_parts queries (y ∷ xs) h.1)

pub twisted_tells : (queries : List TypedQuery) (answers : Answers) → Tells queries answers (twisted answers)
twisted_tells queries answers = record { window = refl; emitted = refl; places = same_places answers.parts; rows = changed_parts queries answers.parts }
