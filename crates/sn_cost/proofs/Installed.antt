-- The prefixes that a level answers of a window number at most its tuples.
use Rattle.std.proofs.Common.{◌≡◌, ℕ, zero, suc, ◌<◌, ◌≤◌, List, [], ◌∷◌, map, filter, length, Bool, true, false, ◌||◌, cond, slice_index, slice_index_or}
use Rattle.std.proofs.Common.{unwrap_or, Option, None, Some, IsSomeAnd, refl, ap, sym, ◌∙◌, subst, arith}
use Rattle.std.proofs.lemmas.Bool.{false≢true}
use Rattle.std.proofs.lemmas.List.{length-map}
use Rattle.std.specs.List.{AllByRecursion, Contains, list_any}
use Rattle.std.specs.FinSet.{contains-from_list, len}
use Rattle.std.specs.Ordering.{nat_cmp, eq_by_cmp, is_gt}
use Rattle.std.specs.Cmp.Lexicographic.{slice_cmp}
use Rattle.std.specs.Cmp.{nat_cmp_total, eq_by_cmp_equiv, unsigned_tied}
use Rattle.sn_base.proofs.Lists.{by_test, nat_same, or_left, or_right}
use Rattle.sn_base.specs.Groups.{Row}
use Rattle.sn_base.specs.Sorted.{put_row, sorted_rows}
use Rattle.sn_fields.specs.declared.field.Field.{Field}
use Rattle.sn_ops.specs.Packets.{is_kept}
use Rattle.sn_ops.specs.Plain.{query_rows}
use Rattle.sn_refine_laws.specs.Carried.{IsFieldOf}
use Rattle.sn_refine_laws.proofs.CarriedQueries.{queries_carry}
use Rattle.sn_refine.specs.Refined.{column_of, level_rows}
use Rattle.sn_refine.specs.Steps.{prefixes_of}
use Rattle.sn_types.specs.declared.typed_query.TypedQuery.{TypedQuery}
use Rattle.sn_types.specs.Typed.{IsTyped, final_columns, query_at, read_at}
use Rattle.sn_base.proofs.SizeLemmas.{len_within}

-- what holds of all rows holds of them sorted
all_put : (P : Row → Type 0) (x : Row) (xs : List Row) → P x → AllByRecursion P xs → AllByRecursion P (put_row x xs)
all_put P x [] p h = (p, tt)
all_put P x (y ∷ xs) p h =
    (elim (is_gt (slice_cmp nat_cmp x y)) as (λ b. AllByRecursion P (cond b (y ∷ put_row x xs) (x ∷ y ∷ xs))) [ true ↦ (h.0, all_put P x xs p h.1) | false ↦ (p, h) ])

all_sorted : (P : Row → Type 0) (xs : List Row) → AllByRecursion P xs → AllByRecursion P (sorted_rows xs)
all_sorted P [] h = tt
all_sorted P (x ∷ xs) h = all_put P x (sorted_rows xs) h.0 (all_sorted P xs h.1)

-- the numbers of a field in tuples
abbrev numbers : TypedQuery → Field → ℕ → List (List ℕ) → List ℕ
numbers query field level tuples = map (λ tuple. read_at query.field level tuple field) tuples

abbrev is_same : ℕ → ℕ → Bool
is_same = eq_by_cmp nat_cmp

same_self : (n : ℕ) → is_same n n ≡ true
same_self n = let E = eq_by_cmp_equiv nat_cmp_total in E.refl n

same_exact : (n m : ℕ) → is_same n m ≡ true → n ≡ m
same_exact n m e = nat_same n m (sym (unsigned_tied n m) ∙ e)

any_at : {X : Type 0} (f : X → ℕ) (xs : List X) (k : ℕ) (x : X) → k < length xs → slice_index_or xs k x ≡ x → list_any (is_same (f x)) (map f xs) ≡ true
any_at f [] k x lt at = absurd (omega (arith, lt))
any_at f (y ∷ xs) zero x lt at = or_left (is_same (f x) (f y)) (list_any (is_same (f x)) (map f xs)) (ap (λ z. is_same (f x) (f z)) at ∙ same_self (f x))
any_at f (y ∷ xs) (suc k) x lt at = or_right (is_same (f x) (f y)) (list_any (is_same (f x)) (map f xs)) (any_at f xs k x (omega (arith, lt)) at)

every : (field : Option Field) (tuples : List (List ℕ)) → filter (is_kept field None) tuples ≡ tuples
every field [] = refl
every field (tuple ∷ tuples) = ap (λ ts. tuple ∷ ts) (every field tuples)

-- a number of the field of one of the tuples is among them
among : (query : TypedQuery) (field : Field) (level n : ℕ) (tuples : List (List ℕ)) → IsFieldOf query field level None tuples n → list_any (is_same n) (numbers query field level tuples) ≡ true
among query field level n tuples h =
    let f : List ℕ → ℕ = λ tuple. read_at query.field level tuple field in
    let in_all : Contains tuples h.0 = subst (λ (ts : List (List ℕ)). Contains ts h.0) (every query.field tuples) h.1 in
    ap (λ m. list_any (is_same m) (map f tuples)) h.2 ∙ any_at f tuples in_all.0 h.0 in_all.1 in_all.2

within : (query : TypedQuery) (field : Field) (level place q : ℕ) (tuples : List (List ℕ)) (rows : List Row) → AllByRecursion (λ row. IsFieldOf query field level None tuples (slice_index row place)) rows
    → list_any (is_same q) (map (λ row. slice_index row place) rows) ≡ true → list_any (is_same q) (numbers query field level tuples) ≡ true
within query field level place q tuples [] h any = absurd (false≢true any)
within query field level place q tuples (row ∷ rows) h any =
    by_test (is_same q (slice_index row place))
    (λ is. ap (λ n. list_any (is_same n) (numbers query field level tuples)) (same_exact q (slice_index row place) is) ∙ among query field level (slice_index row place) tuples h.0)
    (λ isnt. within query field level place q tuples rows h.1 (sym (ap (λ b. b || list_any (is_same q) (map (λ (r : Row). slice_index r place) rows)) isnt) ∙ any))

record HasPlace (o : Option ℕ) (P : ℕ → Type 0) : Type 0 where
  place : ℕ
  is : o ≡ Some place
  holds : P place

some_and : (o : Option ℕ) (P : ℕ → Type 0) → IsSomeAnd o P → HasPlace o P
some_and None P h = absurd h
some_and (Some place) P h = record { place = place; is = refl; holds = h }

-- the prefixes that a level answers of a window number at most its tuples
pub installed_few : (window q level : ℕ) (queries : List TypedQuery) (field : Field) (tuples : List (List ℕ)) → IsTyped window queries → q < length queries → (query_at queries q).field ≡ Some field →
    len (prefixes_of (query_at queries q) (level_rows (query_at queries q) level (Some tuples))) ≤ length tuples
installed_few window q level queries field tuples t lt is =
    let query : TypedQuery = query_at queries q in
    let rows : List Row = sorted_rows (query_rows query level None tuples) in
    let h = some_and query.column (λ place. (place < length (final_columns query)) × AllByRecursion (λ row. IsFieldOf query field level None tuples (slice_index row place)) (query_rows query level None tuples)) (queries_carry window q level queries field None tuples t lt is) in
    let all = all_sorted (λ row. IsFieldOf query field level None tuples (slice_index row h.place)) (query_rows query level None tuples) h.holds.1 in
    let at : column_of query rows ≡ map (λ row. slice_index row h.place) rows = ap (λ (o : Option ℕ). map (λ (row : Row). slice_index row (unwrap_or o 0)) rows) h.is in
    subst (λ (n : ℕ). len (prefixes_of query rows) ≤ n) (length-map tuples (λ (tuple : List ℕ). read_at query.field level tuple field))
    (len_within (numbers query field level tuples) (prefixes_of query rows)
    (λ p has. within query field level h.place p tuples rows all (ap (list_any (is_same p)) (sym at) ∙ sym (contains-from_list nat_cmp_total (column_of query rows) p) ∙ has)))
