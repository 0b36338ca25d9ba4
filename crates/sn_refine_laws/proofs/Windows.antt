-- Refined answers over windows: no false row, and a bounded delay.
use Rattle.std.proofs.Common.{◌≡◌, ℕ, zero, suc, ◌+◌, ◌-◌, ◌<◌, ◌≤◌, List, [], ◌∷◌, filter, length, Bool, true, false, ◌||◌, nat_eq, slice_index, Option, None, Some, IsSomeAnd, unwrap_or, refl, ap, sym, ◌∙◌, subst, arith}
use Rattle.std.specs.List.{AllByRecursion, list_any}
use Rattle.std.specs.FinSet as set
use Rattle.std.specs.Option.{option_map}
use Rattle.std.proofs.lemmas.Bool.{false≢true}
use Rattle.sn_base.proofs.BagLemmas.{bag_any, bag_map}
use Rattle.sn_base.proofs.Lists.{all_filter, by_test, filter_within, nat_same}
use Rattle.sn_base.specs.Groups.{Row}
use Rattle.sn_base.specs.Mask.{masked}
use Rattle.sn_base.specs.Sorted.{sorted_rows}
use Rattle.sn_fields.specs.declared.field.Field.{Field}
use Rattle.sn_fields.specs.Fields.{number_of, width_of}
use Rattle.sn_ops.specs.Plain.{query_rows}
use Rattle.sn_refine_laws.specs.Carried.{IsFieldOf}
use Rattle.sn_refine_laws.proofs.CarriedQueries.{queries_carry}
use Rattle.sn_refine.specs.Refined.{Windows, answered, before, column_of, is_in, level_rows, refined_rows}
use Rattle.sn_refine.specs.Steps.{Set, is_held}
use Rattle.sn_types.specs.Typed.{HasWidths, IsTyped, final_columns, finest_level, query_at, read_at}
use Rattle.sn_types.specs.declared.typed_query.TypedQuery.{TypedQuery}
use Rattle.sn_refine_laws.specs.Monotone.{is_monotone}
use Rattle.sn_refine_laws.specs.Reported.{has_prefix, is_reported}
use Rattle.sn_refine_laws.proofs.Levels.{masked_twice, read_masked}
use Rattle.sn_refine_laws.proofs.Prefixes.{queries_filtered}
use Rattle.sn_refine_laws.proofs.Queries.{AreSeen, level_range, queries_answer}
use Rattle.sn_refine_laws.proofs.Sorting.{sorted_bag, sorted_filter}
use Rattle.sn_refine_laws.proofs.Within.{IsWithin, within_passing, within_same}

-- a level on the tuples with some prefixes has those rows of its answers to all tuples that have the prefixes
pub level_filtered : (window q level bits : ℕ) (queries : List TypedQuery) (field : Field) (rows : List Row) (tuples : List (List ℕ)) → IsTyped window queries → q < length queries → (query_at queries q).field ≡ Some field → list_any (nat_eq level) (query_at queries q).levels ≡ true → bits ≤ level →
    level_rows (query_at queries q) level (Some (answered (query_at queries q) bits rows tuples))
    ≡ filter (has_prefix (query_at queries q) field bits (column_of (query_at queries q) rows)) (level_rows (query_at queries q) level (Some tuples))
level_filtered window q level bits queries field rows tuples t lt is_field among le =
    let query : TypedQuery = query_at queries q in
    let prefixes : List ℕ = column_of query rows in
    let keep : ℕ → Bool = λ n. list_any (nat_eq n) prefixes in
    let test : List ℕ → Bool = λ tuple. keep (masked (width_of field) bits (slice_index tuple (number_of field))) in
    let seen : answered query bits rows tuples ≡ filter test tuples = ap (λ o. filter (is_in o bits prefixes) tuples) is_field in
    ap (λ ts. sorted_rows (query_rows query level None ts)) seen
    ∙ ap sorted_rows (queries_filtered window q level bits queries field keep tuples t lt is_field among le)
    ∙ sorted_filter (has_prefix query field bits prefixes) (query_rows query level None tuples)

-- ---- no false row

pub no_false_row : (window q j w : ℕ) (queries : List TypedQuery) (field : Field) (windows : Windows) (path : List ℕ) → IsTyped window queries → q < length queries → (query_at queries q).field ≡ Some field
    → list_any (nat_eq (slice_index path (suc j))) (query_at queries q).levels ≡ true → slice_index path j ≤ slice_index path (suc j) →
    (let query : TypedQuery = query_at queries q in refined_rows query windows path (suc j) w
    ≡ filter (has_prefix query field (slice_index path j) (column_of query (before (refined_rows query windows path j) w))) (level_rows query (slice_index path (suc j)) (windows w)))
no_false_row window q j w queries field windows path t lt is_field among le =
    let query : TypedQuery = query_at queries q in
    let rows : List Row = before (refined_rows query windows path j) w in
    let test : Row → Bool = has_prefix query field (slice_index path j) (column_of query rows) in
    elim (windows w) as (λ o. level_rows query (slice_index path (suc j)) (option_map (answered query (slice_index path j) rows) o) ≡ filter test (level_rows query (slice_index path (suc j)) o)) [
      | None ↦ refl
      | Some tuples ↦ level_filtered window q (slice_index path (suc j)) (slice_index path j) queries field rows tuples t lt is_field among le
    ]

-- ---- bounded delay

reported_sorted : (query : TypedQuery) (rows : List Row) (a : ℕ) → is_reported query (sorted_rows rows) a ≡ is_reported query rows a
reported_sorted query rows a = bag_any (nat_eq a) (column_of query (sorted_rows rows)) (column_of query rows) (bag_map (λ row. slice_index row (unwrap_or query.column 0)) (sorted_rows rows) rows (sorted_bag rows))

module _ (window q : ℕ) (queries : List TypedQuery) (field : Field) (typed : IsTyped window queries) (lt : q < length queries) (is_field : (query_at queries q).field ≡ Some field) (mono : is_monotone (query_at queries q) ≡ true) (a : ℕ) where
  abbrev the : TypedQuery
  the = query_at queries q

  abbrev prefix : ℕ → ℕ
  prefix bits = masked (width_of field) bits a

  -- on all tuples
  pub reported_first : (level : ℕ) (tuples : List (List ℕ)) → list_any (nat_eq level) the.levels ≡ true → AllByRecursion HasWidths tuples → is_reported the (level_rows the (finest_level the) (Some tuples)) a ≡ true → is_reported the (level_rows the level (Some tuples)) (prefix level) ≡ true
  reported_first level tuples among widths is =
      reported_sorted the (query_rows the level None tuples) (prefix level)
      ∙ queries_answer window q level a queries field tuples tuples typed lt is_field mono among widths (within_passing _ tuples) (sym (reported_sorted the (query_rows the (finest_level the) None tuples) a) ∙ is)

  -- on the tuples whose prefix passes a test, which its own does
  pub reported_seen : (level bits : ℕ) (keep : ℕ → Bool) (tuples : List (List ℕ)) → list_any (nat_eq level) the.levels ≡ true → bits ≤ finest_level the → AllByRecursion HasWidths tuples → keep (prefix bits) ≡ true → is_reported the (level_rows the (finest_level the) (Some tuples)) a ≡ true →
      is_reported the (level_rows the level (Some (filter (λ tuple. keep (masked (width_of field) bits (slice_index tuple (number_of field)))) tuples))) (prefix level) ≡ true
  reported_seen level bits keep tuples among le widths passes is =
      let F : ℕ = finest_level the in
      let range = level_range window q level queries field typed lt is_field among in
      let some = range.some in
      let high = range.le in
      let test : List ℕ → Bool = λ tuple. keep (masked (width_of field) bits (slice_index tuple (number_of field))) in
      let mine : List ℕ → Bool = λ tuple. nat_eq a (read_at (Some field) F tuple field) in
      let all : (tuple : List ℕ) → mine tuple ≡ true → test tuple ≡ true = λ tuple here.
      let e : a ≡ masked (width_of field) F (slice_index tuple (number_of field)) = nat_same a (read_at (Some field) F tuple field) here ∙ read_masked field F tuple (omega (arith, some, high)) in
      ap keep (sym (masked_twice (width_of field) bits F (slice_index tuple (number_of field)) le range.within) ∙ ap (masked (width_of field) bits) (sym e)) ∙ passes in
      let sees : AreSeen the field a tuples (filter test tuples) =
      subst (λ (o : Option Field). IsWithin (filter (λ tuple. nat_eq a (read_at o F tuple field)) tuples) (filter test tuples)) (sym is_field)
      (within_same (filter_within mine test all tuples) (within_passing mine (filter test tuples))) in
      reported_sorted the (query_rows the level None (filter test tuples)) (prefix level)
      ∙ queries_answer window q level a queries field tuples (filter test tuples) typed lt is_field mono among (all_filter HasWidths test tuples widths) sees (sym (reported_sorted the (query_rows the F None tuples) a) ∙ is)

  -- on the tuples with the prefixes of some rows, of which it is one
  pub reported_next : (level bits : ℕ) (rows : List Row) (tuples : List (List ℕ)) → list_any (nat_eq level) the.levels ≡ true → bits ≤ finest_level the → AllByRecursion HasWidths tuples → is_reported the rows (prefix bits) ≡ true → is_reported the (level_rows the (finest_level the) (Some tuples)) a ≡ true →
      is_reported the (level_rows the level (Some (answered the bits rows tuples))) (prefix level) ≡ true
  reported_next level bits rows tuples among le widths before is =
      ap (λ o. is_reported the (level_rows the level (Some (filter (is_in o bits (column_of the rows)) tuples))) (prefix level)) is_field
      ∙ reported_seen level bits (λ n. list_any (nat_eq n) (column_of the rows)) tuples among le widths before is

  -- on the tuples whose prefix is in a set, which has its own
  pub reported_held : (level bits : ℕ) (held : Set) (tuples : List (List ℕ)) → list_any (nat_eq level) the.levels ≡ true → bits ≤ finest_level the → AllByRecursion HasWidths tuples → set.contains held (prefix bits) ≡ true → is_reported the (level_rows the (finest_level the) (Some tuples)) a ≡ true →
      is_reported the (level_rows the level (Some (filter (is_held the.field bits held) tuples))) (prefix level) ≡ true
  reported_held level bits held tuples among le widths before is =
      ap (λ o. is_reported the (level_rows the level (Some (filter (is_held o bits held) tuples))) (prefix level)) is_field
      ∙ reported_seen level bits (set.contains held) tuples among le widths before is

  by_some : {X G : Type 0} (o : Option X) → (o ≡ None → G) → ((x : X) → o ≡ Some x → G) → G
  by_some None none some = none refl
  by_some (Some x) none some = some x refl

  never_reported : (v : Option (List (List ℕ))) → v ≡ None → is_reported the (level_rows the (finest_level the) v) a ≡ true → ⊥
  never_reported v none is = false≢true (sym (ap (λ o. is_reported the (level_rows the (finest_level the) o) a) none) ∙ is)

  module _ (windows : Windows) (path : List ℕ) (w : ℕ) (known : (j : ℕ) → j < length path → list_any (nat_eq (slice_index path j)) the.levels ≡ true) (widths : (v : ℕ) (tuples : List (List ℕ)) → windows v ≡ Some tuples → AllByRecursion HasWidths tuples) where
    -- a number that the unrefined query answers in the windows from w on has its prefix in the answers of the level of each place
    pub reported_along : (j : ℕ) → j < length path → ((i : ℕ) → i ≤ j → is_reported the (level_rows the (finest_level the) (windows (w + i))) a ≡ true) → is_reported the (refined_rows the windows path j (w + j)) (prefix (slice_index path j)) ≡ true
    reported_along zero within reported =
        by_some (windows (w + 0))
        (λ none. absurd (never_reported (windows (w + 0)) none (reported 0 (omega arith))))
        (λ tuples some. ap (λ o. is_reported the (level_rows the (slice_index path 0) o) (prefix (slice_index path 0))) some
        ∙ reported_first (slice_index path 0) tuples (known 0 within) (widths (w + 0) tuples some) (sym (ap (λ o. is_reported the (level_rows the (finest_level the) o) a) some) ∙ reported 0 (omega arith)))
    reported_along (suc j) within reported =
        let next : suc (w + j) ≡ w + suc j = omega arith in
        let rows : List Row = refined_rows the windows path j (w + j) in
        let level : ℕ = slice_index path (suc j) in
        let bits : ℕ = slice_index path j in
        let earlier : j < length path = omega (arith, within) in
        let so_far = reported_along j earlier (λ i le. reported i (omega (arith, le))) in
        let below = (level_range window q bits queries field typed lt is_field (known j earlier)).le in
        subst (λ (v : ℕ). is_reported the (refined_rows the windows path (suc j) v) (prefix level) ≡ true) next
        (by_some (windows (suc (w + j)))
        (λ none. absurd (never_reported (windows (w + suc j)) (ap windows (sym next) ∙ none) (reported (suc j) (omega arith))))
        (λ tuples some. ap (λ o. is_reported the (level_rows the level (option_map (answered the bits rows) o)) (prefix level)) some
        ∙ reported_next level bits rows tuples (known (suc j) within) below (widths (suc (w + j)) tuples some) so_far
        (sym (ap (λ o. is_reported the (level_rows the (finest_level the) o) a) (ap windows (sym next) ∙ some)) ∙ reported (suc j) (omega arith))))

  -- ---- what is reported at the finest level has no bits after it

  own_prefix : (tuples : List (List ℕ)) (rows : List Row) → AllByRecursion (λ row. IsFieldOf the field (finest_level the) None tuples (slice_index row (unwrap_or the.column 0))) rows → 1 ≤ finest_level the → finest_level the ≤ width_of field → is_reported the rows a ≡ true → prefix (finest_level the) ≡ a
  own_prefix tuples [] each some within is = absurd (false≢true is)
  own_prefix tuples (row ∷ rows) each some within is =
      let n : ℕ = slice_index row (unwrap_or the.column 0) in
      by_test (nat_eq a n)
      (λ here. let F : ℕ = finest_level the in
      let tuple = each.0.0 in
      let x : ℕ = slice_index tuple (number_of field) in
      let e : a ≡ masked (width_of field) F x = nat_same a n here ∙ each.0.2 ∙ ap (λ (o : Option Field). read_at o F tuple field) is_field ∙ read_masked field F tuple some in
      ap (masked (width_of field) F) e ∙ masked_twice (width_of field) F F x (omega arith) within ∙ sym e)
      (λ isnt. own_prefix tuples rows each.1 some within (sym (ap (λ b. b || is_reported the rows a) isnt) ∙ is))

  pub reported_own : (tuples : List (List ℕ)) → list_any (nat_eq (finest_level the)) the.levels ≡ true → is_reported the (level_rows the (finest_level the) (Some tuples)) a ≡ true → prefix (finest_level the) ≡ a
  reported_own tuples among is =
      let range = level_range window q (finest_level the) queries field typed lt is_field among in
      let rows : List Row = query_rows the (finest_level the) None tuples in
      own_prefix tuples rows (each the.column (queries_carry window q (finest_level the) queries field None tuples typed lt is_field)) range.some range.within (sym (reported_sorted the rows a) ∙ is)
    where
      each : (o : Option ℕ) → IsSomeAnd o (λ place. (place < length (final_columns the)) × AllByRecursion (λ row. IsFieldOf the field (finest_level the) None tuples (slice_index row place)) (query_rows the (finest_level the) None tuples)) →
          AllByRecursion (λ row. IsFieldOf the field (finest_level the) None tuples (slice_index row (unwrap_or o 0))) (query_rows the (finest_level the) None tuples)
      each None h = absurd h
      each (Some place) h = h.1

  -- a number that the unrefined query answers in as many windows in a row as the path has levels is in the refined answers of the last
  pub reported_in_time : (windows : Windows) (path : List ℕ) (w last : ℕ) → length path ≡ suc last → slice_index path last ≡ finest_level the → ((j : ℕ) → j < length path → list_any (nat_eq (slice_index path j)) the.levels ≡ true) → ((v : ℕ) (tuples : List (List ℕ)) → windows v ≡ Some tuples → AllByRecursion HasWidths tuples)
      → ((i : ℕ) → i ≤ last → is_reported the (level_rows the (finest_level the) (windows (w + i))) a ≡ true) → is_reported the (refined_rows the windows path last (w + last)) a ≡ true
  reported_in_time windows path w last long finest known widths reported =
      let within : last < length path = omega (arith, long) in
      let among : list_any (nat_eq (finest_level the)) the.levels ≡ true = subst (λ (n : ℕ). list_any (nat_eq n) the.levels ≡ true) finest (known last within) in
      let here = reported last (omega arith) in
      let own : prefix (slice_index path last) ≡ a =
      by_some (windows (w + last))
      (λ none. absurd (never_reported (windows (w + last)) none here))
      (λ tuples some. ap prefix finest ∙ reported_own tuples among (sym (ap (λ o. is_reported the (level_rows the (finest_level the) o) a) some) ∙ here)) in
      subst (λ (n : ℕ). is_reported the (refined_rows the windows path last (w + last)) n ≡ true) own (reported_along windows path w known widths last within reported)
