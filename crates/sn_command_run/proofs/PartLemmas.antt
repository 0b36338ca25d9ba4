-- The answers of a plan can be printed.
use Rattle.std.proofs.Common.{◌≡◌, ℕ, zero, suc, ◌+◌, ◌<◌, ◌≤◌, List, [], ◌∷◌, map, filter, length, Bool, cond, None, Some, sym, subst, arith}
use Rattle.std.specs.Prelude.{◌==◌, slice_index}
use Rattle.std.specs.List.{AllByRecursion, range_with_len}
use Rattle.std.specs.Ordering.{nat_cmp, is_gt}
use Rattle.std.specs.Cmp.Lexicographic.{slice_cmp}
use Rattle.std.proofs.lemmas.Bool.{eqb-true, eqb-false}
use Rattle.sn_base.specs.Bags.{SameBag}
use Rattle.sn_base.specs.Bags.SameBag.{stays, following, turned, joined}
use Rattle.sn_base.specs.Groups.{Row}
use Rattle.sn_base.specs.Operators.{through}
use Rattle.sn_base.specs.Sorted.{put_row, sorted_rows}
use Rattle.sn_base.proofs.SortLemmas.{sort_bag}
use Rattle.sn_base.proofs.Lists.{all_append, all_filter, all_map, by_test, all_of}
use Rattle.sn_core_drive.specs.Telling.{IsSortedPart}
use Rattle.sn_engine_lockstep.specs.declared.source.Source.{Source}
use Rattle.sn_engine_lockstep.specs.Sources.{source_at}
use Rattle.sn_engine_lockstep.specs.Windows.{parts_from}
use Rattle.sn_plan_fit.specs.Fits.{AreEntriesOf}
use Rattle.sn_ops.specs.Plain.{branch_rows, joined_rows, query_rows}
use Rattle.sn_ops.specs.Packets.{packet_rows}
use Rattle.sn_ops.proofs.Branches.{branch_of_end, packets_of}
use Rattle.sn_ops.proofs.PacketSteps.{some_branch}
use Rattle.sn_ops.proofs.Queries.{query_joined, query_one, query_posts_final}
use Rattle.sn_plan_grammar.specs.declared.plan.Entry.{Entry}
use Rattle.sn_refine.specs.Refined.{level_rows, part_at}
use Rattle.sn_refine.specs.Steps.{Set, is_held, parts_in, rows_at}
use Rattle.sn_types.specs.declared.typed_query.TypedQuery.{TypedQuery}
use Rattle.sn_types.specs.Typed.{HasWidths, IsTyped, branch_at, end_columns, final_columns, query_at}
use Rattle.sn_types.specs.Values.{op_at}
use Rattle.sn_types.proofs.RowsAfter.{AreOf}

all_put : (P : Row → Type 0) (x : Row) (ys : List Row) → P x → AllByRecursion P ys → AllByRecursion P (put_row x ys)
all_put P x [] here h = (here, tt)
all_put P x (y ∷ ys) here h =
    by_test (is_gt (slice_cmp nat_cmp x y))
    (λ is. subst (λ b. AllByRecursion P (cond b (y ∷ put_row x ys) (x ∷ y ∷ ys))) (sym is) (h.0, all_put P x ys here h.1))
    (λ isnt. subst (λ b. AllByRecursion P (cond b (y ∷ put_row x ys) (x ∷ y ∷ ys))) (sym isnt) (here, h))

all_sorted : (P : Row → Type 0) (rows : List Row) → AllByRecursion P rows → AllByRecursion P (sorted_rows rows)
all_sorted P [] h = tt
all_sorted P (x ∷ xs) h = all_put P x (sorted_rows xs) h.0 (all_sorted P xs h.1)

-- rows that are sorted stay as they are
put_bag : (x : Row) (ys : List Row) → SameBag (put_row x ys) (x ∷ ys)
put_bag x [] = stays (x ∷ [])
put_bag x (y ∷ ys) =
    by_test (is_gt (slice_cmp nat_cmp x y))
    (λ is. subst (λ b. SameBag (cond b (y ∷ put_row x ys) (x ∷ y ∷ ys)) (x ∷ y ∷ ys)) (sym is) (joined (y ∷ put_row x ys) (y ∷ x ∷ ys) (x ∷ y ∷ ys) (following y (put_row x ys) (x ∷ ys) (put_bag x ys)) (turned y x ys)))
    (λ isnt. subst (λ b. SameBag (cond b (y ∷ put_row x ys) (x ∷ y ∷ ys)) (x ∷ y ∷ ys)) (sym isnt) (stays (x ∷ y ∷ ys)))

sorted_bag : (xs : List Row) → SameBag (sorted_rows xs) xs
sorted_bag [] = stays []
sorted_bag (x ∷ xs) = joined (put_row x (sorted_rows xs)) (x ∷ sorted_rows xs) (x ∷ xs) (put_bag x (sorted_rows xs)) (following x (sorted_rows xs) xs (sorted_bag xs))

sorted_twice : (xs : List Row) → sorted_rows (sorted_rows xs) ≡ sorted_rows xs
sorted_twice xs = sort_bag (sorted_rows xs) xs (sorted_bag xs)

at_sorted : (query : TypedQuery) (path : List ℕ) (kept : ℕ → Set) (tuples : List (List ℕ)) (j : ℕ) → sorted_rows (rows_at query path kept tuples j) ≡ rows_at query path kept tuples j
at_sorted query path kept tuples zero = sorted_twice (query_rows query (slice_index path 0) None tuples)
at_sorted query path kept tuples (suc j) = sorted_twice (query_rows query (slice_index path (suc j)) None (filter (is_held query.field (slice_index path j) (kept j)) tuples))

module _ (window : ℕ) (queries : List TypedQuery) (t : ∥ IsTyped window queries ∥₁) where
  ends : (q b level : ℕ) (tuples : List (List ℕ)) → q < length queries → b < length (query_at queries q).branches → AllByRecursion HasWidths tuples → AreOf (end_columns (branch_at queries q b)) (branch_rows (query_at queries q) b level None tuples)
  ends q b level tuples lt within h =
      branch_of_end window queries q b level (packet_rows (query_at queries q) b level None tuples) t lt within (packets_of window queries q b level None tuples t lt within h)

  both_of : (q level : ℕ) (tuples : List (List ℕ)) → q < length queries → length (query_at queries q).branches ≡ 2 → AllByRecursion HasWidths tuples
      → AreOf (final_columns (query_at queries q)) (through (map (op_at level) (query_at queries q).posts) (joined_rows (query_at queries q) level None tuples))
  both_of q level tuples lt two h =
      let query : TypedQuery = query_at queries q in
      let left : List Row = branch_rows query 0 level None tuples in
      let right : List Row = branch_rows query 1 level None tuples in
      let can = query_joined window queries q left right t lt two (ends q 0 level tuples lt (omega (arith, two)) h) (ends q 1 level tuples lt (omega (arith, two)) h) in
      query_posts_final window queries q level (joined_rows query level None tuples) t lt can.of

  rows_of : (q level : ℕ) (tuples : List (List ℕ)) → q < length queries → AllByRecursion HasWidths tuples → AreOf (final_columns (query_at queries q)) (query_rows (query_at queries q) level None tuples)
  rows_of q level tuples lt h =
      let query : TypedQuery = query_at queries q in
      let both : List Row = through (map (op_at level) query.posts) (joined_rows query level None tuples) in
      let one : List Row = branch_rows query 0 level None tuples in
      by_test (length query.branches == 2)
      (λ is. subst (λ b. AreOf (final_columns query) (cond b both one)) (sym is) (both_of q level tuples lt (eqb-true (length query.branches) 2 is) h))
      (λ isnt. subst (λ b. AreOf (final_columns query) (cond b both one)) (sym isnt)
      (query_one window queries q one t lt (eqb-false (length query.branches) 2 isnt) (ends q 0 level tuples lt (let some = some_branch window queries q t lt in omega (arith, some)) h)))

  level_of : (q level : ℕ) (tuples : List (List ℕ)) → q < length queries → AllByRecursion HasWidths tuples → AreOf (final_columns (query_at queries q)) (level_rows (query_at queries q) level (Some tuples))
  level_of q level tuples lt h = all_sorted _ (query_rows (query_at queries q) level None tuples) (rows_of q level tuples lt h)

  module _ (tuples : List (List ℕ)) (widths : AllByRecursion HasWidths tuples) where
    at_of : (q : ℕ) (path : List ℕ) (kept : ℕ → Set) (j : ℕ) → q < length queries → AreOf (final_columns (query_at queries q)) (rows_at (query_at queries q) path kept tuples j)
    at_of q path kept zero lt = level_of q (slice_index path 0) tuples lt widths
    at_of q path kept (suc j) lt =
        let held : List ℕ → Bool = is_held (query_at queries q).field (slice_index path j) (kept j) in
        level_of q (slice_index path (suc j)) (filter held tuples) lt (all_filter HasWidths held tuples widths)

    in_fit : (q : ℕ) (path : List ℕ) (kept : ℕ → Set) → q < length queries → AllByRecursion (IsSortedPart queries) (parts_in q (query_at queries q) path kept tuples)
    in_fit q path kept lt =
        all_map (IsSortedPart queries) (part_at q path (rows_at (query_at queries q) path kept tuples)) (range_with_len 0 (length path))
        (all_of _ (λ j. record { part = record { query = lt; rows = at_of q path kept j lt }; sorted = at_sorted (query_at queries q) path kept tuples j }) (range_with_len 0 (length path)))

    from_fit : (kept : Source → Set) (q : ℕ) (es : List Entry) → q + length es ≤ length queries → AllByRecursion (IsSortedPart queries) (parts_from queries kept tuples q es)
    from_fit kept q [] le = tt
    from_fit kept q (e ∷ es) le =
        all_append (IsSortedPart queries) (parts_in q (query_at queries q) e.levels (λ j. kept (source_at q (Some (slice_index e.levels j)))) tuples) (parts_from queries kept tuples (suc q) es)
        (in_fit q e.levels (λ j. kept (source_at q (Some (slice_index e.levels j)))) (omega arith)) (from_fit kept (suc q) es (omega arith))

    pub parts_fit : (kept : Source → Set) (es : List Entry) → AreEntriesOf queries es → AllByRecursion (IsSortedPart queries) (parts_from queries kept tuples 0 es)
    parts_fit kept es h = from_fit kept 0 es (let long = as_many queries es h in omega arith)
      where
        as_many : (qs : List TypedQuery) (xs : List Entry) → AreEntriesOf qs xs → length xs ≤ length qs
        as_many [] [] k = omega arith
        as_many [] (x ∷ xs) k = absurd k
        as_many (q ∷ qs) [] k = absurd k
        as_many (q ∷ qs) (x ∷ xs) k = let more = as_many qs xs k.1 in omega arith
