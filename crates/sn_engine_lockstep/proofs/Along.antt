-- Windows one after another get the refined answers along the plan.
use Rattle.std.proofs.Common.{◌≡◌, ℕ, zero, suc, ◌+◌, ◌<◌, List, [], ◌∷◌, ◌++◌, ◌&&◌, ◌==◌, map, length, sum, Bool, true, false, cond, Option, Some, None, slice_get, slice_index, refl, ap, sym, ◌∙◌, subst, arith, eq-eqb}
use Rattle.std.specs.List.{AllByRecursion, find, range_with_len}
use Rattle.std.specs.Option.{option_map, option_map_or}
use Rattle.std.specs.FinSet as set
use Rattle.std.proofs.lemmas.Bool.{false≢true}
use Rattle.std.proofs.lemmas.List.{map-append}
use Rattle.sn_base.proofs.Lists.{by_test, nat_same, nat_self, none_some, not_true, some_same}
use Rattle.sn_base.specs.Groups.{Row}
use Rattle.sn_emit.specs.Plans.{Placed, items_of, pieces_from, placed}
use Rattle.sn_emit.specs.declared.tables.Tables.{Tables}
use Rattle.sn_plan_fit.specs.Fits.{AreEntriesOf, IsEntryOf}
use Rattle.sn_plan_fit.specs.Paths.{is_among, place_in}
use Rattle.sn_base.specs.Rising.{IsRising}
use Rattle.sn_plan_grammar.specs.declared.plan.Entry.{Entry}
use Rattle.sn_plan_grammar.specs.declared.plan.Piece.{Piece}
use Rattle.sn_engine_split.specs.Opened.{is_open}
use Rattle.sn_refine.specs.Passes.{passes_at}
use Rattle.sn_refine.specs.Refined.{Windows, answered, before, level_rows, part_at, refined_parts, refined_rows, seen_at}
use Rattle.sn_refine.specs.Steps.{Set, parts_in, prefixes_of, rows_at}
use Rattle.sn_refine.proofs.Held.{held_answered}
use Rattle.sn_refine.proofs.Levels.{next_sees, no_rows}
use Rattle.sn_refine.proofs.Places.{map_below}
use Rattle.sn_types.specs.declared.answers.Answers.{Answers}
use Rattle.sn_types.specs.declared.answers.Part.{Part}
use Rattle.sn_types.specs.declared.typed_query.TypedQuery.{TypedQuery}
use Rattle.sn_types.specs.Typed.{query_at}
use Rattle.sn_engine_lockstep.specs.declared.source.Source.{Source}
use Rattle.sn_engine.specs.Keeping.{is_part, rows_found}
use Rattle.sn_engine_lockstep.specs.Sources.{kept_in, source_at, source_of}
use Rattle.sn_engine_lockstep.specs.Windows.{Follows, Measure, Remembers, count_all, measured, parts_from, piece_count, piece_measure, plan_answers, refined_from, window_answers}
use Rattle.sn_engine_lockstep.proofs.Apart.{levels_known, place_is, rising_index}
use Rattle.sn_engine_lockstep.proofs.Changes.{all_get}
use Rattle.sn_engine_lockstep.proofs.Finding.{find_after, find_front, find_number}
use Rattle.sn_engine_lockstep.proofs.Seeing.{items_passed, passed_by, seen_by}
use Rattle.sn_base.proofs.Tests.{and_false_left, and_false_right, by_order}
use Rattle.sn_refine.proofs.Windows.{no_prefixes}

-- ---- the answers of a query at a level are found

module _ (queries : List TypedQuery) (windows : Windows) (v : ℕ) where
  rows_of : ℕ → List ℕ → ℕ → List Row
  rows_of q path j = refined_rows (query_at queries q) windows path j v

  others_fail : (q n level : ℕ) (path : List ℕ) (rows : ℕ → List Row) → (n ≡ q → ⊥) → (numbers : List ℕ) → AllByRecursion (λ (p : Part). is_part q level p ≡ false) (map (part_at n path rows) numbers)
  others_fail q n level path rows other [] = tt
  others_fail q n level path rows other (j ∷ js) = (and_false_left (n == q) (slice_index path j == level) (not_true (n == q) (λ is. other (nat_same n q is))), others_fail q n level path rows other js)

  found_along : (q : ℕ) (path : List ℕ) (rows : ℕ → List Row) (j : ℕ) → IsRising path → j < length path → find (is_part q (slice_index path j)) (map (part_at q path rows) (range_with_len 0 (length path))) ≡ Some (part_at q path rows j)
  found_along q path rows j rising lt =
      find_number (is_part q (slice_index path j)) (part_at q path rows) 0 (length path) j lt
      (ap (λ n. is_part q (slice_index path j) (part_at q path rows n)) (from j) ∙ ap (λ b. b && (slice_index path j == slice_index path j)) (nat_self q) ∙ nat_self (slice_index path j))
      (λ i below. ap (λ n. is_part q (slice_index path j) (part_at q path rows n)) (from i)
      ∙ and_false_right (q == q) (slice_index path i == slice_index path j) (not_true (slice_index path i == slice_index path j) (λ is. let e = nat_same (slice_index path i) (slice_index path j) is in let less = rising_index path i j rising below lt in absurd (omega (arith, e, less)))))
      ∙ ap (λ n. Some (part_at q path rows n)) (from j)
    where
      from : (n : ℕ) → 0 + n ≡ n
      from n = omega arith

  found_part : (q n i : ℕ) (es : List Entry) (e : Entry) (j : ℕ) → q ≡ n + i → slice_get es i ≡ Some e → IsRising e.levels → j < length e.levels
      → find (is_part q (slice_index e.levels j)) (refined_from queries windows v n es) ≡ Some (part_at q e.levels (rows_of q e.levels) j)
  unfolding rows_of
  found_part q n i [] e j same at rising lt = absurd (none_some at)
  found_part q n zero (f ∷ es) e j same at rising lt =
      let first : f ≡ e = some_same f e at in
      let here : q ≡ n = omega (arith, same) in
      ap (λ m. find (is_part q (slice_index e.levels j)) (refined_from queries windows v m (f ∷ es))) (sym here)
      ∙ ap (λ (g : Entry). find (is_part q (slice_index e.levels j)) (refined_parts q (query_at queries q) windows g.levels v ++ refined_from queries windows v (suc q) es)) first
      ∙ find_front (is_part q (slice_index e.levels j)) (refined_parts q (query_at queries q) windows e.levels v) (refined_from queries windows v (suc q) es) (part_at q e.levels (rows_of q e.levels) j)
      (found_along q e.levels (rows_of q e.levels) j rising lt)
  found_part q n (suc i) (f ∷ es) e j same at rising lt =
      find_after (is_part q (slice_index e.levels j)) (refined_parts n (query_at queries n) windows f.levels v) (refined_from queries windows v (suc n) es)
      (others_fail q n (slice_index e.levels j) f.levels (rows_of n f.levels) (λ is. absurd (omega (arith, is, same))) (range_with_len 0 (length f.levels)))
      ∙ found_part q (suc n) i es e j (omega (arith, same)) at rising lt

  pub rows_are_found : (q : ℕ) (es : List Entry) (e : Entry) (j : ℕ) → slice_get es q ≡ Some e → IsRising e.levels → j < length e.levels
      → rows_found (refined_from queries windows v 0 es) q (slice_index e.levels j) ≡ refined_rows (query_at queries q) windows e.levels j v
  unfolding rows_of
  rows_are_found q es e j at rising lt = ap (λ (o : Option Part). option_map_or (λ (part : Part). part.rows) o []) (found_part q 0 q es e j (omega arith) at rising lt)

-- ---- the prefixes of the window before

module _ (queries : List TypedQuery) (windows : Windows) (es : List Entry) (q : ℕ) (e : Entry) (at : slice_get es q ≡ Some e) (rising : IsRising e.levels) where
  abbrev query : TypedQuery
  query = query_at queries q

  pub kept_right : (last : Option Answers) (w j : ℕ) → j < length e.levels → Follows windows last w → Remembers queries es windows last
      → kept_in queries last w (source_at q (Some (slice_index e.levels j))) ≡ prefixes_of query (before (refined_rows query windows e.levels j) w)
  kept_right None zero j lt f h = no_prefixes query [] refl
  kept_right None (suc v) j lt f h = no_prefixes query (refined_rows query windows e.levels j v) (no_rows query windows e.levels j v (f.none v tt (omega arith)))
  kept_right (Some a) zero j lt f h = absurd (let above = f.above in omega (arith, above))
  kept_right (Some a) (suc v) j lt f h =
      by_test (a.window + 1 == suc v)
      (λ is. let same = nat_same (a.window + 1) (suc v) is in
      ap (λ b. cond b (prefixes_of query (rows_found a.parts q (slice_index e.levels j))) set.empty) is
      ∙ ap (λ (parts : List Part). prefixes_of query (rows_found parts q (slice_index e.levels j))) h
      ∙ ap (prefixes_of query) (rows_are_found queries windows a.window q es e j at rising lt)
      ∙ ap (λ n. prefixes_of query (refined_rows query windows e.levels j n)) (back same))
      (λ isnt. ap (λ b. cond b (prefixes_of query (rows_found a.parts q (slice_index e.levels j))) set.empty) isnt
      ∙ no_prefixes query (refined_rows query windows e.levels j v) (no_rows query windows e.levels j v (f.none v (following isnt) (omega arith))))
    where
      back : a.window + 1 ≡ suc v → a.window ≡ v
      back same = omega (arith, same)

      following : (a.window + 1 == suc v) ≡ false → a.window < v
      following isnt =
          by_test (a.window == v)
          (λ is. let same = nat_same a.window v is in absurd (false≢true (sym isnt ∙ eq-eqb (a.window + 1) (suc v) (omega (arith, same)))))
          (λ differs. by_less differs)
        where
          not_same : (a.window == v) ≡ false → a.window ≡ v → ⊥
          not_same differs same = false≢true (sym differs ∙ eq-eqb a.window v same)

          by_less : (a.window == v) ≡ false → a.window < v
          by_less differs = let above = f.above in by_order a.window v (λ less. less) (λ more. absurd (not_same differs (omega (arith, above, more))))

-- ---- one window

module _ (queries : List TypedQuery) (tables : Tables) (windows : Windows) (w : ℕ) (tuples : List (List ℕ)) (kept : Source → Set) (is : windows w ≡ Some tuples) (m : Measure) where
  abbrev kept_before : ℕ → List ℕ → ℕ → Set
  kept_before q path j = kept (source_at q (Some (slice_index path j)))

  abbrev IsRight : ℕ → List ℕ → Type 0
  IsRight q path = (j : ℕ) → j < length path → kept_before q path j ≡ prefixes_of (query_at queries q) (before (refined_rows (query_at queries q) windows path j) w)

  rows_right : (q : ℕ) (path : List ℕ) (j : ℕ) → IsRight q path → j < length path → rows_at (query_at queries q) path (kept_before q path) tuples j ≡ refined_rows (query_at queries q) windows path j w
  rows_right q path zero right lt = sym (ap (level_rows (query_at queries q) (slice_index path 0)) is)
  rows_right q path (suc j) right lt =
      ap (λ ts. level_rows (query_at queries q) (slice_index path (suc j)) (Some ts))
      (held_answered (query_at queries q) (slice_index path j) (before (refined_rows (query_at queries q) windows path j) w) (kept_before q path j) tuples (right j (omega (arith, lt))))
      ∙ sym (next_sees (query_at queries q) windows path j w tuples is)

  parts_right : (q : ℕ) (path : List ℕ) → IsRight q path → parts_in q (query_at queries q) path (kept_before q path) tuples ≡ refined_parts q (query_at queries q) windows path w
  parts_right q path right =
      map_below (part_at q path (rows_at (query_at queries q) path (kept_before q path) tuples)) (part_at q path (λ j. refined_rows (query_at queries q) windows path j w)) 0 (length path)
      (λ j below. ap (one j) (rows_right q path j right (omega (arith, below))))
    where
      one : ℕ → List Row → Part
      one j rows = record { query = q; level = slice_index path j; rows = rows }

  seen_right : (q : ℕ) (path : List ℕ) (place : ℕ) → IsRight q path → place < length path → seen_at (query_at queries q) windows path place w ≡ Some (seen_by (query_at queries q) path (kept_before q path) tuples place)
  seen_right q path zero right lt = is
  seen_right q path (suc j) right lt =
      ap (option_map (answered (query_at queries q) (slice_index path j) (before (refined_rows (query_at queries q) windows path j) w))) is
      ∙ ap Some (sym (held_answered (query_at queries q) (slice_index path j) (before (refined_rows (query_at queries q) windows path j) w) (kept_before q path j) tuples (right j (omega (arith, lt)))))

  -- the tuples that come to a level are those that its lane admits
  passed_right : (q : ℕ) (path : List ℕ) (place : ℕ) → IsRight q path → place < length path
      → passes_at (query_at queries q) tables.entries windows path place w ≡ Some (passed_by (query_at queries q) tables.entries path (kept_before q path) tuples place)
  passed_right q path zero right lt = is
  passed_right q path (suc j) right lt =
      ap (λ s. cond (is_open tables.entries s) (windows w) (seen_at (query_at queries q) windows path (suc j) w)) (sym (right j (omega (arith, lt))))
      ∙ by_open (is_open tables.entries (kept_before q path j))
    where
      by_open : (b : Bool) → cond b (windows w) (seen_at (query_at queries q) windows path (suc j) w) ≡ Some (cond b tuples (seen_by (query_at queries q) path (kept_before q path) tuples (suc j)))
      by_open true = is
      by_open false = seen_right q path (suc j) right lt

  count_right : (q : ℕ) (path : List ℕ) (p : Piece) → IsRight q path → is_among path p.level ≡ true → m (placed q path p) (items_of queries tables (placed q path p) (kept (source_of (placed q path p))) tuples) ≡ piece_measure m queries tables windows w (placed q path p)
  count_right q path p right known =
      ap (m (placed q path p)) (items_passed queries tables q path p kept tuples)
      ∙ sym (ap (measured m queries tables.depth (placed q path p)) (passed_right q path (place_in path p.level) right (place_is path p.level known).within))

  counts_right : (q : ℕ) (path : List ℕ) (ps : List Piece) → IsRight q path → AllByRecursion (λ (p : Piece). is_among path p.level ≡ true) ps
      → map (λ x. m x (items_of queries tables x (kept (source_of x)) tuples)) (map (placed q path) ps) ≡ map (piece_measure m queries tables windows w) (map (placed q path) ps)
  counts_right q path [] right known = refl
  counts_right q path (p ∷ ps) right known =
      ap (λ n. n ∷ map (λ x. m x (items_of queries tables x (kept (source_of x)) tuples)) (map (placed q path) ps)) (count_right q path p right known.0)
      ∙ ap (λ ns. piece_measure m queries tables windows w (placed q path p) ∷ ns) (counts_right q path ps right known.1)

  -- the entries from a number on
  record AreRight (n : ℕ) (es : List Entry) : Type 0 where
    parts : parts_from queries kept tuples n es ≡ refined_from queries windows w n es
    counts : map (λ x. m x (items_of queries tables x (kept (source_of x)) tuples)) (pieces_from n es) ≡ map (piece_measure m queries tables windows w) (pieces_from n es)

  entries_right : (n : ℕ) (es : List Entry) → ((i : ℕ) (e : Entry) → slice_get es i ≡ Some e → IsRight (n + i) e.levels) → AllByRecursion (λ (e : Entry). AllByRecursion (λ (p : Piece). is_among e.levels p.level ≡ true) e.pieces) es → AreRight n es
  entries_right n [] right known = record { parts = refl; counts = refl }
  entries_right n (e ∷ es) right known =
      let here : IsRight n e.levels = subst (λ m. IsRight m e.levels) none_more (right 0 e refl) in
      let rest = entries_right (suc n) es (λ i f at. subst (λ m. IsRight m f.levels) (moved i) (right (suc i) f at)) known.1 in
      let own = map (placed n e.levels) e.pieces in
      let sent : Placed → ℕ = λ x. m x (items_of queries tables x (kept (source_of x)) tuples) in
      record {
        parts = ap (λ ps. ps ++ parts_from queries kept tuples (suc n) es) (parts_right n e.levels here) ∙ ap (λ ps. refined_parts n (query_at queries n) windows e.levels w ++ ps) rest.parts;
        counts = map-append sent own (pieces_from (suc n) es)
            ∙ ap (λ ns. ns ++ map sent (pieces_from (suc n) es)) (counts_right n e.levels e.pieces here known.0)
            ∙ ap (λ ns. map (piece_measure m queries tables windows w) own ++ ns) rest.counts
            ∙ sym (map-append (piece_measure m queries tables windows w) own (pieces_from (suc n) es));
      }
    where
      none_more : n + 0 ≡ n
      none_more = omega arith

      moved : (i : ℕ) → n + suc i ≡ suc n + i
      moved i = omega arith

pub entries_known : (queries : List TypedQuery) (es : List Entry) → AreEntriesOf queries es → AllByRecursion (λ (e : Entry). AllByRecursion (λ (p : Piece). is_among e.levels p.level ≡ true) e.pieces) es
entries_known [] [] h = tt
entries_known [] (e ∷ es) h = absurd h
entries_known (q ∷ queries) [] h = absurd h
entries_known (q ∷ queries) (e ∷ es) h = (levels_known q e h.0, entries_known queries es h.1)

pub entries_rise : (queries : List TypedQuery) (es : List Entry) → AreEntriesOf queries es → AllByRecursion (λ (e : Entry). IsRising e.levels) es
entries_rise [] [] h = tt
entries_rise [] (e ∷ es) h = absurd h
entries_rise (q ∷ queries) [] h = absurd h
entries_rise (q ∷ queries) (e ∷ es) h = let entry : IsEntryOf q e = h.0 in (entry.path.rising, entries_rise queries es h.1)

-- what is counted of the items that the pieces send in a window that follows, where the answers before it were those along the plan
right_along : (queries : List TypedQuery) (tables : Tables) (es : List Entry) (windows : Windows) (last : Option Answers) (w : ℕ) (tuples : List (List ℕ)) (m : Measure) → AreEntriesOf queries es → (is : windows w ≡ Some tuples) → Follows windows last w → Remembers queries es windows last
    → AreRight queries tables windows w tuples (kept_in queries last w) is m 0 es
right_along queries tables es windows last w tuples m h is f r =
    let rise = entries_rise queries es h in
    entries_right queries tables windows w tuples (kept_in queries last w) is m 0 es
    (λ i e at j lt. ap (λ n. kept_in queries last w (source_at n (Some (slice_index e.levels j)))) (from i)
    ∙ kept_right queries windows es i e at (all_get (λ (e : Entry). IsRising e.levels) es i e rise at) last w j lt f r
    ∙ ap (λ n. prefixes_of (query_at queries n) (before (refined_rows (query_at queries n) windows e.levels j) w)) (sym (from i)))
    (entries_known queries es h)
  where
    from : (i : ℕ) → 0 + i ≡ i
    from i = omega arith

pub measure_right : (queries : List TypedQuery) (tables : Tables) (es : List Entry) (windows : Windows) (last : Option Answers) (w : ℕ) (tuples : List (List ℕ)) (m : Measure) → AreEntriesOf queries es → windows w ≡ Some tuples → Follows windows last w → Remembers queries es windows last
    → sum (map (λ x. m x (items_of queries tables x (kept_in queries last w (source_of x)) tuples)) (pieces_from 0 es)) ≡ sum (map (piece_measure m queries tables windows w) (pieces_from 0 es))
measure_right queries tables es windows last w tuples m h is f r =
    let right : AreRight queries tables windows w tuples (kept_in queries last w) is m 0 es = right_along queries tables es windows last w tuples m h is f r in
    ap sum right.counts

-- what it gives
pub window_right : (queries : List TypedQuery) (tables : Tables) (es : List Entry) (windows : Windows) (last : Option Answers) (w : ℕ) (tuples : List (List ℕ)) → AreEntriesOf queries es → windows w ≡ Some tuples → Follows windows last w → Remembers queries es windows last
    → window_answers queries tables es (kept_in queries last w) w tuples ≡ plan_answers queries tables es windows w
window_right queries tables es windows last w tuples h is f r =
    let right : AreRight queries tables windows w tuples (kept_in queries last w) is count_all 0 es = right_along queries tables es windows last w tuples count_all h is f r in
    ap (λ n. with n (parts_from queries (kept_in queries last w) tuples 0 es)) (measure_right queries tables es windows last w tuples count_all h is f r)
    ∙ ap (with (sum (map (piece_count queries tables windows w) (pieces_from 0 es)))) right.parts
  where
    with : ℕ → List Part → Answers
    with n parts = record { window = w; emitted = n; parts = parts }
