-- A monotone query at a coarser level answers the prefixes of what it answers at its finest level.
use Rattle.std.proofs.Common.{◌≡◌, ℕ, zero, suc, ◌<◌, ◌≤◌, ◌-◌, ◌⊎◌, List, [], ◌∷◌, ◌++◌, map, filter, length, Bool, true, ◌||◌, nat_eq, nat_lt, slice_get, slice_index, Option, None, Some, is_some, unwrap_or, inl, inr, refl, ap, sym, ◌∙◌, subst, arith}
use Rattle.std.specs.Prelude.{IfSome}
use Rattle.std.specs.List.{AllByRecursion, list_any}
use Rattle.std.specs.Option.{option_map}
use Rattle.std.proofs.lemmas.Bool.{false≢true, ltb-false, ltb-true}
use Rattle.std.proofs.lemmas.List.{length-map}
use Rattle.sn_base.proofs.FoldedLemmas.{same_row_exact}
use Rattle.sn_base.proofs.GroupLemmas.{AllHad}
use Rattle.sn_base.proofs.Lists.{and_parts, by_test, find_is, map_both, nat_same, none_some}
use Rattle.sn_base.proofs.OperatorLemmas.{AllOf, had_after, pairs_had}
use Rattle.sn_base.specs.Groups.{Apart, Row, same_row}
use Rattle.sn_base.specs.Mask.{masked}
use Rattle.sn_base.specs.Operators.{Op as Acting, apply, pair_of, through}
use Rattle.sn_base.specs.Operators.Op.{Reduce as Reduced}
use Rattle.sn_base.specs.declared.column.Column.{Column}
use Rattle.sn_fields.specs.declared.field.Field.{Field}
use Rattle.sn_fields.specs.Fields.{fields, name_of, width_of, with_name}
use Rattle.sn_query_grammar.specs.Limits.{AreJoined, BranchLimits, QueryLimits, Within}
use Rattle.sn_query_grammar.specs.declared.ast.Branch.{Branch}
use Rattle.sn_query_grammar.specs.declared.ast.Join.{Join}
use Rattle.sn_query_grammar.specs.declared.ast.Op.{Op}
use Rattle.sn_query_grammar.specs.declared.ast.Query.{Query}
use Rattle.sn_query_grammar.specs.declared.ast.Refine.{Refine}
use Rattle.sn_types_faults.specs.Columns.{field_column, packet_columns, place_of}
use Rattle.sn_types_faults.specs.Names.{Name, packet_fields, same_name}
use Rattle.sn_types_faults.specs.Walk.{branch_end, branch_places, first_fault, query_places, refine_levels, scope_before}
use Rattle.sn_ops.specs.Packets.{is_kept, packet_rows}
use Rattle.sn_ops.specs.Plain.{query_rows}
use Rattle.sn_types.specs.Typed.{HasWidths, IsTyped, blank_query, branch_of, finest_level, packet_row, query_at, read_at}
use Rattle.sn_types.specs.Typing.{field_of, typed_branch, typed_ops, typed_query}
use Rattle.sn_types.specs.Values.{op_at}
use Rattle.sn_types.specs.declared.typed_query.TypedQuery.{TypedQuery}
use Rattle.sn_types.proofs.Facts.{few_packet_fields, parts_of}
use Rattle.sn_types.proofs.Joining.{AreNamed, packet_named}
use Rattle.sn_types.proofs.Known.{IsKnown}
use Rattle.sn_types.proofs.RowLemmas.{place_is}
use Rattle.sn_types.proofs.Schemas.{columns_along, packet_schema, packet_whole}
use Rattle.sn_types.proofs.Sound.{AreSound, sound_branch}
use Rattle.sn_types.proofs.Sources.{none_in_each, source_of}
use Rattle.sn_types.proofs.TypedRows.{scope_along}
use Rattle.sn_ops.proofs.Branches.{packets_of}
use Rattle.sn_ops.proofs.PacketSteps.{some_branch}
use Rattle.sn_engine_split.proofs.Typed.{rows_had}
use Rattle.sn_refine_laws.specs.Counts.{IsRefined, IsUnrefined, KeepsQueryCounts}
use Rattle.sn_refine_laws.proofs.CountLemmas.{counts}
use Rattle.sn_types.proofs.NotLost.{known_first}
use Rattle.sn_types.proofs.CarriedPlaces.{at_name, named}
use Rattle.sn_refine_laws.specs.Masking.{shown}
use Rattle.sn_refine_laws.specs.Monotone.{is_monotone}
use Rattle.sn_refine_laws.proofs.After.{coarser_answers}
use Rattle.sn_refine_laws.proofs.Levels.{masked_zero, rows_within}
use Rattle.sn_refine_laws.proofs.Splitting.{split_along}
use Rattle.sn_refine_laws.proofs.Within.{IsWithin}

-- what is had along operators
had_through : (os ns : List Acting) (rows : List Row) → AllOf (os ++ ns) rows → AllOf ns (through os rows)
had_through [] ns rows h = h
had_through (o ∷ os) ns rows h = had_through os ns (apply o rows) (had_after o (os ++ ns) rows h)

-- the numbers in the refinement column
abbrev pub carried_numbers : TypedQuery → List Row → List ℕ
carried_numbers query rows = map (λ row. slice_index row (unwrap_or query.column 0)) rows

abbrev query_of : Name → Option Refine → List Branch → Option Join → Query
query_of name refine branches join = record { name = name; refine = refine; branches = branches; join = join }

IsClean : Option Refine → Branch → Type 0
IsClean refine b = first_fault (branch_places refine b.ops) ≡ None

module _ (field : Field) (r a : ℕ) (some : 1 ≤ r) (tuples seen : List (List ℕ)) where
  abbrev coarsely : ℕ → ℕ
  coarsely = masked (width_of field) r

  -- the tuples of this number are among those that are seen
  abbrev SeesAll : TypedQuery → Type 0
  SeesAll t = IsWithin (filter (λ tuple. nat_eq a (read_at (Some field) (finest_level t) tuple field)) tuples) seen

  -- each value that comes to a fold is one of the fold's
  abbrev HasFolds : TypedQuery → Type 0
  HasFolds t = AllOf (map (op_at r) (branch_of t 0).ops) (packet_rows t 0 r None seen)

  abbrev Answers : TypedQuery → Type 0
  Answers t = list_any (nat_eq a) (carried_numbers t (query_rows t (finest_level t) None tuples)) ≡ true → list_any (nat_eq (coarsely a)) (carried_numbers t (query_rows t r None seen)) ≡ true

  one_answers : (name : Name) (rf : Refine) (b : Branch) → BranchLimits b → IsClean (Some rf) b → with_name rf.field ≡ Some field → list_any (nat_eq r) rf.levels ≡ true
      → (let t : TypedQuery = typed_query (query_of name (Some rf) (b ∷ []) None) in r ≤ finest_level t → finest_level t ≤ width_of field → is_monotone t ≡ true → SeesAll t → HasFolds t → Answers t)
  unfolding IsClean
  one_answers name rf b limits none is_field among le within mono keeps had is =
      let t : TypedQuery = typed_query (query_of name (Some rf) (b ∷ []) None) in
      let F : ℕ = finest_level t in
      let ops : List Op = b.ops in
      let few = few_packet_fields (Some rf) ops none in
      let sound = sound_branch (Some rf) ops limits.each none in
      let whole = packet_whole ops few in
      let known : IsKnown (packet_columns ops) rf.field = first_known ops limits.count.from_least none sound in
      let gs : List Field = packet_fields ops in
      let apart : Apart same_row (map name_of gs) = subst (Apart same_row) (map_both field_column (λ (c : Column). c.name) gs) (subst AreNamed whole (packet_named ops few)) in
      let own : name_of field ≡ rf.field = same_row_exact (name_of field) rf.field (find_is (λ f. same_name (name_of f) rf.field) fields field is_field) in
      let s = split_along coarsely (masked_zero (width_of field) r) rf.levels F r among (scope_before (Some rf) ops) ops rf.field true refl none (packet_schema ops few) sound known mono in
      let p : ℕ = at_name (packet_columns ops) rf.field in
      let fine : List Row = map (packet_row (Some field) F gs) tuples in
      let coarse : List Row = map (packet_row (Some field) r gs) seen in
      let rows : IsWithin (shown coarsely a p fine) coarse =
      subst (λ (xs : List Column). IsWithin (shown coarsely a (at_name xs rf.field) fine) coarse) (sym whole)
      (rows_within field F r some le within rf.field is_field own gs apart (subst (λ (xs : List Column). IsKnown xs rf.field) whole known) a tuples seen keeps) in
      let acts : ℕ → List Acting = λ level. map (op_at level) (typed_ops (packet_columns ops) ops) in
      let folds : AllOf (acts r) coarse = subst (λ (ts : List (List ℕ)). AllOf (acts r) (map (packet_row (Some field) r gs) ts)) (kept_all seen) (subst (λ (o : Option Field). AllOf (acts r) (map (packet_row o r gs) (filter (is_kept o None) seen))) is_field had) in
      let reduced : AllHad s.group (map (pair_of s.group) (through s.coarser coarse)) =
      pairs_had s.group s.after_coarser (through s.coarser coarse) (had_through s.coarser (Reduced s.group ∷ s.after_coarser) coarse (subst (λ (os : List Acting). AllOf os coarse) s.is_coarser folds)) in
      let column : unwrap_or t.column 0 ≡ s.last =
      ap (λ o. unwrap_or (option_map (place_of (branch_end (Some rf) ops).columns) o) 0) s.is_name
      ∙ ap (λ (xs : List Column). place_of xs s.name) (scope_along (scope_before (Some rf) ops) ops)
      ∙ place_is (named s.name) (columns_along (packet_columns ops) ops) s.known ∙ s.place in
      let reported : ℕ → ℕ → List Acting → List Row → Bool = λ n q os rows. list_any (nat_eq n) (map (λ row. slice_index row q) (through os rows)) in
      let from : reported a s.last (s.finer ++ Reduced s.group ∷ s.following) fine ≡ true =
      sym (ap (λ q. reported a q (acts F) (map (packet_row t.field F gs) (filter (is_kept t.field None) tuples))) column
      ∙ ap (λ (o : Option Field). reported a s.last (acts F) (map (packet_row o F gs) (filter (is_kept o None) tuples))) is_field
      ∙ ap (λ ts. reported a s.last (acts F) (map (packet_row (Some field) F gs) ts)) (kept_all tuples)
      ∙ ap (λ os. reported a s.last os fine) s.is_finer) ∙ is in
      ap (λ q. reported (coarsely a) q (acts r) (map (packet_row t.field r gs) (filter (is_kept t.field None) seen))) column
      ∙ ap (λ (o : Option Field). reported (coarsely a) s.last (acts r) (map (packet_row o r gs) (filter (is_kept o None) seen))) is_field
      ∙ ap (λ ts. reported (coarsely a) s.last (acts r) (map (packet_row (Some field) r gs) ts)) (kept_all seen)
      ∙ ap (λ os. reported (coarsely a) s.last os coarse) s.is_coarser
      ∙ coarser_answers coarsely (masked_zero (width_of field) r) a s.finer s.coarser s.group s.following s.after_coarser p s.middle s.last s.follows s.carries s.key s.rises s.filters s.filters_coarser s.passes fine coarse rows reduced from
    where
      kept_all : (xs : List (List ℕ)) → filter (is_kept (Some field) None) xs ≡ xs
      kept_all [] = refl
      kept_all (x ∷ xs) = ap (λ ys. x ∷ ys) (kept_all xs)

      first_known : (ops : List Op) → 1 ≤ length ops → first_fault (branch_places (Some rf) ops) ≡ None → AreSound (packet_columns ops) ops → IsKnown (packet_columns ops) rf.field
      first_known [] some clean s = absurd (omega arith)
      first_known (op ∷ ops) some clean s = known_first (refine_levels (Some rf)) (scope_before (Some rf) (op ∷ ops)) op ops rf.field refl refl clean s

  parts_answer : (name : Name) (refine : Option Refine) (branches : List Branch) (join : Option Join) → AreJoined branches join → AllByRecursion BranchLimits branches → AllByRecursion (IsClean refine) branches → field_of refine ≡ Some field
      → (let t : TypedQuery = typed_query (query_of name refine branches join) in list_any (nat_eq r) t.levels ≡ true → r ≤ finest_level t → finest_level t ≤ width_of field → is_monotone t ≡ true → SeesAll t → HasFolds t → Answers t)
  parts_answer name None branches join h limits clean is_field = absurd (none_some is_field)
  parts_answer name (Some rf) [] None h limits clean is_field = absurd (omega (arith, h))
  parts_answer name (Some rf) (b ∷ []) None h limits clean is_field = one_answers name rf b limits.0 clean.0 is_field
  parts_answer name (Some rf) (b ∷ d ∷ branches) None h limits clean is_field = absurd (omega (arith, h))
  parts_answer name (Some rf) branches (Some j) h limits clean is_field = λ among le within mono.
      let one = nat_same (length (typed_query (query_of name (Some rf) branches (Some j))).branches) 1 (and_parts _ _ mono).0 in
      let same = length-map branches (λ (x : Branch). typed_branch x.ops) in
      let two = h.0 in
      absurd (omega (arith, one, same, two))

  query_answers : (q : Query) → QueryLimits q → first_fault (query_places q) ≡ None → (typed_query q).field ≡ Some field
      → (let t : TypedQuery = typed_query q in list_any (nat_eq r) t.levels ≡ true → r ≤ finest_level t → finest_level t ≤ width_of field → is_monotone t ≡ true → SeesAll t → HasFolds t → Answers t)
  unfolding IsClean
  query_answers q limits none is_field =
      let clean = none_in_each (λ (b : Branch). branch_places q.refine b.ops) q.branches (parts_of q none).1 in
      parts_answer q.name q.refine q.branches q.join limits.joined limits.branches clean is_field

-- ---- levels

-- what a refined query's level is: from 1 to the finest, which is at most the width of the field
pub record HasRange (query : TypedQuery) (field : Field) (r : ℕ) : Type 0 where
  pub some : 1 ≤ r
  pub le : r ≤ finest_level query
  pub within : finest_level query ≤ width_of field

level_place : (levels : List ℕ) (r : ℕ) → list_any (nat_eq r) levels ≡ true → (i : ℕ) × (i < length levels) × (slice_index levels i ≡ r)
level_place [] r among = absurd (false≢true among)
level_place (l ∷ levels) r among =
    by_test (nat_eq r l)
    (λ is. (0, omega arith, sym (nat_same r l is)))
    (λ isnt. let later = level_place levels r (sym (ap (λ b. b || list_any (nat_eq r) levels) isnt) ∙ among) in
    let lt = later.1 in (suc later.0, omega (arith, lt), later.2))

all_at : {X : Type 0} (P : X → Type 0) (d : X) (xs : List X) (i : ℕ) → AllByRecursion P xs → i < length xs → P (unwrap_or (slice_get xs i) d)
all_at P d [] i h lt = absurd (omega arith)
all_at P d (x ∷ xs) zero h lt = h.0
all_at P d (x ∷ xs) (suc i) h lt = all_at P d xs i h.1 (omega arith)

all_in : (P : ℕ → Type 0) (xs : List ℕ) (i : ℕ) → AllByRecursion P xs → i < length xs → P (slice_index xs i)
all_in P [] i h lt = absurd (omega arith)
all_in P (x ∷ xs) zero h lt = h.0
all_in P (x ∷ xs) (suc i) h lt = all_in P xs i h.1 (omega arith)

to_last : (levels : List ℕ) (i : ℕ) → i < length levels → ((i j : ℕ) → i < j → j < length levels → slice_index levels i < slice_index levels j) → slice_index levels i ≤ slice_index levels (length levels - 1)
to_last levels i lt rising =
    by_test (nat_lt i (length levels - 1))
    (λ is. let below = rising i (length levels - 1) (ltb-true i (length levels - 1) is) (omega (arith, lt)) in omega (arith, below))
    (λ isnt. let le = ltb-false i (length levels - 1) isnt in
    let same : i ≡ length levels - 1 = omega (arith, le, lt) in
    let equal = ap (slice_index levels) same in omega (arith, equal))

range_of : (query : TypedQuery) (field : Field) (r : ℕ) → query.field ≡ Some field → IsUnrefined query ⊎ IsRefined query → list_any (nat_eq r) query.levels ≡ true → HasRange query field r
range_of query field r is_field (inl h) among = absurd (false≢true (sym h.field ∙ ap is_some is_field))
range_of query field r is_field (inr h) among =
    let at = level_place query.levels r among in
    let i : ℕ = at.0 in
    let lt = at.1 in
    let each : AllByRecursion (Within 1 (width_of field)) query.levels = subst (λ (o : Option Field). IfSome o (λ f. AllByRecursion (Within 1 (width_of f)) query.levels)) is_field h.width in
    let own : Within 1 (width_of field) r = subst (Within 1 (width_of field)) at.2 (all_in (Within 1 (width_of field)) query.levels i each lt) in
    let last = all_in (Within 1 (width_of field)) query.levels (length query.levels - 1) each (omega (arith, lt)) in
    record { some = own.from_least; le = subst (λ (n : ℕ). n ≤ finest_level query) at.2 (to_last query.levels i lt h.rising); within = last.to_most }

pub level_range : (window q r : ℕ) (queries : List TypedQuery) (field : Field) → IsTyped window queries → q < length queries → (query_at queries q).field ≡ Some field → list_any (nat_eq r) (query_at queries q).levels ≡ true → HasRange (query_at queries q) field r
level_range window q r queries field t lt is_field among =
    range_of (query_at queries q) field r is_field (all_at KeepsQueryCounts blank_query queries q (counts window queries t).each lt).refined among

-- ---- typed queries

-- the tuples whose field has this number at the finest level are among those that are seen
abbrev pub AreSeen : TypedQuery → Field → ℕ → List (List ℕ) → List (List ℕ) → Type 0
AreSeen query field a tuples seen = IsWithin (filter (λ tuple. nat_eq a (read_at query.field (finest_level query) tuple field)) tuples) seen

pub queries_answer : (window q r a : ℕ) (queries : List TypedQuery) (field : Field) (tuples seen : List (List ℕ)) → IsTyped window queries → q < length queries → (query_at queries q).field ≡ Some field → is_monotone (query_at queries q) ≡ true
    → list_any (nat_eq r) (query_at queries q).levels ≡ true → AllByRecursion HasWidths seen → AreSeen (query_at queries q) field a tuples seen
    → list_any (nat_eq a) (carried_numbers (query_at queries q) (query_rows (query_at queries q) (finest_level (query_at queries q)) None tuples)) ≡ true
    → list_any (nat_eq (masked (width_of field) r a)) (carried_numbers (query_at queries q) (query_rows (query_at queries q) r None seen)) ≡ true
queries_answer window q r a queries field tuples seen t lt is_field mono among widths sees is =
    let query : TypedQuery = query_at queries q in
    let range = level_range window q r queries field t lt is_field among in
    let s = source_of window queries q t lt in
    let typed = ∣ t ∣₁ in
    let some = some_branch window queries q typed lt in
    let folds : HasFolds field r a range.some tuples seen query =
    rows_had window queries q 0 r (packet_rows query 0 r None seen) typed lt some (packets_of window queries q 0 r None seen typed lt some widths) in
    let all : SeesAll field r a range.some tuples seen query =
    subst (λ (o : Option Field). IsWithin (filter (λ tuple. nat_eq a (read_at o (finest_level query) tuple field)) tuples) seen) is_field sees in
    subst (λ (y : TypedQuery). y.field ≡ Some field → list_any (nat_eq r) y.levels ≡ true → r ≤ finest_level y → finest_level y ≤ width_of field → is_monotone y ≡ true → SeesAll field r a range.some tuples seen y → HasFolds field r a range.some tuples seen y → Answers field r a range.some tuples seen y) (sym s.is)
    (query_answers field r a range.some tuples seen s.query s.limits s.no_fault) is_field among range.le range.within mono all folds is
