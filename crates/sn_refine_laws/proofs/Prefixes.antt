-- The rows of a query on the tuples with some prefixes are those of its rows whose carried number has one of them.
use Rattle.std.proofs.Common.{◌≡◌, ℕ, ◌<◌, ◌≤◌, List, [], ◌∷◌, ◌++◌, map, filter, length, Bool, true, false, ◌||◌, ◌&&◌, cond, nat_eq, slice_index, Option, None, Some, unwrap_or, refl, ap, sym, ◌∙◌, subst, arith, append_assoc}
use Rattle.std.specs.List.{AllByRecursion, flat_map, list_any}
use Rattle.std.specs.Option.{option_map}
use Rattle.std.proofs.lemmas.Bool.{false≢true}
use Rattle.std.proofs.lemmas.List.Elements.{filter-append}
use Rattle.sn_base.proofs.FoldedLemmas.{same_row_exact}
use Rattle.sn_base.proofs.Lists.{and_parts, by_test, filter_map, filter_same, filter_within, map_both, none_some, not_false}
use Rattle.sn_base.specs.Groups.{Row, columns_at}
use Rattle.sn_base.specs.Mask.{masked}
use Rattle.sn_base.specs.Operators.{Op as Acting, join, through}
use Rattle.sn_base.specs.declared.column.Column.{Column}
use Rattle.sn_fields.specs.declared.field.Field.{Field}
use Rattle.sn_fields.specs.Fields.{number_of, width_of, with_name}
use Rattle.sn_query_grammar.specs.Limits.{AreJoined, BranchLimits, QueryLimits}
use Rattle.sn_query_grammar.specs.declared.ast.Branch.{Branch}
use Rattle.sn_query_grammar.specs.declared.ast.Join.{Join}
use Rattle.sn_query_grammar.specs.declared.ast.Op.{Op}
use Rattle.sn_query_grammar.specs.declared.ast.Query.{Query}
use Rattle.sn_query_grammar.specs.declared.ast.Refine.{Refine}
use Rattle.sn_types_faults.specs.declared.scope.Scope.{Scope}
use Rattle.sn_types_faults.specs.Columns as columns
use Rattle.sn_types_faults.specs.Columns.{column_named, columns_after, field_column, joined_columns, packet_columns, place_of}
use Rattle.sn_types_faults.specs.Faults.{join_loses}
use Rattle.sn_types_faults.specs.Names.{Name, is_in, packet_fields, same_name}
use Rattle.sn_types_faults.specs.Walk.Place.{JoinLine, Operator}
use Rattle.sn_types_faults.specs.Walk.{Place, branch_end, branch_places, carried_along, fault_at, first_fault, is_end, join_places, operator_places, query_places, refine_levels, refine_places, scope_after, scope_before, scope_end, scope_joined}
use Rattle.sn_ops.specs.Joins as joins
use Rattle.sn_ops.specs.Joins.{both, joined, lefts, meets, rights}
use Rattle.sn_ops.specs.Packets.{is_kept}
use Rattle.sn_ops.specs.Plain.{branch_rows, query_rows}
use Rattle.sn_types.specs.Typed.{IsTyped, packet_row, query_at}
use Rattle.sn_types.specs.Typing.{field_of, join_key, typed_ops, typed_query}
use Rattle.sn_types.specs.Values.{op_at}
use Rattle.sn_types.specs.declared.typed_op.JoinKey.{JoinKey}
use Rattle.sn_types.specs.declared.typed_query.TypedQuery.{TypedQuery}
use Rattle.sn_types.proofs.Facts.{few_packet_fields, parts_of}
use Rattle.sn_types.proofs.Joining.{joined_schema, joined_whole, sound_join}
use Rattle.sn_types.proofs.Known.{IsKnown}
use Rattle.sn_types.proofs.RowLemmas.{place_is}
use Rattle.sn_types.proofs.Schemas.{IsSchema, columns_along, packet_schema, packet_whole, schema_after}
use Rattle.sn_types.proofs.Sound.{AreSound, sound_branch, sound_posts}
use Rattle.sn_types.proofs.Sources.{later_none, none_in_both, none_in_each, source_of}
use Rattle.sn_types.proofs.TypedRows.{scope_along}
use Rattle.sn_refine_laws.proofs.CarriedQueries.{end_schema, is_key, join_kept}
use Rattle.sn_types.proofs.NotLost.{known_first, not_lost}
use Rattle.sn_types.proofs.CarriedPlaces.{at_name, field_number, key_known, key_number, named}
use Rattle.sn_refine_laws.specs.Carrying.{CarryTo, passes}
use Rattle.sn_refine_laws.proofs.Filtering.{through_filtered}
use Rattle.sn_refine_laws.proofs.Levels.{masked_twice, read_masked}
use Rattle.sn_refine_laws.proofs.Queries.{level_range}
use Rattle.sn_refine_laws.proofs.Reading.{takes_on}

-- ---- joins

module _ (meet : Row → Row → Bool) (make : Row → Row → Row) (left right pair : Row → Bool) (reads : (l r : Row) → pair (make l r) ≡ left l) (agree : (l r : Row) → meet l r ≡ true → right r ≡ left l) where
  pairs_kept : (l : Row) → left l ≡ true → (rs : List Row) → filter pair (map (make l) rs) ≡ map (make l) rs
  pairs_kept l is [] = refl
  pairs_kept l is (r ∷ rs) =
      ap (λ b. cond b (make l r ∷ filter pair (map (make l) rs)) (filter pair (map (make l) rs))) (reads l r ∙ is) ∙ ap (λ xs. make l r ∷ xs) (pairs_kept l is rs)

  pairs_gone : (l : Row) → left l ≡ false → (rs : List Row) → filter pair (map (make l) rs) ≡ []
  pairs_gone l isnt [] = refl
  pairs_gone l isnt (r ∷ rs) =
      ap (λ b. cond b (make l r ∷ filter pair (map (make l) rs)) (filter pair (map (make l) rs))) (reads l r ∙ isnt) ∙ pairs_gone l isnt rs

  pub join_filtered : (ls rs : List Row) → join meet make (filter left ls) (filter right rs) ≡ filter pair (join meet make ls rs)
  join_filtered [] rs = refl
  join_filtered (l ∷ ls) rs =
      let own : List Row = map (make l) (filter (meet l) rs) in
      let rest = join_filtered ls rs in
      let whole : filter pair (join meet make (l ∷ ls) rs) ≡ filter pair own ++ filter pair (join meet make ls rs) = filter-append pair own (join meet make ls rs) in
      by_test (left l)
      (λ is. ap (λ b. join meet make (cond b (l ∷ filter left ls) (filter left ls)) (filter right rs)) is
      ∙ ap (λ xs. map (make l) xs ++ join meet make (filter left ls) (filter right rs)) (filter_within (meet l) right (λ r m. agree l r m ∙ is) rs)
      ∙ ap (λ xs. own ++ xs) rest
      ∙ ap (λ xs. xs ++ filter pair (join meet make ls rs)) (sym (pairs_kept l is (filter (meet l) rs)))
      ∙ sym whole)
      (λ isnt. ap (λ b. join meet make (cond b (l ∷ filter left ls) (filter left ls)) (filter right rs)) isnt
      ∙ rest
      ∙ ap (λ xs. xs ++ filter pair (join meet make ls rs)) (sym (pairs_gone l isnt (filter (meet l) rs)))
      ∙ sym whole)

-- rows that meet agree in a name among the keys
meet_same : (L R : List Column) (name : Name) (keys : List Name) (l r : Row) → is_in name keys ≡ true → columns_at (map (place_of L) keys) l ≡ columns_at (map (place_of R) keys) r → slice_index l (place_of L name) ≡ slice_index r (place_of R name)
meet_same L R name [] l r among e = absurd (false≢true among)
meet_same L R name (k ∷ keys) l r among e =
    by_test (same_name k name)
    (λ is. let same : k ≡ name = same_row_exact k name is in
    ap (λ (n : Name). slice_index l (place_of L n)) (sym same) ∙ ap (λ (row : Row). slice_index row 0) e ∙ ap (λ (n : Name). slice_index r (place_of R n)) same)
    (λ isnt. meet_same L R name keys l r (sym (ap (λ b. b || is_in name keys) isnt) ∙ among) (ap tail e))
  where
    tail : Row → Row
    tail [] = []
    tail (x ∷ xs) = xs

module _ (keep : ℕ → Bool) (L R : List Column) (keys : List Name) (name : Name) (among : is_in name keys ≡ true) (known_left : IsKnown L name) (known_right : IsKnown R name) where
  abbrev pairs_place : ℕ
  pairs_place = at_name (joined_columns keys L R) name

  pub joined_filtered : (left right : List Row) → joined (map (join_key L R) keys) (filter (passes keep (at_name L name)) left) (filter (passes keep (at_name R name)) right) ≡ filter (passes keep pairs_place) (joined (map (join_key L R) keys) left right)
  joined_filtered left right =
      let ks : List JoinKey = map (join_key L R) keys in
      let on_left : lefts ks ≡ map (place_of L) keys = map_both (join_key L R) (λ (k : JoinKey). k.left) keys in
      let on_right : rights ks ≡ map (place_of R) keys = map_both (join_key L R) (λ (k : JoinKey). k.right) keys in
      let regrouped = append_assoc (map (column_named L) keys) (columns.others keys L) (columns.others keys R) in
      join_filtered (meets (lefts ks) (rights ks)) (both (lefts ks) (rights ks)) (passes keep (at_name L name)) (passes keep (at_name R name)) (passes keep pairs_place)
      (λ l r. let ls : List ℕ = lefts ks in
      let rs : List ℕ = rights ks in
      ap keep (ap (λ (xs : List Column). slice_index (both ls rs l r) (at_name xs name)) regrouped
      ∙ ap (λ (row : Row). slice_index row (at_name (map (column_named L) keys ++ (columns.others keys L ++ columns.others keys R)) name)) (append_assoc (columns_at ls l) (joins.others ls l) (joins.others rs r))
      ∙ ap (λ (xs : List ℕ). slice_index (columns_at xs l ++ (joins.others ls l ++ joins.others rs r)) (at_name (map (column_named L) keys ++ (columns.others keys L ++ columns.others keys R)) name)) on_left
      ∙ key_number L l name keys (columns.others keys L ++ columns.others keys R) (joins.others ls l ++ joins.others rs r) among
      ∙ ap (slice_index l) (place_is (named name) L known_left)))
      (λ l r m. ap keep (ap (slice_index r) (sym (place_is (named name) R known_right))
      ∙ sym (meet_same L R name keys l r among (sym (ap (λ (xs : List ℕ). columns_at xs l) on_left) ∙ same_row_exact (columns_at (lefts ks) l) (columns_at (rights ks) r) m ∙ ap (λ (xs : List ℕ). columns_at xs r) on_right))
      ∙ ap (slice_index l) (place_is (named name) L known_left)))
      left right

-- the branches of a join carry one name
names_same : (left right : Option Name) (l r : Name) (keys : List Name) → left ≡ Some l → right ≡ Some r → join_loses left right keys ≡ false → l ≡ r
names_same left right l r keys is_left is_right kept =
    let test : Option Name → Option Name → Bool = λ a b. join_loses a b keys in
    let both : join_loses (Some l) (Some r) keys ≡ false = sym (ap (λ a. test a right) is_left ∙ ap (test (Some l)) is_right) ∙ kept in
    same_row_exact l r (and_parts (same_name l r) (is_in l keys) (not_false (same_name l r && is_in l keys) both)).0

-- ---- along operators

record TakesAlong (level : ℕ) (scope : Scope) (ops : List Op) (name : Name) : Type 0 where
  to : Name
  is : (scope_end scope ops).carried ≡ Some to
  known : IsKnown (columns_along scope.columns ops) to
  carry : CarryTo (map (op_at level) (typed_ops scope.columns ops)) (at_name scope.columns name) (at_name (columns_along scope.columns ops) to)

takes_along : (levels : List ℕ) (level : ℕ) (scope : Scope) (ops : List Op) (name : Name) → scope.carried ≡ Some name → first_fault (operator_places levels scope ops) ≡ None → IsSchema scope.columns → AreSound scope.columns ops → IsKnown scope.columns name → TakesAlong level scope ops name
takes_along levels level scope [] name carried none schema s known = record { to = name; is = carried; known = known; carry = refl }
takes_along levels level scope (op ∷ ops) name carried none schema s known =
    let parts = later_none (fault_at (Operator levels scope op (is_end ops))) (first_fault (operator_places levels (scope_after scope op.what) ops)) none in
    let lost = not_lost levels scope op (is_end ops) name carried parts.0 in
    let one = takes_on level scope.columns op.what name schema s.0 lost.0 known in
    let rest = takes_along levels level (scope_after scope op.what) ops one.to (ap (λ o. carried_along o op.what) carried ∙ one.is) parts.1 (schema_after scope.columns op.what schema s.0) s.1 one.known in
    record { to = rest.to; is = rest.is; known = rest.known; carry = (at_name (columns_after scope.columns op.what) one.to, one.carries, rest.carry) }

-- ---- branches and queries

abbrev query_of : Name → Option Refine → List Branch → Option Join → Query
query_of name refine branches join = record { name = name; refine = refine; branches = branches; join = join }

IsClean : Option Refine → Branch → Type 0
IsClean refine b = first_fault (branch_places refine b.ops) ≡ None

module _ (keep : ℕ → Bool) (field : Field) (bits level : ℕ) (some : 1 ≤ level) (le : bits ≤ level) (within : level ≤ width_of field) (tuples : List (List ℕ)) where
  -- a number, or a tuple's field, has one of the prefixes
  abbrev has_prefix : ℕ → Bool
  has_prefix n = keep (masked (width_of field) bits n)

  abbrev tuple_has : List ℕ → Bool
  tuple_has tuple = has_prefix (slice_index tuple (number_of field))

  packets_filtered : (name : Name) (gs : List Field) → with_name name ≡ Some field → IsKnown (map field_column gs) name →
      map (packet_row (Some field) level gs) (filter tuple_has tuples) ≡ filter (passes has_prefix (at_name (map field_column gs) name)) (map (packet_row (Some field) level gs) tuples)
  packets_filtered name gs is_field known =
      let row : List ℕ → Row = packet_row (Some field) level gs in
      let p : ℕ = at_name (map field_column gs) name in
      ap (map row) (filter_same tuple_has (λ tuple. passes has_prefix p (row tuple))
      (λ tuple. ap keep (sym (masked_twice (width_of field) bits level (slice_index tuple (number_of field)) le within)) ∙ ap has_prefix (sym (field_number (Some field) level tuple field name is_field gs known ∙ read_masked field level tuple some))) tuples)
      ∙ filter_map row (passes has_prefix p) tuples

  record BranchEnd (rf : Refine) (b : Branch) : Type 0 where
    name : Name
    is : (branch_end (Some rf) b.ops).carried ≡ Some name
    known : IsKnown (branch_end (Some rf) b.ops).columns name
    same : (o : Option Field) → o ≡ Some field → through (map (op_at level) (typed_ops (packet_columns b.ops) b.ops)) (map (packet_row o level (packet_fields b.ops)) (filter (is_kept o None) (filter tuple_has tuples)))
        ≡ filter (passes has_prefix (at_name (branch_end (Some rf) b.ops).columns name)) (through (map (op_at level) (typed_ops (packet_columns b.ops) b.ops)) (map (packet_row o level (packet_fields b.ops)) (filter (is_kept o None) tuples)))

  kept_all : (xs : List (List ℕ)) → filter (is_kept (Some field) None) xs ≡ xs
  kept_all [] = refl
  kept_all (x ∷ xs) = ap (λ ys. x ∷ ys) (kept_all xs)

  branch_filtered : (rf : Refine) (b : Branch) → BranchLimits b → IsClean (Some rf) b → with_name rf.field ≡ Some field → BranchEnd rf b
  unfolding IsClean
  branch_filtered rf b limits none is_field =
      let ops : List Op = b.ops in
      let scope : Scope = scope_before (Some rf) ops in
      let few = few_packet_fields (Some rf) ops none in
      let sound = sound_branch (Some rf) ops limits.each none in
      let whole = packet_whole ops few in
      let known : IsKnown (packet_columns ops) rf.field = first_known ops limits.count.from_least none sound in
      let gs : List Field = packet_fields ops in
      let along = takes_along (refine_levels (Some rf)) level scope ops rf.field refl none (packet_schema ops few) sound known in
      let acts : List Acting = map (op_at level) (typed_ops (packet_columns ops) ops) in
      let row : List ℕ → Row = packet_row (Some field) level gs in
      let first : map row (filter tuple_has tuples) ≡ filter (passes has_prefix (at_name (packet_columns ops) rf.field)) (map row tuples) =
      packets_filtered rf.field gs is_field (subst (λ (xs : List Column). IsKnown xs rf.field) whole known) ∙ ap (λ (xs : List Column). filter (passes has_prefix (at_name xs rf.field)) (map row tuples)) (sym whole) in
      record {
        name = along.to;
        is = along.is;
        known = subst (λ (xs : List Column). IsKnown xs along.to) (sym (scope_along scope ops)) along.known;
        same = λ o is. subst (λ (o : Option Field). through acts (map (packet_row o level gs) (filter (is_kept o None) (filter tuple_has tuples))) ≡ filter (passes has_prefix (at_name (branch_end (Some rf) ops).columns along.to)) (through acts (map (packet_row o level gs) (filter (is_kept o None) tuples)))) (sym is)
            (ap (λ ts. through acts (map row ts)) (kept_all (filter tuple_has tuples))
            ∙ ap (through acts) first
            ∙ through_filtered has_prefix acts (at_name (packet_columns ops) rf.field) (at_name (columns_along (packet_columns ops) ops) along.to) along.carry (map row tuples)
            ∙ ap (λ (xs : List Column). filter (passes has_prefix (at_name xs along.to)) (through acts (map row tuples))) (sym (scope_along scope ops))
            ∙ ap (λ ts. filter (passes has_prefix (at_name (branch_end (Some rf) ops).columns along.to)) (through acts (map row ts))) (sym (kept_all tuples)));
      }
    where
      first_known : (ops : List Op) → 1 ≤ length ops → first_fault (branch_places (Some rf) ops) ≡ None → AreSound (packet_columns ops) ops → IsKnown (packet_columns ops) rf.field
      first_known [] some clean s = absurd (omega arith)
      first_known (op ∷ ops) some clean s = known_first (refine_levels (Some rf)) (scope_before (Some rf) (op ∷ ops)) op ops rf.field refl refl clean s

  -- the rows on the tuples with these prefixes are those whose number has one
  abbrev Filtered : TypedQuery → Type 0
  Filtered t = query_rows t level None (filter tuple_has tuples) ≡ filter (passes has_prefix (unwrap_or t.column 0)) (query_rows t level None tuples)

  one_filtered : (name : Name) (rf : Refine) (b : Branch) → BranchLimits b → IsClean (Some rf) b → with_name rf.field ≡ Some field → Filtered (typed_query (query_of name (Some rf) (b ∷ []) None))
  one_filtered name rf b limits none is_field =
      let t : TypedQuery = typed_query (query_of name (Some rf) (b ∷ []) None) in
      let end = branch_filtered rf b limits none is_field in
      let cs : List Column = (branch_end (Some rf) b.ops).columns in
      let column : unwrap_or t.column 0 ≡ at_name cs end.name = ap (λ o. unwrap_or (option_map (place_of cs) o) 0) end.is ∙ place_is (named end.name) cs end.known in
      end.same t.field is_field ∙ ap (λ p. filter (passes has_prefix p) (query_rows t level None tuples)) (sym column)

  two_filtered : (name : Name) (rf : Refine) (a b : Branch) (j : Join) → AreJoined (a ∷ b ∷ []) (Some j) → BranchLimits a → BranchLimits b → IsClean (Some rf) a → IsClean (Some rf) b → first_fault (join_places (Some rf) (a ∷ b ∷ []) (Some j)) ≡ None →
      with_name rf.field ≡ Some field → Filtered (typed_query (query_of name (Some rf) (a ∷ b ∷ []) (Some j)))
  unfolding IsClean
  two_filtered name rf a b j h on_a on_b none_a none_b none is_field =
      let t : TypedQuery = typed_query (query_of name (Some rf) (a ∷ b ∷ []) (Some j)) in
      let left : Scope = branch_end (Some rf) a.ops in
      let right : Scope = branch_end (Some rf) b.ops in
      let scope : Scope = scope_joined left right j in
      let parts = later_none (fault_at (JoinLine left right j)) (first_fault (operator_places (refine_levels (Some rf)) scope j.post)) none in
      let kept = join_kept left right j parts.0 in
      let sound = sound_join left right j parts.0 in
      let on_left = branch_filtered rf a on_a none_a is_field in
      let on_right = branch_filtered rf b on_b none_b is_field in
      let carried : Name = on_left.name in
      let same : carried ≡ on_right.name = names_same left.carried right.carried carried on_right.name j.keys on_left.is on_right.is kept in
      let among = is_key left.carried right.carried carried j.keys on_left.is kept in
      let known_right : IsKnown right.columns carried = subst (IsKnown right.columns) (sym same) on_right.known in
      let whole = joined_whole left.columns right.columns j.keys sound in
      let pairs : List Column = joined_columns j.keys left.columns right.columns in
      let known : IsKnown scope.columns carried =
      subst (λ (xs : List Column). IsKnown xs carried) (sym whole)
      (subst (λ (xs : List Column). IsKnown xs carried) (sym (append_assoc (map (column_named left.columns) j.keys) (columns.others j.keys left.columns) (columns.others j.keys right.columns)))
      (key_known left.columns carried j.keys (columns.others j.keys left.columns ++ columns.others j.keys right.columns) among)) in
      let schema = joined_schema left.columns right.columns j.keys (end_schema rf a on_a none_a) (end_schema rf b on_b none_b) sound in
      let along = takes_along (refine_levels (Some rf)) level scope j.post carried on_left.is parts.1 schema (sound_posts (Some rf) (a ∷ b ∷ []) (Some j) h none) known in
      let lefts : List (List ℕ) → List Row = λ ts. branch_rows t 0 level None ts in
      let rights : List (List ℕ) → List Row = λ ts. branch_rows t 1 level None ts in
      let posts : List Acting = map (op_at level) (typed_ops scope.columns j.post) in
      let column : unwrap_or t.column 0 ≡ at_name (columns_along scope.columns j.post) along.to =
      ap (λ o. unwrap_or (option_map (place_of (scope_end scope j.post).columns) o) 0) along.is
      ∙ ap (λ (xs : List Column). place_of xs along.to) (scope_along scope j.post)
      ∙ place_is (named along.to) (columns_along scope.columns j.post) along.known in
      ap (λ ls. through posts (joined t.keys ls (rights (filter tuple_has tuples)))) (on_left.same t.field is_field)
      ∙ ap (λ rs. through posts (joined t.keys (filter (passes has_prefix (at_name left.columns carried)) (lefts tuples)) rs)) (on_right.same t.field is_field)
      ∙ ap (λ (n : Name). through posts (joined t.keys (filter (passes has_prefix (at_name left.columns carried)) (lefts tuples)) (filter (passes has_prefix (at_name right.columns n)) (rights tuples)))) (sym same)
      ∙ ap (through posts) (joined_filtered has_prefix left.columns right.columns j.keys carried among on_left.known known_right (lefts tuples) (rights tuples))
      ∙ ap (λ (xs : List Column). through posts (filter (passes has_prefix (at_name xs carried)) (joined t.keys (lefts tuples) (rights tuples)))) (sym whole)
      ∙ through_filtered has_prefix posts (at_name scope.columns carried) (at_name (columns_along scope.columns j.post) along.to) along.carry (joined t.keys (lefts tuples) (rights tuples))
      ∙ ap (λ p. filter (passes has_prefix p) (query_rows t level None tuples)) (sym column)

  parts_filtered : (name : Name) (refine : Option Refine) (branches : List Branch) (join : Option Join) → AreJoined branches join → AllByRecursion BranchLimits branches → AllByRecursion (IsClean refine) branches → first_fault (join_places refine branches join) ≡ None →
      field_of refine ≡ Some field → Filtered (typed_query (query_of name refine branches join))
  parts_filtered name None branches join h limits clean none is_field = absurd (none_some is_field)
  parts_filtered name (Some r) [] None h limits clean none is_field = absurd (omega (arith, h))
  parts_filtered name (Some r) (a ∷ []) None h limits clean none is_field = one_filtered name r a limits.0 clean.0 is_field
  parts_filtered name (Some r) (a ∷ b ∷ branches) None h limits clean none is_field = absurd (omega (arith, h))
  parts_filtered name (Some r) [] (Some j) h limits clean none is_field = absurd (omega (arith, h.0))
  parts_filtered name (Some r) (a ∷ []) (Some j) h limits clean none is_field = absurd (omega (arith, h.0))
  parts_filtered name (Some r) (a ∷ b ∷ []) (Some j) h limits clean none is_field = two_filtered name r a b j h limits.0 limits.1.0 clean.0 clean.1.0 none is_field
  parts_filtered name (Some r) (a ∷ b ∷ d ∷ branches) (Some j) h limits clean none is_field = absurd (omega (arith, h.0))

  query_filtered : (q : Query) → QueryLimits q → first_fault (query_places q) ≡ None → (typed_query q).field ≡ Some field → Filtered (typed_query q)
  unfolding IsClean
  query_filtered q limits none is_field =
      let branches : List Place = flat_map (λ (b : Branch). branch_places q.refine b.ops) q.branches in
      let clean = none_in_each (λ (b : Branch). branch_places q.refine b.ops) q.branches (parts_of q none).1 in
      let join = (none_in_both (refine_places q.refine ++ branches) (join_places q.refine q.branches q.join) none).1 in
      parts_filtered q.name q.refine q.branches q.join limits.joined limits.branches clean join is_field

-- for every refined query and level: its rows on the tuples whose prefix passes a test are those of its rows whose refinement
-- column's prefix passes it, in the same order
pub queries_filtered : (window q level bits : ℕ) (queries : List TypedQuery) (field : Field) (keep : ℕ → Bool) (tuples : List (List ℕ)) → IsTyped window queries → q < length queries → (query_at queries q).field ≡ Some field → list_any (nat_eq level) (query_at queries q).levels ≡ true → bits ≤ level →
    query_rows (query_at queries q) level None (filter (λ tuple. keep (masked (width_of field) bits (slice_index tuple (number_of field)))) tuples)
    ≡ filter (λ row. keep (masked (width_of field) bits (slice_index row (unwrap_or (query_at queries q).column 0)))) (query_rows (query_at queries q) level None tuples)
queries_filtered window q level bits queries field keep tuples t lt is_field among le =
    let range = level_range window q level queries field t lt is_field among in
    let s = source_of window queries q t lt in
    let high = range.le in
    let top = range.within in
    let within : level ≤ width_of field = omega (arith, high, top) in
    subst (λ (y : TypedQuery). y.field ≡ Some field → Filtered keep field bits level range.some le within tuples y) (sym s.is)
    (query_filtered keep field bits level range.some le within tuples s.query s.limits s.no_fault) is_field
