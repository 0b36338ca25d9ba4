-- The carried column along the operators of a branch, after a join, and in a whole query.
use Rattle.std.proofs.Common.{◌≡◌, ℕ, ◌<◌, ◌≤◌, List, [], ◌∷◌, ◌++◌, map, filter, length, true, false, ◌&&◌, cond, slice_index, Option, None, Some, IsSomeAnd, refl, ap, sym, ◌∙◌, subst, arith, get_or}
use Rattle.std.specs.List.{AllByRecursion, Contains, flat_map}
use Rattle.std.specs.Option.{option_map}
use Rattle.std.proofs.lemmas.Bool.{false≢true}
use Rattle.std.proofs.lemmas.List.{get_or_default}
use Rattle.std.proofs.lemmas.List.Elements.{All-from_get_or, recursion_from_All}
use Rattle.sn_base.proofs.Lists.{all_weaker, and_parts, none_some, not_false, some_same}
use Rattle.sn_base.specs.Groups.{Row}
use Rattle.sn_base.specs.Operators.{through}
use Rattle.sn_base.specs.declared.column.Column.{Column}
use Rattle.sn_fields.specs.declared.field.Field.{Field}
use Rattle.sn_fields.specs.Fields.{with_name}
use Rattle.sn_query_grammar.specs.Limits.{AreJoined, BranchLimits, QueryLimits}
use Rattle.sn_query_grammar.specs.declared.ast.Branch.{Branch}
use Rattle.sn_query_grammar.specs.declared.ast.Join.{Join}
use Rattle.sn_query_grammar.specs.declared.ast.Op.{Op}
use Rattle.sn_query_grammar.specs.declared.ast.Query.{Query}
use Rattle.sn_query_grammar.specs.declared.ast.Refine.{Refine}
use Rattle.sn_types_faults.specs.declared.fault.TypeFault.{TypeFault}
use Rattle.sn_types_faults.specs.declared.fault.TypeFault.TheVariants.{TooWide, RefineLost, JoinKeys}
use Rattle.sn_types_faults.specs.declared.scope.Scope.{Scope}
use Rattle.sn_types_faults.specs.Columns.{packet_columns, place_of}
use Rattle.sn_types_faults.specs.Faults.{join_loses, join_too_wide, wrong_keys}
use Rattle.sn_types_faults.specs.Names.{Name, is_in, packet_fields, same_name}
use Rattle.sn_types_faults.specs.Walk.Place.{JoinLine, Operator}
use Rattle.sn_types_faults.specs.Walk.{Place, branch_end, branch_places, carried_along, fault_at, first_fault, is_end, join_places, operator_places, query_places, refine_levels, refine_places, scope_after, scope_before, scope_end, scope_joined}
use Rattle.sn_types.specs.declared.typed_query.TypedQuery.{TypedQuery}
use Rattle.sn_types.specs.Typed.{IsTyped, final_columns, packet_row, query_at, read_at}
use Rattle.sn_types.specs.Typing.{field_of, typed_ops, typed_query}
use Rattle.sn_types.specs.Values.{op_at}
use Rattle.sn_types.proofs.Facts.{few_packet_fields, if_none, parts_of}
use Rattle.sn_types.proofs.Joining.{joined_schema, joined_whole, sound_join}
use Rattle.sn_types.proofs.Known.{IsKnown, known_place}
use Rattle.sn_types.proofs.Schemas.{IsSchema, columns_along, packet_schema, packet_whole, schema_after, schema_along}
use Rattle.sn_types.proofs.Sound.{AreSound, sound_branch, sound_posts}
use Rattle.sn_types.proofs.Sources.{later_none, none_in_both, none_in_each, source_of}
use Rattle.sn_types.proofs.TypedRows.{end_along, scope_along}
use Rattle.sn_ops.specs.declared.packets.Kept.{Kept}
use Rattle.sn_ops.specs.Joins.{joined}
use Rattle.sn_ops.specs.Packets.{is_kept}
use Rattle.sn_ops.specs.Plain.{branch_rows, query_rows}
use Rattle.sn_refine_laws.specs.Carried.{CarriesField, IsFieldOf}
use Rattle.sn_refine_laws.proofs.CarriedRows.{Carries, Ends, after_join, after_op, at_place, packets}
use Rattle.sn_types.proofs.NotLost.{known_first, not_lost}

-- ---- along operators

module _ (V : ℕ → Type 0) where
  along : (levels : List ℕ) (scope : Scope) (ops : List Op) (level : ℕ) (name : Name) (rows : List Row) → scope.carried ≡ Some name → first_fault (operator_places levels scope ops) ≡ None → IsSchema scope.columns → AreSound scope.columns ops → Carries V scope.columns name rows →
      Ends V (columns_along scope.columns ops) (scope_end scope ops).carried (through (map (op_at level) (typed_ops scope.columns ops)) rows)
  along levels scope [] level name rows carried none schema s h = record { name = name; is = carried; carries = h }
  along levels scope (op ∷ ops) level name rows carried none schema s h =
      let parts = later_none (fault_at (Operator levels scope op (is_end ops))) (first_fault (operator_places levels (scope_after scope op.what) ops)) none in
      let lost = not_lost levels scope op (is_end ops) name carried parts.0 in
      let one = after_op V level scope.columns op.what name rows schema s.0 lost.0 h in
      along levels (scope_after scope op.what) ops level one.name _ (ap (λ o. carried_along o op.what) carried ∙ one.is) parts.1 (schema_after scope.columns op.what schema s.0) s.1 one.carries

  -- at the end of a branch
  branch_ends : (r : Refine) (b : Branch) (field : Field) (refined : Option Field) (level : ℕ) (tuples : List (List ℕ)) → BranchLimits b → first_fault (branch_places (Some r) b.ops) ≡ None → with_name r.field ≡ Some field →
      AllByRecursion (λ tuple. V (read_at refined level tuple field)) tuples →
      Ends V (branch_end (Some r) b.ops).columns (branch_end (Some r) b.ops).carried (through (map (op_at level) (typed_ops (packet_columns b.ops) b.ops)) (map (packet_row refined level (packet_fields b.ops)) tuples))
  branch_ends r b field refined level tuples limits none is_field h =
      let scope : Scope = scope_before (Some r) b.ops in
      let few = few_packet_fields (Some r) b.ops none in
      let sound = sound_branch (Some r) b.ops limits.each none in
      let whole = packet_whole b.ops few in
      let known : IsKnown (packet_columns b.ops) r.field = first_known b.ops limits.count.from_least none sound in
      let rows = map (packet_row refined level (packet_fields b.ops)) tuples in
      let start : Carries V (packet_columns b.ops) r.field rows =
      subst (λ (cs : List Column). Carries V cs r.field rows) (sym whole) (packets V refined level field r.field (packet_fields b.ops) tuples is_field (subst (λ (cs : List Column). IsKnown cs r.field) whole known) h) in
      subst (λ (cs : List Column). Ends V cs (branch_end (Some r) b.ops).carried (through (map (op_at level) (typed_ops (packet_columns b.ops) b.ops)) rows)) (sym (scope_along scope b.ops))
      (along (refine_levels (Some r)) scope b.ops level r.field rows refl none (packet_schema b.ops few) sound start)
    where
      first_known : (ops : List Op) → 1 ≤ length ops → first_fault (branch_places (Some r) ops) ≡ None → AreSound (packet_columns ops) ops → IsKnown (packet_columns ops) r.field
      first_known [] some clean s = absurd (omega arith)
      first_known (op ∷ ops) some clean s = known_first (refine_levels (Some r)) (scope_before (Some r) (op ∷ ops)) op ops r.field refl refl clean s

-- ---- whole queries

-- each tuple is one of them
each_of : (tuples : List (List ℕ)) → AllByRecursion (Contains tuples) tuples
each_of tuples = recursion_from_All (Contains tuples) tuples (All-from_get_or (Contains tuples) tuples [] (λ i within. (i, within, get_or_default tuples i (get_or tuples i []) [] within)))

each_field : (query : TypedQuery) (field : Field) (level : ℕ) (kept : Option Kept) (tuples : List (List ℕ)) →
    AllByRecursion (λ tuple. IsFieldOf query field level kept tuples (read_at query.field level tuple field)) (filter (is_kept query.field kept) tuples)
each_field query field level kept tuples =
    let ks : List (List ℕ) = filter (is_kept query.field kept) tuples in
    all_weaker (Contains ks) (λ tuple. IsFieldOf query field level kept tuples (read_at query.field level tuple field)) (λ tuple among. (tuple, among, refl)) ks (each_of ks)

from_ends : (t : TypedQuery) (field : Field) (level : ℕ) (kept : Option Kept) (tuples : List (List ℕ)) (cs : List Column) (carried : Option Name) → t.column ≡ option_map (place_of cs) carried → final_columns t ≡ cs →
    Ends (IsFieldOf t field level kept tuples) cs carried (query_rows t level kept tuples) → CarriesField t field level kept tuples
from_ends t field level kept tuples cs carried column final ends =
    let V : ℕ → Type 0 = IsFieldOf t field level kept tuples in
    let rows : List Row = query_rows t level kept tuples in
    let place : ℕ = place_of cs ends.name in
    let at : t.column ≡ Some place = column ∙ ap (option_map (place_of cs)) ends.is in
    subst (λ (o : Option ℕ). IsSomeAnd o (λ p. (p < length (final_columns t)) × AllByRecursion (λ row. V (slice_index row p)) rows)) (sym at)
    (subst (λ (xs : List Column). place < length xs) (sym final) (known_place cs ends.name ends.carries.known), at_place V cs ends.name rows ends.carries)

-- the carried column of the left is a key
pub is_key : (left right : Option Name) (name : Name) (keys : List Name) → left ≡ Some name → join_loses left right keys ≡ false → is_in name keys ≡ true
is_key None right name keys is kept = absurd (none_some is)
is_key (Some l) None name keys is kept = absurd (false≢true (sym kept))
is_key (Some l) (Some r) name keys is kept = ap (λ n. is_in n keys) (sym (some_same l name is)) ∙ (and_parts (same_name l r) (is_in l keys) (not_false (same_name l r && is_in l keys) kept)).1

pub join_kept : (left right : Scope) (j : Join) → fault_at (JoinLine left right j) ≡ None → join_loses left.carried right.carried j.keys ≡ false
join_kept left right j none =
    let of_keys : Option TypeFault = cond (wrong_keys left.columns right.columns j.keys) (Some (JoinKeys j.line)) None in
    let of_lost : Option TypeFault = cond (join_loses left.carried right.carried j.keys) (Some (RefineLost j.line)) of_keys in
    let a = if_none (join_too_wide left.columns right.columns j.keys) (TooWide j.line) of_lost none in
    (if_none (join_loses left.carried right.carried j.keys) (RefineLost j.line) of_keys a.1).0

pub end_schema : (r : Refine) (b : Branch) → BranchLimits b → first_fault (branch_places (Some r) b.ops) ≡ None → IsSchema (branch_end (Some r) b.ops).columns
end_schema r b limits none =
    subst IsSchema (sym (scope_along (scope_before (Some r) b.ops) b.ops))
    (schema_along (packet_columns b.ops) b.ops (packet_schema b.ops (few_packet_fields (Some r) b.ops none)) (sound_branch (Some r) b.ops limits.each none))

abbrev query_of : Name → Option Refine → List Branch → Option Join → Query
query_of name refine branches join = record { name = name; refine = refine; branches = branches; join = join }

IsClean : Option Refine → Branch → Type 0
IsClean refine b = first_fault (branch_places refine b.ops) ≡ None

module _ (field : Field) (level : ℕ) (kept : Option Kept) (tuples : List (List ℕ)) where
  one_carries : (name : Name) (r : Refine) (a : Branch) → BranchLimits a → IsClean (Some r) a → with_name r.field ≡ Some field → CarriesField (typed_query (query_of name (Some r) (a ∷ []) None)) field level kept tuples
  unfolding IsClean
  one_carries name r a limits none is_field =
      let t : TypedQuery = typed_query (query_of name (Some r) (a ∷ []) None) in
      from_ends t field level kept tuples (branch_end (Some r) a.ops).columns (branch_end (Some r) a.ops).carried refl refl
      (branch_ends (IsFieldOf t field level kept tuples) r a field t.field level (filter (is_kept t.field kept) tuples) limits none is_field (each_field t field level kept tuples))

  two_carry : (name : Name) (r : Refine) (a b : Branch) (j : Join) → AreJoined (a ∷ b ∷ []) (Some j) → BranchLimits a → BranchLimits b → IsClean (Some r) a → IsClean (Some r) b → first_fault (join_places (Some r) (a ∷ b ∷ []) (Some j)) ≡ None →
      with_name r.field ≡ Some field → CarriesField (typed_query (query_of name (Some r) (a ∷ b ∷ []) (Some j))) field level kept tuples
  unfolding IsClean
  two_carry name r a b j h on_a on_b none_a none_b none is_field =
      let t : TypedQuery = typed_query (query_of name (Some r) (a ∷ b ∷ []) (Some j)) in
      let V : ℕ → Type 0 = IsFieldOf t field level kept tuples in
      let left : Scope = branch_end (Some r) a.ops in
      let right : Scope = branch_end (Some r) b.ops in
      let scope : Scope = scope_joined left right j in
      let lefts : List Row = branch_rows t 0 level kept tuples in
      let rights : List Row = branch_rows t 1 level kept tuples in
      let parts = later_none (fault_at (JoinLine left right j)) (first_fault (operator_places (refine_levels (Some r)) scope j.post)) none in
      let sound = sound_join left right j parts.0 in
      let ends : Ends V left.columns left.carried lefts = branch_ends V r a field t.field level (filter (is_kept t.field kept) tuples) on_a none_a is_field (each_field t field level kept tuples) in
      let pairs = after_join V left.columns right.columns j.keys ends.name lefts rights (is_key left.carried right.carried ends.name j.keys ends.is (join_kept left right j parts.0)) ends.carries in
      let start : Carries V scope.columns ends.name (joined t.keys lefts rights) = subst (λ (cs : List Column). Carries V cs ends.name (joined t.keys lefts rights)) (sym (joined_whole left.columns right.columns j.keys sound)) pairs in
      let schema = joined_schema left.columns right.columns j.keys (end_schema r a on_a none_a) (end_schema r b on_b none_b) sound in
      let posts = sound_posts (Some r) (a ∷ b ∷ []) (Some j) h none in
      from_ends t field level kept tuples (columns_along scope.columns j.post) (scope_end scope j.post).carried
      (ap (λ (cs : List Column). option_map (place_of cs) (scope_end scope j.post).carried) (scope_along scope j.post)) (end_along scope.columns j.post)
      (along V (refine_levels (Some r)) scope j.post level ends.name (joined t.keys lefts rights) ends.is parts.1 schema posts start)

  parts_carry : (name : Name) (refine : Option Refine) (branches : List Branch) (join : Option Join) → AreJoined branches join → AllByRecursion BranchLimits branches → AllByRecursion (IsClean refine) branches → first_fault (join_places refine branches join) ≡ None →
      field_of refine ≡ Some field → CarriesField (typed_query (query_of name refine branches join)) field level kept tuples
  parts_carry name None branches join h limits clean none is_field = absurd (none_some is_field)
  parts_carry name (Some r) [] None h limits clean none is_field = absurd (omega (arith, h))
  parts_carry name (Some r) (a ∷ []) None h limits clean none is_field = one_carries name r a limits.0 clean.0 is_field
  parts_carry name (Some r) (a ∷ b ∷ branches) None h limits clean none is_field = absurd (omega (arith, h))
  parts_carry name (Some r) [] (Some j) h limits clean none is_field = absurd (omega (arith, h.0))
  parts_carry name (Some r) (a ∷ []) (Some j) h limits clean none is_field = absurd (omega (arith, h.0))
  parts_carry name (Some r) (a ∷ b ∷ []) (Some j) h limits clean none is_field = two_carry name r a b j h limits.0 limits.1.0 clean.0 clean.1.0 none is_field
  parts_carry name (Some r) (a ∷ b ∷ d ∷ branches) (Some j) h limits clean none is_field = absurd (omega (arith, h.0))

  query_carries : (q : Query) → QueryLimits q → first_fault (query_places q) ≡ None → (typed_query q).field ≡ Some field → CarriesField (typed_query q) field level kept tuples
  unfolding IsClean
  query_carries q limits none is_field =
      let branches : List Place = flat_map (λ (b : Branch). branch_places q.refine b.ops) q.branches in
      let clean = none_in_each (λ (b : Branch). branch_places q.refine b.ops) q.branches (parts_of q none).1 in
      let join = (none_in_both (refine_places q.refine ++ branches) (join_places q.refine q.branches q.join) none).1 in
      parts_carry q.name q.refine q.branches q.join limits.joined limits.branches clean join is_field

pub queries_carry : (window q level : ℕ) (queries : List TypedQuery) (field : Field) (kept : Option Kept) (tuples : List (List ℕ)) → IsTyped window queries → q < length queries → (query_at queries q).field ≡ Some field →
    CarriesField (query_at queries q) field level kept tuples
queries_carry window q level queries field kept tuples t lt is_field =
    let s = source_of window queries q t lt in
    subst (λ (y : TypedQuery). y.field ≡ Some field → CarriesField y field level kept tuples) (sym s.is) (query_carries field level kept tuples s.query s.limits s.no_fault) is_field
