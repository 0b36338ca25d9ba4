-- to be believed
-- The refined answers of a query: those at the levels of a path, over windows.
use Rattle.std.specs.Prelude.{ℕ, zero, suc, List, [], map, filter, length, Bool, false, nat_eq, slice_index, unwrap_or, Option, None, Some}
use Rattle.std.specs.List.{list_any, range_with_len}
use Rattle.std.specs.Option.{option_map}
use Rattle.sn_base.specs.Groups.{Row}
use Rattle.sn_base.specs.Mask.{masked}
use Rattle.sn_base.specs.Sorted.{sorted_rows}
use Rattle.sn_fields.specs.declared.field.Field.{Field}
use Rattle.sn_fields.specs.Fields.{number_of, width_of}
use Rattle.sn_ops.specs.Plain.{query_rows}
use Rattle.sn_types.specs.declared.answers.Part.{Part}
use Rattle.sn_types.specs.declared.typed_query.TypedQuery.{TypedQuery}

-- the refinement column of answers
abbrev pub column_of : TypedQuery → List Row → List ℕ
column_of query rows = map (λ row. slice_index row (unwrap_or query.column 0)) rows

-- the refinement field of a tuple, masked to these bits, is one of these prefixes
abbrev pub is_in : Option Field → ℕ → List ℕ → List ℕ → Bool
is_in None bits prefixes tuple = false
is_in (Some field) bits prefixes tuple = list_any (nat_eq (masked (width_of field) bits (slice_index tuple (number_of field)))) prefixes

-- the tuples whose prefix of these bits stands in the refinement column of these answers
abbrev pub answered : TypedQuery → ℕ → List Row → List (List ℕ) → List (List ℕ)
answered query bits rows tuples = filter (is_in query.field bits (column_of query rows)) tuples

-- what windows hold: the tuples of each by its number, and nothing of a window without a record
abbrev pub Windows : Type 0
Windows = ℕ → Option (List (List ℕ))

-- the answers at a level to the tuples of a window, sorted; a window without a record has none
abbrev pub level_rows : TypedQuery → ℕ → Option (List (List ℕ)) → List Row
level_rows query level None = []
level_rows query level (Some tuples) = sorted_rows (query_rows query level None tuples)

-- the answers in the window before this one; none were given before window 0
abbrev pub before : (ℕ → List Row) → ℕ → List Row
before answers zero = []
before answers (suc w) = answers w

-- The refined answers in a window at a place of the path. The first level sees all tuples of the window; each other one
-- sees those whose prefix the level before it answered in the window before.
abbrev pub refined_rows : TypedQuery → Windows → List ℕ → ℕ → ℕ → List Row
refined_rows query windows path zero w = level_rows query (slice_index path 0) (windows w)
refined_rows query windows path (suc j) w =
    level_rows query (slice_index path (suc j)) (option_map (answered query (slice_index path j) (before (refined_rows query windows path j) w)) (windows w))

-- the refined answers in a window, level by level
abbrev pub part_at : ℕ → List ℕ → (ℕ → List Row) → ℕ → Part
part_at q path rows j = record { query = q; level = slice_index path j; rows = rows j }

abbrev pub parts_along : ℕ → List ℕ → (ℕ → List Row) → List Part
parts_along q path rows = map (part_at q path rows) (range_with_len 0 (length path))

abbrev pub refined_parts : ℕ → TypedQuery → Windows → List ℕ → ℕ → List Part
refined_parts q query windows path w = parts_along q path (λ j. refined_rows query windows path j w)

-- the tuples of a window that the level at a place of a path sees: all where it is the first, or else those whose prefix the
-- level before it answered in the window before
abbrev pub seen_at : TypedQuery → Windows → List ℕ → ℕ → ℕ → Option (List (List ℕ))
seen_at query windows path zero w = windows w
seen_at query windows path (suc j) w = option_map (answered query (slice_index path j) (before (refined_rows query windows path j) w)) (windows w)
