-- serves proofs
-- Where the refinement field of a refined query stands in its answers, as a sentence.
use Rattle.std.specs.Prelude.{◌≡◌, ℕ, ◌<◌, List, filter, length, slice_index, Option, IsSomeAnd}
use Rattle.std.specs.List.{AllByRecursion, Contains}
use Rattle.sn_fields.specs.declared.field.Field.{Field}
use Rattle.sn_ops.specs.Packets.{is_kept}
use Rattle.sn_ops.specs.Plain.{query_rows}
use Rattle.sn_ops.specs.declared.packets.Kept.{Kept}
use Rattle.sn_types.specs.Typed.{final_columns, read_at}
use Rattle.sn_types.specs.declared.typed_query.TypedQuery.{TypedQuery}

-- a number is the field of one of the tuples that are kept, read at this level
abbrev pub IsFieldOf : TypedQuery → Field → ℕ → Option Kept → List (List ℕ) → ℕ → Type 0
IsFieldOf query field level kept tuples number =
    (tuple : List ℕ) × (Contains (filter (is_kept query.field kept) tuples) tuple) × (number ≡ read_at query.field level tuple field)

-- The query has a refinement column, which is one of its final columns, and each of its rows at this level has there the
-- field of a tuple that is kept, read at this level.
abbrev pub CarriesField : TypedQuery → Field → ℕ → Option Kept → List (List ℕ) → Type 0
CarriesField query field level kept tuples =
    IsSomeAnd query.column (λ place. (place < length (final_columns query))
    × AllByRecursion (λ row. IsFieldOf query field level kept tuples (slice_index row place)) (query_rows query level kept tuples))
