-- to be believed
-- Rows as comma-separated values: a record for each row, all of as many fields.
use Rattle.std.specs.Prelude.{ℕ, ◌-◌, List, [], ◌∷◌, ◌++◌, length, replicate, codes}
use Rattle.std.specs.List.{flat_map}
use Rattle.std.specs.Fmt.{decimal}
use Rattle.csv.specs.Writing.{default_writer, row_text}
use Rattle.sn_base.specs.declared.column.Column.{Column}
use Rattle.sn_base.specs.Groups.{Row}
use Rattle.sn_types.specs.declared.answers.Answers.{Answers}
use Rattle.sn_types.specs.declared.answers.Part.{Part}
use Rattle.sn_types.specs.declared.typed_query.TypedQuery.{TypedQuery}
use Rattle.sn_types.specs.Typed.{query_at, final_columns}
use Rattle.sn_out.specs.Text.{number_text}

-- the numbers of a row, each by its column
abbrev pub number_fields : List Column → Row → List (List ℕ)
number_fields (column ∷ columns) (number ∷ numbers) = number_text column number ∷ number_fields columns numbers
number_fields _ _ = []

-- eight fields: these, and empty ones after them
abbrev pub eight_fields : List (List ℕ) → List (List ℕ)
eight_fields fields = fields ++ replicate (8 - length fields) []

-- the fields of a row: the window's number, the query's name, the level, and eight columns
abbrev pub record_fields : ℕ → TypedQuery → ℕ → Row → List (List ℕ)
record_fields window query level row = decimal window ∷ query.name ∷ decimal level ∷ [] ++ eight_fields (number_fields (final_columns query) row)

-- the record of a row: its fields with commas between them, and LF after them
abbrev pub record_text : ℕ → TypedQuery → ℕ → Row → List ℕ
record_text window query level row = row_text default_writer (record_fields window query level row)

-- the records of a query's rows at a level
abbrev pub part_records : ℕ → List TypedQuery → Part → List ℕ
part_records window queries part = flat_map (record_text window (query_at queries part.query) part.level) part.rows

-- the records of a window: those of its parts in their order
abbrev pub window_records : List TypedQuery → Answers → List ℕ
window_records queries answers = flat_map (part_records answers.window queries) answers.parts

-- the line above all records, which names the fields
unfoldable pub heading_line : List ℕ
heading_line = codes "window,query,level,c1,c2,c3,c4,c5,c6,c7,c8" ++ 10 ∷ []
