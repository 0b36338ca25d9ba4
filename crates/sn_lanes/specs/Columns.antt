-- to be believed
-- Tuples by column.
use Rattle.std.specs.Prelude.{ℕ, List, [], map, slice_index, slice_index_or}
use Rattle.sn_fields.specs.declared.field.Field.{Field}
use Rattle.sn_fields.specs.Fields.{number_of}

-- a field's number of each tuple
abbrev pub column_of : List (List ℕ) → Field → List ℕ
column_of tuples field = map (λ tuple. slice_index tuple (number_of field)) tuples

-- those of several fields, column by column
abbrev pub columns_of : List (List ℕ) → List Field → List (List ℕ)
columns_of tuples fields = map (column_of tuples) fields

-- the column at a place
abbrev pub column_at : List (List ℕ) → ℕ → List ℕ
column_at columns i = slice_index_or columns i []
