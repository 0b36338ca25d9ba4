-- to be believed
-- The table of the fields, as the code has it: their numbers, their names in query texts, their widths in bits, and
-- which are addresses.
use Rattle.std.specs.Prelude.{ℕ, Bool, true, false, List, [], map, Option, find, nat_eq, slice_index_or}
use Rattle.std.specs.Cmp.Lexicographic.{pointwise}
use denote.Enum.Declared.{tag_of}
use Rattle.sn_fields.specs.contracts.field.Field.{the_type}
use Rattle.sn_fields.specs.declared.field.Field.{Field}
use Rattle.sn_fields.specs.declared.field.Meaning.{Meaning}
use Rattle.sn_fields.specs.declared.field.Meaning.TheVariants.{Number, Address}
use Rattle.sn_fields.specs.declared.field.TheConstants.{FIELDS}

-- a row: a field's name in query texts, its width in bits, and what its numbers are
pub record Row : Type 0 where
  pub name : List ℕ
  pub width : ℕ
  pub meaning : Meaning

abbrev pub rows : List Row
rows = map (λ row. record { name = row.1.now; width = row.2; meaning = row.3 }) FIELDS

-- all fields, in the order of their numbers
abbrev pub fields : List Field
fields = map (λ row. row.0) FIELDS

-- the number of a field: its place in the table
abbrev pub number_of : Field → ℕ
number_of field = tag_of the_type field

-- its row
unfoldable pub row_of : Field → Row
row_of field = slice_index_or rows (number_of field) (record { name = []; width = 0; meaning = Number })

-- its name
abbrev pub name_of : Field → List ℕ
name_of field = (row_of field).name

-- the field that has a name, if one has
abbrev pub with_name : List ℕ → Option Field
with_name name = find (λ f. pointwise nat_eq (name_of f) name) fields

-- its width in bits: each number of it is below 2 to this
abbrev pub width_of : Field → ℕ
width_of field = (row_of field).width

abbrev pub is_prefixed : Meaning → Bool
is_prefixed Number = false
is_prefixed Address = true

-- whether its numbers are addresses of the network layer, which have prefixes
abbrev pub is_address : Field → Bool
is_address field = is_prefixed (row_of field).meaning
