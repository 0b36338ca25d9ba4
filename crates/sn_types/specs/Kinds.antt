-- to be believed
-- Branches whose rows have columns of more than 64 bits, and the rows of an answer, of either kind.
use Rattle.std.specs.Prelude.{ℕ, ◌<◌, ◌≤◌, ◌^◌, List, Bool, nat_lt}
use Rattle.std.specs.List.{list_any, AllByRecursion}
use Rattle.sn_base.specs.declared.column.Column.{Column}
use Rattle.sn_base.specs.Groups.{Row}
use Rattle.sn_fields.specs.declared.field.Field.{Field}
use Rattle.sn_fields.specs.Fields.{width_of}
use Rattle.sn_types.specs.declared.answers.EitherRows.{EitherRows}
use Rattle.sn_types.specs.declared.answers.EitherRows.TheVariants.{Short, Wide}
use Rattle.sn_types.specs.declared.typed_query.TypedBranch.{TypedBranch}

-- a column has more than 64 bits
abbrev pub is_wide_column : Column → Bool
is_wide_column c = nat_lt 64 c.width

-- one of these columns does
abbrev pub has_wide_column : List Column → Bool
has_wide_column columns = list_any is_wide_column columns

-- A branch is wide where a column of one of its schemas is. The first of these has the columns of the fields that it reads.
abbrev pub is_wide : TypedBranch → Bool
is_wide branch = list_any has_wide_column branch.schemas

-- each number of one of these fields is below a limit
abbrev pub AreBelow : ℕ → List Field → Type 0
AreBelow limit fields = AllByRecursion (λ f. 2 ^ width_of f ≤ limit) fields

-- each number of a row has 64 bits
abbrev pub IsShort : Row → Type 0
IsShort row = AllByRecursion (λ n. n < 2 ^ 64) row

-- the rows of an answer, of either kind
abbrev pub rows_of : EitherRows → List Row
rows_of (Short rows) = rows
rows_of (Wide rows) = rows
