-- to be believed
-- The columns of rows before and after each operator.
use Rattle.std.specs.Prelude.{ℕ, ◌-◌, List, [], ◌∷◌, ◌++◌, map, filter, length, Bool, false, not, max, nat_le, Option, Some, None, unwrap_or, if◌then◌else◌}
use Rattle.std.specs.List.{list_any, find, position}
use Rattle.sn_base.specs.declared.column.Column.{Column}
use Rattle.sn_fields.specs.declared.field.Field.{Field}
use Rattle.sn_fields.specs.Fields.{name_of, width_of, is_address}
use Rattle.sn_query_grammar.specs.declared.ast.Expr.{Expr}
use Rattle.sn_query_grammar.specs.declared.ast.Expr.TheVariants as expr
use Rattle.sn_query_grammar.specs.declared.ast.MapCol.{MapCol}
use Rattle.sn_query_grammar.specs.declared.ast.Reduce.{Reduce}
use Rattle.sn_query_grammar.specs.declared.ast.What.{What}
use Rattle.sn_query_grammar.specs.declared.ast.What.TheVariants as what
use Rattle.sn_query_grammar.specs.declared.ast.Op.{Op}
use Rattle.sn_types_faults.specs.Names.{Name, same_name, is_in, packet_fields}
use Rattle.sn_types_faults.specs.Widths.{constant_width, folded_width}

abbrev pub has_column : List Column → Name → Bool
has_column columns name = list_any (λ c. same_name c.name name) columns

-- the place of the column that has a name
abbrev pub place_of : List Column → Name → ℕ
place_of columns name = unwrap_or (position (λ c. same_name c.name name) columns) 0

-- the column that has a name; where none has it, one of one bit
abbrev pub column_named : List Column → Name → Column
column_named columns name = unwrap_or (find (λ c. same_name c.name name) columns) (record { name = name; width = 1; address = false })

-- A constant has the least width that holds it. A copy and a mask have their column's width and address mark. A shift
-- has its column's width less its places, and at least 1. A sum of columns and a ratio have 64 bits.
abbrev pub expr_width : List Column → Expr → ℕ
expr_width columns (expr.Const n) = constant_width n
expr_width columns (expr.Copy a) = (column_named columns a).width
expr_width columns (expr.Mask a bits) = (column_named columns a).width
expr_width columns (expr.Shift a k) = max 1 ((column_named columns a).width - k)
expr_width columns (expr.Sum a b) = 64
expr_width columns (expr.Ratio a k b) = 64

abbrev pub expr_address : List Column → Expr → Bool
expr_address columns (expr.Const n) = false
expr_address columns (expr.Copy a) = (column_named columns a).address
expr_address columns (expr.Mask a bits) = (column_named columns a).address
expr_address columns (expr.Shift a k) = false
expr_address columns (expr.Sum a b) = false
expr_address columns (expr.Ratio a k b) = false

-- a column that a map makes
abbrev pub mapped_column : List Column → MapCol → Column
mapped_column columns col = record { name = col.name; width = expr_width columns col.expr; address = expr_address columns col.expr }

-- the value column of a reduce
abbrev pub folded_column : List Column → Reduce → Column
folded_column columns r = record { name = r.value; width = folded_width r.fold r.width (column_named columns r.value).width; address = false }

-- a schema has at most eight columns; the limits of a query text and the faults of types see to it that none is cut off
abbrev pub as_schema : List Column → List Column
as_schema columns = if nat_le (length columns) 8 then columns else []

-- the columns after an operator
abbrev pub columns_after : List Column → What → List Column
columns_after columns (what.Filter conds) = columns
columns_after columns (what.Map cols) = as_schema (map (mapped_column columns) cols)
columns_after columns what.Distinct = columns
columns_after columns (what.Reduce r) = as_schema (map (column_named columns) r.keys ++ folded_column columns r ∷ [])

-- a field as a column of a packet row
abbrev pub field_column : Field → Column
field_column f = record { name = name_of f; width = width_of f; address = is_address f }

-- the columns of a branch's packet row: its fields, in the order of their numbers
abbrev pub packet_columns : List Op → List Column
packet_columns ops = as_schema (map field_column (packet_fields ops))

-- the columns of joined rows: the keys in the order of the join line, the other columns of the left, the other columns of the right
abbrev pub others : List Name → List Column → List Column
others keys columns = filter (λ c. not (is_in c.name keys)) columns

abbrev pub joined_columns : List Name → List Column → List Column → List Column
joined_columns keys left right = map (column_named left) keys ++ others keys left ++ others keys right

-- a map's column is a copy of the column or field of this name
abbrev pub is_copy : Name → Expr → Bool
is_copy name (expr.Const n) = false
is_copy name (expr.Copy a) = same_name a name
is_copy name (expr.Mask a bits) = false
is_copy name (expr.Shift a k) = false
is_copy name (expr.Sum a b) = false
is_copy name (expr.Ratio a k b) = false

-- the name that a map's first copy gives
abbrev pub copy_name : Name → List MapCol → Option Name
copy_name name [] = None
copy_name name (c ∷ cols) = if is_copy name c.expr then Some c.name else copy_name name cols

-- the name of the carried column after an operator: a map gives it the name of its copy, and each other operator leaves it alone
abbrev pub carried_after : Name → What → Option Name
carried_after name (what.Filter conds) = Some name
carried_after name (what.Map cols) = copy_name name cols
carried_after name what.Distinct = Some name
carried_after name (what.Reduce r) = Some name
