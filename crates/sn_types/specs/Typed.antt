-- to be believed
-- What a typed file says of its queries.
use Rattle.std.specs.Prelude.{◌≡◌, ℕ, ◌<◌, ◌-◌, ◌^◌, List, [], map, length, Bool, false, not, ◌&&◌, ◌==◌, Option, None, Some, slice_get, slice_index, unwrap_or}
use Rattle.std.specs.Prelude.{if◌then◌else◌}
use Rattle.sn_base.specs.declared.column.Column.{Column}
use Rattle.sn_base.specs.Groups.{Row}
use Rattle.sn_base.specs.Mask.{masked}
use Rattle.sn_fields.specs.declared.field.Field.{Field}
use Rattle.sn_fields.specs.Fields.{number_of, width_of}
use Rattle.sn_query_grammar.specs.declared.ast.QueryFile.{QueryFile}
use Rattle.sn_query_grammar.specs.Limits.{KeepsLimits}
use Rattle.sn_types_faults.specs.Walk.{walk, first_fault}
use Rattle.sn_types.specs.declared.typed_op.TOp.{TOp}
use Rattle.sn_types.specs.declared.typed_op.TOp.TheVariants.{Distinct}
use Rattle.sn_types.specs.declared.typed_query.TypedBranch.{TypedBranch}
use Rattle.sn_types.specs.declared.typed_query.TypedQuery.{TypedQuery}
use Rattle.sn_types.specs.Typing.{typed_query}

-- a window and queries are the typing of a file that keeps the limits and has no fault
pub record IsTypingOf (file : QueryFile) (window : ℕ) (queries : List TypedQuery) : Type 0 where
  pub limits : KeepsLimits file
  pub no_fault : first_fault (walk file) ≡ None
  pub same_window : window ≡ file.window_us
  pub same_queries : queries ≡ map typed_query file.queries

-- they are the typing of some file
abbrev pub IsTyped : ℕ → List TypedQuery → Type 0
IsTyped window queries = (file : QueryFile) × IsTypingOf file window queries

-- ---- queries, branches, operators and schemas by their numbers; past the end stands one of nothing

abbrev pub blank_branch : TypedBranch
blank_branch = record { fields = []; ops = []; schemas = []; max_cut = 0 }

abbrev pub blank_query : TypedQuery
blank_query = record { name = []; field = None; column = None; levels = []; branches = []; keys = []; posts = []; schemas = [] }

abbrev pub query_at : List TypedQuery → ℕ → TypedQuery
query_at queries q = unwrap_or (slice_get queries q) blank_query

abbrev pub branch_of : TypedQuery → ℕ → TypedBranch
branch_of query b = unwrap_or (slice_get query.branches b) blank_branch

abbrev pub branch_at : List TypedQuery → ℕ → ℕ → TypedBranch
branch_at queries q b = branch_of (query_at queries q) b

abbrev pub operator_at : List TOp → ℕ → TOp
operator_at ops i = unwrap_or (slice_get ops i) Distinct

abbrev pub schema_at : List (List Column) → ℕ → List Column
schema_at schemas i = unwrap_or (slice_get schemas i) []

-- the finest level of a query is its last one
abbrev pub finest_level : TypedQuery → ℕ
finest_level query = slice_index query.levels (length query.levels - 1)

-- the columns of a branch's packet rows, and those of its rows after its operators
abbrev pub first_columns : TypedBranch → List Column
first_columns branch = schema_at branch.schemas 0

abbrev pub end_columns : TypedBranch → List Column
end_columns branch = schema_at branch.schemas (length branch.ops)

-- the columns of a query's answers
abbrev pub final_columns : TypedQuery → List Column
final_columns query = schema_at query.schemas (length query.posts)

-- ---- packet rows

-- each number of a tuple has the width of its field
abbrev pub HasWidths : List ℕ → Type 0
HasWidths tuple = (f : Field) → slice_index tuple (number_of f) < 2 ^ width_of f

abbrev pub is_field : Option Field → Field → Bool
is_field None f = false
is_field (Some g) f = number_of g == number_of f

-- the number of a field in a tuple at a level: of the refinement field the level's highest bits are kept; level 0 masks nothing
abbrev pub read_at : Option Field → ℕ → List ℕ → Field → ℕ
read_at refined level tuple f =
    if not (level == 0) && is_field refined f then masked (width_of f) level (slice_index tuple (number_of f)) else slice_index tuple (number_of f)

-- the packet row of a tuple at a level: the numbers of these fields
abbrev pub packet_row : Option Field → ℕ → List Field → List ℕ → Row
packet_row refined level fields tuple = map (read_at refined level tuple) fields
