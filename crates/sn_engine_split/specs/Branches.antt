-- to be believed
-- The items of the branches of typed queries.
use Rattle.std.specs.Prelude.{ℕ, suc, ◌≤◌, List, map, take, length, Bool, true, false, ◌&&◌, ◌||◌, ◌==◌, nat_lt, slice_get, Option, if◌then◌else◌}
use Rattle.std.specs.List.{list_any}
use Rattle.std.specs.Option.{option_map_or}
use Rattle.sn_base.specs.Groups.{Row}
use Rattle.sn_base.specs.Operators.{through}
use Rattle.sn_base.specs.Bags.{SameBag}
use Rattle.sn_base.specs.Columns.{IsOf}
use Rattle.sn_base.specs.declared.column.Column.{Column}
use Rattle.sn_pipe_items.specs.Items.{items}
use Rattle.sn_pipe_items.specs.Value.{value}
use Rattle.sn_ops.specs.Joins.{joined}
use Rattle.sn_ops.specs.Packets.{packet_rows}
use Rattle.sn_ops.specs.declared.packets.Kept.{Kept}
use Rattle.sn_report.specs.Items.{Item}
use Rattle.sn_report.specs.declared.frame.Tag.{Tag}
use Rattle.sn_report.specs.declared.frame.Tag.TheVariants.{At, Partial}
use Rattle.sn_types.specs.declared.typed_op.TOp.{TOp}
use Rattle.sn_types.specs.declared.typed_query.TypedBranch.{TypedBranch}
use Rattle.sn_types.specs.declared.typed_query.TypedQuery.{TypedQuery}
use Rattle.sn_types.specs.declared.typed_op.TOp.TheVariants as ops
use Rattle.sn_types.specs.Cuts.{is_stateful, size_at}
use Rattle.sn_types.specs.Typed.{branch_of, branch_at, query_at, schema_at}
use Rattle.sn_types.specs.Values.{op_at}

-- the items of a branch at a level, over the tuples of a window that are kept
abbrev pub branch_items : TypedQuery → ℕ → ℕ → Option Kept → ℕ → ℕ → List ℕ → List (List ℕ) → List Item
branch_items query b level kept cut depth sizes tuples =
    items depth (size_at (branch_of query b).ops sizes) cut (map (op_at level) (branch_of query b).ops) (packet_rows query b level kept tuples)

-- ---- items of a branch

-- the columns of the rows with a tag: those of the rows that come to its operator, and for a Partial row those after its
-- reduce
abbrev pub tag_columns : List (List Column) → Tag → List Column
tag_columns schemas (At i) = schema_at schemas i
tag_columns schemas (Partial i) = schema_at schemas (suc i)

abbrev pub IsItemOf : TypedBranch → Item → Type 0
IsItemOf branch item = IsOf (tag_columns branch.schemas item.tag) item.row

abbrev pub is_distinct : TOp → Bool
is_distinct (ops.Filter conds) = false
is_distinct (ops.Map exprs) = false
is_distinct ops.Distinct = true
is_distinct (ops.Reduce r) = false

abbrev pub is_reduce : TOp → Bool
is_reduce (ops.Filter conds) = false
is_reduce (ops.Map exprs) = false
is_reduce ops.Distinct = false
is_reduce (ops.Reduce r) = true

-- the operator at a place is there and passes a test
abbrev pub is_at_place : (TOp → Bool) → List TOp → ℕ → Bool
is_at_place test os i = option_map_or test (slice_get os i) false

-- the tags of a prefix: At the cut, At a stateful operator before it, and Partial of a reduce before it that has a
-- distinct before it
abbrev pub is_tag_of : List TOp → ℕ → Tag → Bool
is_tag_of os cut (At i) = (i == cut) || (nat_lt i cut && is_at_place is_stateful os i)
is_tag_of os cut (Partial i) = nat_lt i cut && is_at_place is_reduce os i && list_any is_distinct (take i os)

-- ---- the value of items

-- of a branch at a level
abbrev pub branch_value : TypedQuery → ℕ → ℕ → List Item → List Row
branch_value query b level found = value (map (op_at level) (branch_of query b).ops) found

-- of a query at a level: of its branch, or of its two branches, joined and taken through the operators after the join
abbrev pub query_value : TypedQuery → ℕ → List Item → List Item → List Row
query_value query level left right =
    if length query.branches == 2 then through (map (op_at level) query.posts)
    (joined query.keys (branch_value query 0 level left) (branch_value query 1 level right)) else branch_value query 0 level left

-- these are the items of a branch at a level over these tuples, in whatever order: of some cut, chains and sizes
pub record AreSplit (queries : List TypedQuery) (q b level : ℕ) (kept : Option Kept) (tuples : List (List ℕ)) (found : List Item) : Type 0 where
  pub cut : ℕ
  pub depth : ℕ
  pub sizes : List ℕ
  pub within : cut ≤ (branch_at queries q b).max_cut
  pub same : SameBag (branch_items (query_at queries q) b level kept cut depth sizes tuples) found
