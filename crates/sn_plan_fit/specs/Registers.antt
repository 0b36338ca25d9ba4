-- to be believed
-- The registers of a piece, and the widths of rows.
use Rattle.std.specs.List.{sum_by}
use Rattle.std.specs.Prelude.{ℕ, ◌+◌, ◌*◌, List, [], ◌∷◌, ◌++◌, map, filter, take, drop, length, max, Bool, true, false, ◌||◌, ◌==◌, slice_index, slice_get}
use Rattle.std.specs.Prelude.{Option, Some, None, if◌then◌else◌}
use Rattle.sn_base.specs.declared.column.Column.{Column}
use Rattle.sn_base.specs.declared.any_fold.AnyFold.{AnyFold}
use Rattle.sn_base.specs.declared.any_fold.AnyFold.TheVariants as folds
use Rattle.sn_types.specs.declared.typed_op.TOp.{TOp}
use Rattle.sn_types.specs.declared.typed_op.TOp.TheVariants.{Filter, Map, Distinct, Reduce}
use Rattle.sn_types.specs.Typed.{schema_at}
use Rattle.sn_types.specs.Cuts.{is_stateful}

-- ---- widths in bits

abbrev pub row_width : List Column → ℕ
row_width columns = sum_by (λ c. c.width) columns

-- the width of the column at a place
abbrev pub width_in : Option Column → ℕ
width_in None = 0
width_in (Some c) = c.width

abbrev pub width_at : List Column → ℕ → ℕ
width_at columns place = width_in (slice_get columns place)

-- the width of a fold's values
abbrev pub fold_width : AnyFold → ℕ
fold_width (folds.SatSum f) = f.v
fold_width (folds.Max f) = f.v
fold_width (folds.Min f) = f.v
fold_width (folds.Or f) = f.v

-- of a distinct the width of its row, of a reduce that of its keys
abbrev pub key_bits : List Column → TOp → ℕ
key_bits columns (Filter conds) = 0
key_bits columns (Map exprs) = 0
key_bits columns Distinct = row_width columns
key_bits columns (Reduce r) = sum_by (width_at columns) r.keys

-- of a distinct 0, of a reduce its value's width
abbrev pub value_bits : TOp → ℕ
value_bits (Filter conds) = 0
value_bits (Map exprs) = 0
value_bits Distinct = 0
value_bits (Reduce r) = fold_width r.fold

-- ---- registers

-- a register in a stage, with its bits
pub record Register : Type 0 where
  pub stage : ℕ
  pub bits : ℕ

abbrev pub in_stage : ℕ → ℕ → Register
in_stage bits stage = record { stage = stage; bits = bits }

-- a register of this many slots, each of a key, a value and one bit
abbrev pub register_bits : ℕ → List Column → TOp → ℕ
register_bits size columns op = size * (key_bits columns op + value_bits op + 1)

-- what an operator takes of a number of sizes: all where it is stateful, and else none
abbrev pub taken : TOp → ℕ → ℕ
taken op n = if is_stateful op then n else 0

-- The registers of operators in order, in chains of d: the first of them is operator n of its branch, to which rows of schema n come. Each
-- distinct and reduce takes the next size and the next d stages.
abbrev pub op_registers : ℕ → List (List Column) → ℕ → List TOp → List ℕ → List ℕ → List Register
op_registers d schemas n [] sizes written = []
op_registers d schemas n (op ∷ ops) sizes written =
    map (in_stage (register_bits (slice_index sizes 0) (schema_at schemas n) op)) (take (taken op d) written)
    ++ op_registers d schemas (n + 1) ops (drop (taken op 1) sizes) (drop (taken op d) written)

-- the registers that stand in a stage
abbrev pub standing_in : ℕ → List Register → List Register
standing_in stage registers = filter (λ r. r.stage == stage) registers

abbrev pub count_in : ℕ → List Register → ℕ
count_in stage registers = length (standing_in stage registers)

abbrev pub bits_in : ℕ → List Register → ℕ
bits_in stage registers = sum_by (λ r. r.bits) (standing_in stage registers)

-- ---- metadata

abbrev pub is_map_op : TOp → Bool
is_map_op (Filter conds) = false
is_map_op (Map exprs) = true
is_map_op Distinct = false
is_map_op (Reduce r) = false

abbrev pub width_if : Bool → List Column → ℕ
width_if mapped columns = if mapped then row_width columns else 0

-- The widest row after any of these operators from the first map on, and 0 without a map. The first of them is operator n of its branch,
-- and a map may stand before it.
abbrev pub metadata : List (List Column) → Bool → ℕ → List TOp → ℕ
metadata schemas mapped n [] = 0
metadata schemas mapped n (op ∷ ops) = max (width_if (mapped || is_map_op op) (schema_at schemas (n + 1)))
    (metadata schemas (mapped || is_map_op op) (n + 1) ops)
