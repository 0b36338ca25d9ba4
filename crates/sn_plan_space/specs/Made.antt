-- serves proofs
-- The tables of an operator, as they are made one after another.
use Rattle.std.specs.Prelude.{ℕ, List, [], ◌∷◌, drop, replicate, Bool, true, false, if◌then◌else◌}
use Rattle.sn_base.specs.declared.column.Column.{Column}
use Rattle.sn_types.specs.declared.typed_op.TOp.{TOp}
use Rattle.sn_types.specs.declared.typed_query.TypedBranch.{TypedBranch}
use Rattle.sn_types.specs.Cuts.{is_stateful}
use Rattle.sn_plan_fit.specs.Registers.{register_bits}
use Rattle.sn_plan_choices.specs.Options.{Slot, plain, keyed}
use Rattle.sn_plan_choices.specs.Planning.{PieceTask}
use Rattle.sn_plan_space.specs.declared.known.PieceAt.{PieceAt}

-- a chain of d registers of this size for a stateful operator, and else one table without state
abbrev pub op_table : ℕ → List Column → TOp → ℕ → List Slot
op_table d columns op size = if is_stateful op then replicate d (keyed (register_bits size columns op)) else plain ∷ []

-- the sizes after the one that a stateful operator takes
abbrev pub sizes_after : TOp → List ℕ → List ℕ
sizes_after op sizes = if is_stateful op then drop 1 sizes else sizes

-- the membership table of a piece that isn't the first of its path
abbrev pub membership : Bool → List Slot
membership is_first = if is_first then [] else plain ∷ []

-- the option of a piece
abbrev pub task_of : PieceAt → TypedBranch → PieceTask
task_of at b = record { query = at.query; levels = at.levels; is_first = at.is_first; number = at.number; branch = b }

abbrev pub is_none : List ℕ → Bool
is_none [] = true
is_none (l ∷ ls) = false
