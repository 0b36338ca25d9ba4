-- serves proofs
-- The place of a read-out, as the state of a net has it.
use Rattle.std.specs.Prelude.{ℕ, suc, List, [], ◌∷◌, drop, filter, length, map, Bool, false, ◌||◌, nat_le, Option, if◌then◌else◌}
use Rattle.sn_base.specs.Groups.{Row}
use Rattle.sn_chain.specs.Homes.{held_in_order}
use Rattle.sn_pipe.specs.AnyStage.{Stage}
use Rattle.sn_pipe.specs.declared.stage.Stage.TheVariants.{Filter, Map, Distinct, Reduce}
use Rattle.sn_pipe.specs.Pipes.{PipeState}
use Rattle.sn_pipe.specs.Windows.{goes_up, held_row}

-- the rows of cells that go up
abbrev pub ups : (Row → Bool) → List (Option (Row × ℕ)) → List Row
ups up cells = filter up (map held_row (held_in_order cells))

-- the least place from which no more than this many rows go up
abbrev pub least_place : (Row → Bool) → ℕ → List (Option (Row × ℕ)) → ℕ
least_place up left [] = 0
least_place up left (cell ∷ cells) = if nat_le (length (ups up (cell ∷ cells))) left then 0 else suc (least_place up left cells)

-- the least place of the first reduce of these stages from which as many rows go up as from this one
abbrev pub settled_place : ℕ → Bool → ℕ → List Stage → ℕ
settled_place level spilled place [] = 0
settled_place level spilled place (Filter conds ∷ ss) = settled_place level spilled place ss
settled_place level spilled place (Map exprs ∷ ss) = settled_place level spilled place ss
settled_place level spilled place (Distinct chain over ∷ ss) = settled_place level (spilled || over) place ss
settled_place level spilled place (Reduce r chain ∷ ss) =
    let up = goes_up level spilled ss in
    least_place up (length (ups up (drop place chain.cells))) chain.cells

-- A pipe whose read-out stands at the least place from which the same is read out: after the last row that went up, and at
-- the first cell where none did.
abbrev pub settled : PipeState → PipeState
settled p = record p { prefix = record p.prefix { place = settled_place p.prefix.level false p.prefix.place p.prefix.stages } }
