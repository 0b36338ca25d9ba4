-- serves proofs
-- The read-out of a pipe, one item after another.
use Rattle.std.specs.Prelude.{ℕ, suc, ◌+◌, List, [], ◌∷◌, drop, length, Bool, false, ◌||◌, nat_eq, Option, Some, None, if◌then◌else◌}
use Rattle.sn_base.specs.Groups.{Row}
use Rattle.sn_chain.specs.Homes.{held_in_order}
use Rattle.sn_pipe.specs.AnyStage.{Stage}
use Rattle.sn_pipe.specs.declared.stage.Stage.TheVariants.{Filter, Map, Distinct, Reduce}
use Rattle.sn_pipe.specs.Pipes.{PipeState}
use Rattle.sn_pipe.specs.Windows.{goes_up, held_row}

-- how many cells a read-out walks: up to and with the first whose row goes up, and all where none does
abbrev pub walked : (Row → Bool) → List (Option (Row × ℕ)) → ℕ
walked up [] = 0
walked up (None ∷ cells) = suc (walked up cells)
walked up (Some e ∷ cells) = if up (held_row e) then 1 else suc (walked up cells)

-- the place of the first reduce of these stages with which the read-out goes on, after the next row that goes up
abbrev pub place_after : ℕ → Bool → ℕ → List Stage → ℕ
place_after level spilled place [] = place
place_after level spilled place (Filter conds ∷ ss) = place_after level spilled place ss
place_after level spilled place (Map exprs ∷ ss) = place_after level spilled place ss
place_after level spilled place (Distinct chain over ∷ ss) = place_after level (spilled || over) place ss
place_after level spilled place (Reduce r chain ∷ ss) = place + walked (goes_up level spilled ss) (drop place chain.cells)

-- a pipe after its next item is read out
abbrev pub after_read_out : PipeState → PipeState
after_read_out p = record p { prefix = record p.prefix { place = place_after p.prefix.level false p.prefix.place p.prefix.stages } }

-- how many rows the first reduce of these stages holds from a place on
abbrev pub held_from : ℕ → List Stage → ℕ
held_from place [] = 0
held_from place (Filter conds ∷ ss) = held_from place ss
held_from place (Map exprs ∷ ss) = held_from place ss
held_from place (Distinct chain over ∷ ss) = held_from place ss
held_from place (Reduce r chain ∷ ss) = length (held_in_order (drop place chain.cells))

-- how many rows a pipe holds that the read-out hasn't walked
abbrev pub unwalked : PipeState → ℕ
unwalked p = held_from p.prefix.place p.prefix.stages

-- nothing was read out in this window
abbrev pub is_unread : PipeState → Bool
is_unread p = nat_eq p.prefix.place 0
