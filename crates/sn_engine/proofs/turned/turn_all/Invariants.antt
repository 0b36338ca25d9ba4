use Rattle.std.proofs.Common.{◌≡◌, ◌++◌, Some, map, take, drop}
use Rattle.sn_engine.specs.Turns.{turn}
use Rattle.sn_engine.proofs.turned.turn_all.Given as goal

abbrev pub invariant-loop-item : goal.invariant-loop-item
invariant-loop-item g l = l.items ≡ map (turn (Some l.held)) (take l.item-index l.initial.items) ++ drop l.item-index l.initial.items
