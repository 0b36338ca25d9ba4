use Rattle.std.proofs.Common.{◌≡◌, ◌++◌, map, take, drop}
use Rattle.sn_engine.specs.Intakes.{shared}
use Rattle.sn_engine.proofs.engine.share_all.Given as goal

abbrev pub invariant-loop-x : goal.invariant-loop-x
invariant-loop-x l = l.lanes ≡ map shared (take l.x-index l.initial.lanes) ++ drop l.x-index l.initial.lanes
