use Rattle.std.proofs.Common.{◌≡◌, take}
use Rattle.sn_engine_lockstep.specs.Early.{early_total}
use Rattle.sn_engine_lockstep.proofs.early.early_total.Given as goal

abbrev pub invariant-loop-lane : goal.invariant-loop-lane
invariant-loop-lane l = l.early ≡ early_total (take l.lane-index l.lanes)
