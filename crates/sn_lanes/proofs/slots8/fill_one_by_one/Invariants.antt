use Rattle.std.proofs.Common.{◌≡◌, map, take}
use Rattle.sn_base.specs.Slot.{slot}
use Rattle.sn_lanes.proofs.slots8.fill_one_by_one.Given as goal

abbrev pub invariant-loop-lane : goal.invariant-loop-lane
invariant-loop-lane g l = take l.lane l.out ≡ map (λ key. slot l.index (g.R.Columns.columns key) l.slots) (take l.lane l.keys)
