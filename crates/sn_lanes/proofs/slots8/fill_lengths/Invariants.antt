use Rattle.std.proofs.Common.{◌≡◌, length, map, take}
use Rattle.sn_lanes.proofs.slots8.fill_lengths.Given as goal

abbrev pub invariant-loop-lane : goal.invariant-loop-lane
invariant-loop-lane g l = take l.lane l.lengths ≡ map (λ key. length (g.R.Columns.columns key)) (take l.lane l.keys)
