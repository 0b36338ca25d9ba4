use Rattle.std.proofs.Common.{◌≡◌, ◌-◌, ◌^◌, map, min, take, slice_index}
use Rattle.sn_lanes.proofs.slots8.fill_column.Given as goal

abbrev pub invariant-loop-lane : goal.invariant-loop-lane
invariant-loop-lane g l = take l.lane l.column ≡ map (λ key. min (slice_index (g.R.Columns.columns key) l.place) (2 ^ 64 - 1)) (take l.lane l.keys)
