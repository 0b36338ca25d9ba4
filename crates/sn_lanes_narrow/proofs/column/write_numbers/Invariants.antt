use Rattle.std.proofs.Common.{◌≡◌, map, take}
use Rattle.sn_lanes.specs.Columns.{column_of}
use Rattle.sn_lanes_narrow.proofs.column.write_numbers.Given as goal

abbrev pub invariant-loop-place : goal.invariant-loop-place
invariant-loop-place g l = map (λ x. g.L.Lane.value x) (take l.place l.out) ≡ column_of (take l.place l.tuples) l.field
