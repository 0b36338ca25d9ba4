use Rattle.std.proofs.Common.{◌≡◌, map, take}
use Rattle.sn_lanes.specs.Lanes.{flag}
use Rattle.sn_lanes.proofs.compare.compare_rest.Given as goal

abbrev pub invariant-loop-place : goal.invariant-loop-place
invariant-loop-place l = take l.place l.out ≡ map (flag l.cmp l.and l.constant) (take l.place l.column)
