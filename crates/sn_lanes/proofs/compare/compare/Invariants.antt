use Rattle.std.proofs.Common.{◌≡◌, ◌≤◌, ◌-◌, length, map, take}
use Rattle.sn_lanes.specs.Lanes.{flag}
use Rattle.sn_lanes.proofs.compare.compare.Given as goal

abbrev pub invariant-loop-at : goal.invariant-loop-at
invariant-loop-at l = record {
  within : l.at ≤ length l.column;
  done : take l.at l.out ≡ map (flag l.cmp l.and l.constant) (take l.at l.column);
}

abbrev pub decreases-loop-at : goal.decreases-loop-at
decreases-loop-at l = length l.column - l.at
