use Rattle.std.proofs.Common.{◌≡◌, ◌≤◌, ◌-◌, length, map, take}
use Rattle.sn_lanes_narrow.specs.Marks.{number_mark}
use Rattle.sn_lanes_narrow.proofs.compare.compare_blocks.Given as goal

abbrev pub invariant-loop-at : goal.invariant-loop-at
invariant-loop-at g l = record {
  within : l.at ≤ length l.column;
  done : take l.at l.out ≡ map (λ x. number_mark l.cmp l.and l.constant (g.L.Lane.value x)) (take l.at l.column);
}

abbrev pub decreases-loop-at : goal.decreases-loop-at
decreases-loop-at g l = length l.column - l.at
