use Rattle.std.proofs.Common.{◌≡◌, ◌≤◌, ◌-◌, length, map, take, bit_and}
use Rattle.sn_lanes.proofs.masks.mask_all.Given as goal

abbrev pub invariant-loop-at : goal.invariant-loop-at
invariant-loop-at l = record {
  within : l.at ≤ length l.column;
  done : take l.at l.out ≡ map (λ x. bit_and x l.bits) (take l.at l.column);
}

abbrev pub decreases-loop-at : goal.decreases-loop-at
decreases-loop-at l = length l.column - l.at
