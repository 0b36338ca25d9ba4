use Rattle.std.proofs.Common.{◌≡◌, ◌≤◌, ◌-◌, length, take}
use Rattle.sn_cost_seats.proofs.Blocks.{slots_in}
use Rattle.sn_cost_seats.proofs.slots.slots_of.Given as goal

abbrev pub invariant-loop-at : goal.invariant-loop-at
invariant-loop-at g l = record {
  within : l.at ≤ length l.keys;
  done : l.out.items ≡ slots_in g.R.Columns.columns l.depth l.slots (take l.at l.keys);
}

abbrev pub decreases-loop-at : goal.decreases-loop-at
decreases-loop-at g l = length l.keys - l.at
