use Rattle.std.proofs.Common.{◌≡◌, take}
use Rattle.sn_cost_seats.proofs.Blocks.{slots_in}
use Rattle.sn_cost_seats.proofs.slots.add_rest.Given as goal

abbrev pub invariant-loop-place : goal.invariant-loop-place
invariant-loop-place g l = l.out.items ≡ slots_in g.R.Columns.columns l.depth l.slots (take l.place l.keys)
