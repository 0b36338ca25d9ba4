use Rattle.std.proofs.Common.{◌≡◌, ◌++◌, map, take}
use Rattle.sn_cost_seats.specs.Seats.{slots_for}
use Rattle.sn_cost_seats.proofs.slots.add_block.Given as goal

abbrev pub invariant-loop-lane : goal.invariant-loop-lane
invariant-loop-lane g l = l.out.items ≡ l.fn.out.items ++ map (slots_for l.depth l.slots) (take l.lane (map g.R.Columns.columns l.block))
