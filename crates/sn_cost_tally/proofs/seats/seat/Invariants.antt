use Rattle.std.proofs.Common.{map}
use Rattle.sn_cost_tally.proofs.Seating.{Seated}
use Rattle.sn_cost_tally.proofs.seats.seat.Given as goal

abbrev pub invariant-loop-place : goal.invariant-loop-place
invariant-loop-place g l = Seated l.depth l.slots (map g.R.Columns.columns l.keys) l.place l.marks l.homes.items
