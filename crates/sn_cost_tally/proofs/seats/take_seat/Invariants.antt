use Rattle.sn_cost_tally.proofs.Seating.{Looking}
use Rattle.sn_cost_tally.proofs.seats.take_seat.Given as goal

abbrev pub invariant-loop-register : goal.invariant-loop-register
invariant-loop-register g l = Looking l.depth l.slots l.fn.marks (g.R.Columns.columns l.key) l.register l.marks l.looking
