use Rattle.sn_cost_tally.proofs.Seating.{one_looked}
use Rattle.sn_cost_tally.proofs.seats.take_seat.Goals as goal

pub loop-register-preserved : goal.loop-register-preserved
loop-register-preserved g c =
    one_looked c.args.depth c.args.slots c.args.marks.now (g.R.Columns.columns c.args.key.now) c.loop-register.register c.place_of.result c.loop-register.marks c.take-looking.new.self c.loop-register.looking c.take-looking.result
    c.loop-register-test.true c.place_of.ensures c.loop-register.invariant c.take-looking.ensures.still c.take-looking.ensures.taken
