use Rattle.sn_cost_seats.proofs.Going.{reached}
use Rattle.sn_cost_seats.proofs.law.rows_are_counted_by_reach.Goals as goal

pub returns : goal.returns
returns c = reached
