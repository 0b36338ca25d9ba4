use Rattle.sn_cost_seats.proofs.Going.{through_come}
use Rattle.sn_cost_seats.proofs.law.rows_come_one_by_one.Goals as goal

pub returns : goal.returns
returns c = through_come
