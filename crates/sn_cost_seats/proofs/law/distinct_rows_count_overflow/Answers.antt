use Rattle.sn_cost_seats.proofs.Tallying.{overflow_counted}
use Rattle.sn_cost_seats.proofs.law.distinct_rows_count_overflow.Goals as goal

pub returns : goal.returns
returns c = overflow_counted
