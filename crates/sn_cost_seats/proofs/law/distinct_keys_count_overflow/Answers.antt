use Rattle.sn_cost_seats.proofs.Holding.{over_counted}
use Rattle.sn_cost_seats.proofs.law.distinct_keys_count_overflow.Goals as goal

pub returns : goal.returns
returns c = over_counted
