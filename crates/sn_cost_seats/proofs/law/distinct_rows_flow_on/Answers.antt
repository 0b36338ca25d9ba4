use Rattle.sn_cost_seats.proofs.Tallying.{flow_kept}
use Rattle.sn_cost_seats.proofs.law.distinct_rows_flow_on.Goals as goal

pub returns : goal.returns
returns c = flow_kept
