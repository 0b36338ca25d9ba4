use Rattle.sn_emit.proofs.PlanLanes.{lanes_of_new, starts_same}
use Rattle.sn_emit.proofs.law.new_lanes_are_at_the_start.Goals as goal

pub returns-clause-lanes : goal.returns-clause-lanes
returns-clause-lanes c = lanes_of_new

pub returns-clause-start : goal.returns-clause-start
returns-clause-start c = starts_same
