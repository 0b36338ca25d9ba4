use Rattle.sn_plan_lists.proofs.Wholes.{least_is_cheapest}
use Rattle.sn_plan_lists.proofs.law.least_lists_name_cheapest_plans.Goals as goal

pub returns : goal.returns
returns c = λ s entry queries r entries rising least fits. least_is_cheapest s entry c.gaps_decide_placing.ensures queries r entries rising least fits
