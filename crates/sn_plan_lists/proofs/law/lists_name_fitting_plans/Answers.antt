use Rattle.sn_plan_lists.proofs.Wholes.{lists_name_plans}
use Rattle.sn_plan_lists.proofs.law.lists_name_fitting_plans.Goals as goal

pub returns : goal.returns
returns c = λ s entry queries r rising plan. lists_name_plans s entry c.gaps_decide_placing.ensures queries r rising plan
