use Rattle.sn_plan_lists.proofs.Wholes.{plans_named}
use Rattle.sn_plan_lists.proofs.law.fitting_plans_are_named.Goals as goal

pub returns : goal.returns
returns c = λ s entry queries entries rising fits. plans_named s entry c.gaps_decide_placing.ensures queries entries rising fits
