use Rattle.sn_tree.proofs.AlikePlans.{cost_alike, plan_alike}
use Rattle.sn_tree.proofs.alike.plans_are_the_same.Goals as goal

pub returns-clause-plan : goal.returns-clause-plan
returns-clause-plan c = λ a b alike r plan. plan_alike a b alike r plan

pub returns-clause-cost : goal.returns-clause-cost
returns-clause-cost c = λ a b alike r plan. cost_alike a b alike r plan
