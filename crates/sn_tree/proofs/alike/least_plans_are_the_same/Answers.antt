use Rattle.sn_tree.proofs.AlikePlans.{first_least_alike}
use Rattle.sn_tree.proofs.AlikeTrees.{budget_alike}
use Rattle.sn_tree.proofs.alike.least_plans_are_the_same.Goals as goal

pub returns-clause-plan : goal.returns-clause-plan
returns-clause-plan c = λ a b alike p best. first_least_alike a b alike p best

pub returns-clause-budget : goal.returns-clause-budget
returns-clause-budget c = λ a b alike nodes bound budget. budget_alike a b alike nodes bound budget
