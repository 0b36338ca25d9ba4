use Rattle.sn_plan_choices.proofs.Easy.{plans_laws}
use Rattle.sn_plan_choices.proofs.law.plans_are_a_space.Goals as goal

pub returns : goal.returns
returns c = λ s entry queries. plans_laws s entry queries
