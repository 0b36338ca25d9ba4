use Rattle.sn_tree_space.proofs.Existence.{some_first_least}
use Rattle.sn_tree_space.proofs.laws.some_plan_is_first_least.Goals as goal

pub returns : goal.returns
returns c = λ s laws. some_first_least s laws
