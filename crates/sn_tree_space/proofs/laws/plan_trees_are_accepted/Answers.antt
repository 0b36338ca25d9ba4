use Rattle.sn_tree_space.proofs.PlanAccepted.{plan_tree_accepted}
use Rattle.sn_tree_space.proofs.laws.plan_trees_are_accepted.Goals as goal

pub returns : goal.returns
returns c = λ s p laws first. plan_tree_accepted s p laws first
