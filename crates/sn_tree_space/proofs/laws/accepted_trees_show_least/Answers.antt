use Rattle.sn_tree_space.proofs.Least.{least_by_cover}
use Rattle.sn_tree_space.proofs.laws.accepted_trees_show_least.Goals as goal

pub returns : goal.returns
returns c = λ s p nodes laws plan tree r other. least_by_cover s p laws plan nodes tree.covers r other
