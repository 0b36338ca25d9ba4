use Rattle.sn_tree.proofs.AlikeCovering.{accepted_alike}
use Rattle.sn_tree.proofs.AlikeFaults.{fault_alike}
use Rattle.sn_tree.proofs.AlikeTrees.{tree_alike}
use Rattle.sn_tree.proofs.alike.trees_are_the_same.Goals as goal

pub returns-clause-tree : goal.returns-clause-tree
returns-clause-tree c = λ a b alike p part. tree_alike a b alike p part

pub returns-clause-accepted : goal.returns-clause-accepted
returns-clause-accepted c = λ a b alike p part nodes tree. accepted_alike a b alike p part nodes tree

pub returns-clause-fault : goal.returns-clause-fault
returns-clause-fault c = λ a b alike p part cost nodes. fault_alike a b alike p part cost nodes
