use Rattle.sn_tree.proofs.AlikePlans.{turned_alike}
use Rattle.sn_tree.proofs.alike.alike_both_ways.Goals as goal

pub returns : goal.returns
returns c = λ a b alike. turned_alike a b alike
