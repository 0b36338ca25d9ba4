use Rattle.sn_top_laws.proofs.TupleBags.{branch_bag}
use Rattle.sn_top_laws.proofs.bags.branches_keep_bags.Goals as goal

pub returns : goal.returns
returns c = branch_bag
