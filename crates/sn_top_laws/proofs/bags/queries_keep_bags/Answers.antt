use Rattle.sn_top_laws.proofs.TupleBags.{whole_bag}
use Rattle.sn_top_laws.proofs.bags.queries_keep_bags.Goals as goal

pub returns : goal.returns
returns c = whole_bag
