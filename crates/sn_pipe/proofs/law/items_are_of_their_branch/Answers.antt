use Rattle.sn_pipe.proofs.ItemLaw.{items_sent}
use Rattle.sn_pipe.proofs.law.items_are_of_their_branch.Goals as goal

pub returns : goal.returns
returns c = items_sent
