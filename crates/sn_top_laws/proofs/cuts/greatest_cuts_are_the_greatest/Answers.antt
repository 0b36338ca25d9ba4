use Rattle.sn_top_laws.proofs.CutLemmas.{greatest_of_branch}
use Rattle.sn_top_laws.proofs.cuts.greatest_cuts_are_the_greatest.Goals as goal

pub returns : goal.returns
returns c = greatest_of_branch
