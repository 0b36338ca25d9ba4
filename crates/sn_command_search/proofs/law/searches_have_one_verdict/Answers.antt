use Rattle.sn_command_search.proofs.Verdicts.{one_search}
use Rattle.sn_command_search.proofs.law.searches_have_one_verdict.Goals as goal

pub returns : goal.returns
returns c = λ s queries given nodes. one_search s queries given nodes
