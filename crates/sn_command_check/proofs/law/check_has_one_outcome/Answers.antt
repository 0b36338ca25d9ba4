use Rattle.sn_command_check.proofs.CheckLemmas.{one_check}
use Rattle.sn_command_check.proofs.law.check_has_one_outcome.Goals as goal

pub returns : goal.returns
returns c = λ switch queries train plantree. one_check switch queries train plantree
