use Rattle.sn_command_finish.proofs.WholeLemmas.{windows_answered}
use Rattle.sn_command_finish.proofs.law.whole_windows_are_answered.Goals as goal

pub returns : goal.returns
returns c = windows_answered
