use Rattle.sn_command_live.proofs.PrintLemmas.{keeps_headline}
use Rattle.sn_command_live.proofs.law.runs_of_live_keep_the_headline.Goals as goal

pub returns : goal.returns
returns c = λ switch queries train capture nodes before status now run. keeps_headline c.live_keeps_the_headline.ensures.printed c.live_keeps_the_headline.ensures.only switch queries train capture nodes before status now run
