use Rattle.sn_engine_lockstep.proofs.Laws.{all_windows}
use Rattle.sn_engine_lockstep.proofs.law.windows_get_the_answers_of_the_plan.Goals as goal

pub returns : goal.returns
returns c = all_windows
