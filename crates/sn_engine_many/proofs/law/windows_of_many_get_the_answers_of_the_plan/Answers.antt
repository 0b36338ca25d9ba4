use Rattle.sn_engine_many.proofs.Along.{all_shared}
use Rattle.sn_engine_many.proofs.law.windows_of_many_get_the_answers_of_the_plan.Goals as goal

pub returns : goal.returns
returns c = all_shared
