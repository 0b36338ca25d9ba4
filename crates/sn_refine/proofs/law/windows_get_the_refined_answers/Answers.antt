use Rattle.sn_refine.proofs.Windows.{all_refined}
use Rattle.sn_refine.proofs.law.windows_get_the_refined_answers.Goals as goal

pub returns : goal.returns
returns c = λ q query path given rises. all_refined q query path given rises
