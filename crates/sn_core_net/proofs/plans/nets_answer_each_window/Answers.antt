use Rattle.sn_core_net.proofs.PlanAnswers.{plan_windows}
use Rattle.sn_core_net.proofs.plans.nets_answer_each_window.Goals as goal

pub returns : goal.returns
returns c = λ typed_for tables queries entries lanes windows t h can are some widths. plan_windows typed_for tables queries entries t h can lanes are some windows widths
