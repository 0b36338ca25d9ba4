use Rattle.sn_top_laws.proofs.EventRuns.{schedules_alike}
use Rattle.sn_top_laws.proofs.traced.schedules_print_the_same.Goals as goal

pub returns : goal.returns
returns c = λ first second nodes reported switch queries train capture files one other a b. schedules_alike first second reported switch queries train capture nodes files one other a b
