use Rattle.sn_top_laws.proofs.EventRuns.{adds_events}
use Rattle.sn_top_laws.proofs.traced.traces_add_lines_of_events.Goals as goal

pub returns : goal.returns
returns c = λ schedule nodes reported switch queries train capture files plain traced live trace. adds_events switch queries train nodes files schedule reported capture plain traced live trace
