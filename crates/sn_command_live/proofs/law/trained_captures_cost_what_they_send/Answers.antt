use Rattle.sn_command_live.proofs.ReachLemmas.{one_capture, one_number}
use Rattle.sn_command_live.proofs.law.trained_captures_cost_what_they_send.Goals as goal

pub returns-clause-weighted : goal.returns-clause-weighted
returns-clause-weighted c = λ switch queries file files ending given plan. one_capture given plan

pub returns-clause-unweighted : goal.returns-clause-unweighted
returns-clause-unweighted c = λ switch queries file files ending given plan light. one_number given plan light
