use Rattle.sn_command_check.proofs.Saying.{yes_shows}
use Rattle.sn_command_check.proofs.law.yes_shows_least.Goals as goal

pub returns : goal.returns
returns c = λ switch queries train plantree files outcome is ended. yes_shows c.prices_without_fault_bound_costs.ensures.cost c.prices_without_fault_bound_costs.ensures.least switch queries train plantree files outcome is ended
