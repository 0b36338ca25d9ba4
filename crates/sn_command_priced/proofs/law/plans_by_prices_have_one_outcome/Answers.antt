use Rattle.sn_command_priced.proofs.Choices.{one_plan_prices}
use Rattle.sn_command_priced.proofs.law.plans_by_prices_have_one_outcome.Goals as goal

pub returns : goal.returns
returns c = one_plan_prices
