use Rattle.sn_plan_choices.specs.Costs.{entry_in}
use Rattle.sn_cost_laws.proofs.Priced.{counted_alike}
use Rattle.sn_cost_laws.proofs.tables.counted_tables_price_plans.Goals as goal

pub returns : goal.returns
returns c = λ s queries given table counted. counted_alike s queries given (entry_in table) counted
