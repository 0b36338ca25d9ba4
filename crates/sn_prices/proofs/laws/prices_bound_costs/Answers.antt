use Rattle.sn_prices.proofs.Bounds.{bounded}
use Rattle.sn_prices.proofs.laws.prices_bound_costs.Goals as goal

pub returns : goal.returns
returns c = λ s entry p queries entries rising fits. bounded s entry p queries entries (c.fitting_plans_are_named.ensures s entry queries entries rising fits)
