-- What a table that counts training windows says of a plan and of prices.
use Rattle.std.proofs.Common.{◌≡◌, ℕ, List, sym, ◌∙◌}
use Rattle.sn_cost_laws.specs.Priced.{AreCounted}
use Rattle.sn_cost_laws.proofs.Plans.{plan_priced, trained_priced}
use Rattle.sn_plan_fit.specs.Fits.{Fits}
use Rattle.sn_plan_grammar.specs.declared.plan.Plan.{Plan}
use Rattle.sn_plan_lists.specs.Costs.{plan_cost}
use Rattle.sn_plan_lists.specs.Theorems.{HaveRisingNumbers}
use Rattle.sn_prices.specs.Least.{shown_least}
use Rattle.sn_prices_grammar.specs.declared.prices.Prices.{Prices}
use Rattle.sn_switch.specs.declared.switch.Switch.{Switch}
use Rattle.sn_types.specs.declared.typed_query.TypedQuery.{TypedQuery}
use Rattle.sn_windows.specs.Rising.{Window}
use Rattle.sn_command_prices.specs.Priced.{priced_cost, priced_least}
use Rattle.sn_command_prices.proofs.Alike.{shown_alike}

module _ (s : Switch) (queries : List TypedQuery) (given : List Window) (entry : ℕ → ℕ → ℕ → ℕ → ℕ) (counted : AreCounted s queries given entry) where
  pub cost_counted : (plan : Plan) → HaveRisingNumbers s queries → Fits queries s plan.entries → plan_cost s entry 0 queries plan.entries ≡ priced_cost s queries given plan
  cost_counted plan rising fits = plan_priced s queries given entry plan.entries rising counted fits ∙ sym (trained_priced s queries given plan.entries rising fits)

  pub least_counted : (p : Prices) → shown_least s entry p queries ≡ priced_least s queries given p
  least_counted p = shown_alike s queries given entry counted p
