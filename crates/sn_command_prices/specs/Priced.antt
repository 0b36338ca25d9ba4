-- to be believed
-- Whether a cost, prices and a number show that no plan costs less than the number over training windows.
use Rattle.std.specs.Prelude.{◌≡◌, ℕ, List, Result, Ok, Err, ◌==◌, nat_lt, if◌then◌else◌}
use Rattle.sn_command.specs.declared.fault.Fault.{Fault}
use Rattle.sn_command.specs.declared.fault.Fault.TheVariants as faults
use Rattle.sn_command.specs.declared.fault.TreeKind.{TreeKind}
use Rattle.sn_command.specs.declared.fault.TreeKind.TheVariants as kinds
use Rattle.sn_cost_laws.specs.Space.{trained_entry}
use Rattle.sn_plan_grammar.specs.declared.plan.Plan.{Plan}
use Rattle.sn_plan_lists.specs.Costs.{plan_cost}
use Rattle.sn_prices.specs.Least.{shown_least}
use Rattle.sn_prices_grammar.specs.declared.prices.Prices.{Prices}
use Rattle.sn_prices_grammar.specs.declared.prices.Shown.{Shown}
use Rattle.sn_switch.specs.declared.switch.Switch.{Switch}
use Rattle.sn_types.specs.declared.typed_query.TypedQuery.{TypedQuery}
use Rattle.sn_windows.specs.Rising.{Window}

-- The fault of prices: another number is wanted than the one that stands there. It is reported as that of a tree at its root, node 0.
abbrev pub price_flaw : TreeKind → ℕ → ℕ → Fault
price_flaw kind want got = faults.Unshown (record { kind = kind; node = 0; want = want; got = got })

-- The cost that stands in a text is to be the plan's, and the number that no plan is said to cost less than at most what the prices show.
abbrev pub price_verdict : ℕ → ℕ → ℕ → ℕ → Result (Unit {0}) Fault
price_verdict cost least reported_cost reported_least =
    if reported_cost == cost then (if nat_lt least reported_least then Err (price_flaw kinds.Bound least reported_least) else Ok tt)
    else Err (price_flaw kinds.Cost cost reported_cost)

module _ (s : Switch) (queries : List TypedQuery) (given : List Window) where
  -- what a plan costs over training windows
  abbrev pub priced_cost : Plan → ℕ
  priced_cost plan = plan_cost s (trained_entry s queries given) 0 queries plan.entries

  -- what prices show over training windows
  abbrev pub priced_least : Prices → ℕ
  priced_least p = shown_least s (trained_entry s queries given) p queries

  -- a cost, prices and what they show are judged for a plan by their first fault
  abbrev pub PricedFor : Plan → Shown → Result (Unit {0}) Fault → Type 0
  PricedFor plan x verdict = verdict ≡ price_verdict (priced_cost plan) (priced_least x.prices) x.cost x.least
