-- to be believed
-- A plan with prices that bound what any plan costs, and its text.
use Rattle.std.specs.Prelude.{ℕ, List, ◌++◌, Ok}
use Rattle.sn_command_prices.specs.Priced.{PricedFor}
use Rattle.sn_command_prices.specs.declared.make.PricedPlan.{PricedPlan}
use Rattle.sn_plan.specs.Printing.{plan_text}
use Rattle.sn_plan_fit.specs.Fits.{Fits}
use Rattle.sn_prices_search.specs.Writable.{AreWritable}
use Rattle.sn_prices_text.specs.PricesPrinting.{shown_text}
use Rattle.sn_switch.specs.declared.switch.Switch.{Switch}
use Rattle.sn_types.specs.declared.typed_query.TypedQuery.{TypedQuery}
use Rattle.sn_windows.specs.Rising.{Window}

-- The plan fits the switch. Over training windows it costs what is said, the prices show what is said, and a text can tell them.
pub record IsPricedPlan (s : Switch) (queries : List TypedQuery) (given : List Window) (p : PricedPlan) : Type 0 where
  pub fits : Fits queries s p.plan.entries
  pub shows : PricedFor s queries given p.plan p.shown (Ok tt)
  pub reported : AreWritable p.shown.prices

-- the text of such a plan: the plan, its cost, the prices and what they show
abbrev pub priced_text : PricedPlan → List ℕ
priced_text p = plan_text p.plan ++ shown_text p.shown
