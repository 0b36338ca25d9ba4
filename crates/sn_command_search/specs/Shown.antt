-- to be believed
-- What a certificate shows.
use Rattle.std.specs.Prelude.{◌≡◌, ◌≤◌, List}
use Rattle.sn_plan_lists.specs.Chosen.{plan_choices}
use Rattle.sn_plan_lists.specs.Costs.{plan_cost}
use Rattle.sn_plan_fit.specs.Fits.{Fits}
use Rattle.sn_plan_grammar.specs.declared.plan.Entry.{Entry}
use Rattle.sn_cost_laws.specs.Space.{trained_entry, trained_plans}
use Rattle.sn_windows.specs.Rising.{Window}
use Rattle.sn_tree_space.specs.Trees.{IsAccepted}
use Rattle.sn_switch.specs.declared.switch.Switch.{Switch}
use Rattle.sn_types.specs.declared.typed_query.TypedQuery.{TypedQuery}
use Rattle.sn_command_search.specs.declared.certificate.Certificate.{Certificate}

-- The plan fits the switch. Over training windows it costs what is said, and no plan that fits costs less: the tree is accepted for
-- the plan's choices.
pub record ShowsLeast (s : Switch) (queries : List TypedQuery) (given : List Window) (c : Certificate) : Type 0 where
  pub fits : Fits queries s c.plan.entries
  pub cost : c.cost ≡ plan_cost s (trained_entry s queries given) 0 queries c.plan.entries
  pub least : (entries : List Entry) → Fits queries s entries → c.cost ≤ plan_cost s (trained_entry s queries given) 0 queries entries
  pub choices : plan_choices s queries c.plan.entries ≡ c.choices
  pub accepted : IsAccepted (trained_plans s queries given) c.choices c.tree
