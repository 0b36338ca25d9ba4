-- A cost and a tree without a fault leave no plan that fits and costs less.
use Rattle.std.proofs.Common.{◌≡◌, ℕ, ◌≤◌, List, Option, None, Some, Ok, refl, sym, ◌∙◌, arith}
use Rattle.sn_plan_lists.specs.Chosen.{plan_choices}
use Rattle.sn_plan_lists.specs.Theorems.{HaveRisingNumbers, IsNamed}
use Rattle.sn_plan_lists.proofs.Wholes.{plans_named}
use Rattle.sn_plan_choices.proofs.Easy.{plans_laws}
use Rattle.sn_plan_fit.proofs.FitLaws.{fits_none}
use Rattle.sn_plan_fit.proofs.Placings.{placing_by_gaps}
use Rattle.sn_plan_fit.specs.Fits.{Fits}
use Rattle.sn_plan_fit.specs.Pieces.{fit_misfit}
use Rattle.sn_plan_fit.specs.declared.misfit.Misfit.{Misfit}
use Rattle.sn_cost_laws.proofs.Plans.{trained_priced}
use Rattle.sn_cost_laws.specs.Sent.{cost_over}
use Rattle.sn_plan_grammar.specs.declared.plan.Entry.{Entry}
use Rattle.sn_command_texts.specs.Fitting.{misfit_verdict}
use Rattle.sn_command_texts.proofs.Accepted.{ok_err}
use Rattle.sn_cost_laws.specs.Space.{trained_entry, trained_plans}
use Rattle.sn_windows.specs.Rising.{Window}
use Rattle.sn_tree_space.proofs.Least.{least_by_cover}
use Rattle.sn_tree_space.specs.declared.node.Node.{Node}
use Rattle.sn_tree_space.specs.Space.{Space}
use Rattle.sn_switch.specs.Texts.{IsSwitch}
use Rattle.sn_switch.specs.declared.switch.Switch.{Switch}
use Rattle.sn_tree.proofs.Accepts.{accepted_without_fault}
use Rattle.sn_tree.specs.Faults.{tree_fault}
use Rattle.sn_tree.specs.declared.fault.TreeFault.{TreeFault}
use Rattle.sn_types.specs.declared.typed_query.TypedQuery.{TypedQuery}
use Rattle.sn_command_check.specs.Shown.{flaw_verdict}

-- ---- a plan without a misfit fits

none_reported : (o : Option Misfit) → misfit_verdict o ≡ Ok tt → o ≡ None
none_reported None e = refl
none_reported (Some m) e = ok_err (sym e)

pub plan_fits : (queries : List TypedQuery) (s : Switch) (entries : List Entry) → IsSwitch s → misfit_verdict (fit_misfit queries s entries) ≡ Ok tt → Fits queries s entries
plan_fits queries s entries is e = (fits_none queries s entries is.stages.0).0 (none_reported (fit_misfit queries s entries) e)

-- ---- a tree without a fault

none_flawed : (o : Option TreeFault) → Ok tt ≡ flaw_verdict o → o ≡ None
none_flawed None e = refl
none_flawed (Some f) e = ok_err e

module _ (s : Switch) (queries : List TypedQuery) (given : List Window) (rising : HaveRisingNumbers s queries) (entries : List Entry) (fits : Fits queries s entries) where
  abbrev plans : Space
  plans = trained_plans s queries given

  named_as : (es : List Entry) → Fits queries s es → IsNamed s (trained_entry s queries given) queries es
  named_as es k = plans_named s (trained_entry s queries given) placing_by_gaps queries es rising k

  -- what the bound of a plan's choices says
  pub bound_is_cost : (es : List Entry) → Fits queries s es → plans.lower (plan_choices s queries es) ≡ cost_over s queries es given
  bound_is_cost es k = (named_as es k).one.cost ∙ trained_priced s queries given es rising k

  module _ (cost : ℕ) (nodes : List Node) (shown : Ok tt ≡ flaw_verdict (tree_fault plans (plan_choices s queries entries) cost nodes)) where
    pub cost_is_so : cost ≡ cost_over s queries entries given
    cost_is_so =
        (accepted_without_fault plans (plan_choices s queries entries) cost nodes (none_flawed (tree_fault plans (plan_choices s queries entries) cost nodes) shown)).0 ∙ bound_is_cost entries fits

    pub none_costs_less : (es : List Entry) → Fits queries s es → cost_over s queries entries given ≤ cost_over s queries es given
    none_costs_less es k =
        let tree = (accepted_without_fault plans (plan_choices s queries entries) cost nodes (none_flawed (tree_fault plans (plan_choices s queries entries) cost nodes) shown)).1 in
        let least = least_by_cover plans (plan_choices s queries entries) (plans_laws s (trained_entry s queries given) queries) (named_as entries fits).plan nodes tree.covers (plan_choices s queries es) (named_as es k).plan in
        let mine = bound_is_cost entries fits in
        let other = bound_is_cost es k in
        omega (arith, least, mine, other)
