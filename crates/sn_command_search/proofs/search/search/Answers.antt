use Rattle.std.proofs.Common.{ℕ, ◌≤◌, List, refl, ap, sym, ◌∙◌, subst}
use Rattle.sn_plan_choices.specs.Costs.{entry_in}
use Rattle.sn_plan_lists.specs.Chosen.{plan_at}
use Rattle.sn_cost.specs.Entries.{trained}
use Rattle.sn_plan_space.specs.Reading.{plan_space}
use Rattle.sn_search.specs.Answers.{TellsBudget}
use Rattle.sn_search.specs.declared.fault.SearchFault.{SearchFault}
use Rattle.sn_tree_space.specs.declared.node.Node.{Node}
use Rattle.sn_tree_space.specs.Searches.{IsBudgetBound, any_bound}
use Rattle.sn_tree_space.specs.Space.{IsFirstLeast, IsPartial, IsPlan, Space}
use Rattle.sn_tree_space.specs.Trees.{count_expands, tree_of}
use Rattle.sn_command_search.proofs.Founds.{found_is, priced, spent_is}
use Rattle.sn_command_search.proofs.search.search.Goals as goal

pub returns-in-Err-Budget-clause-searched : goal.returns-in-Err-Budget-clause-searched
returns-in-Err-Budget-clause-searched c =
    let p = c.in_ok-planning.planning in
    let alike = priced c.args.s.now c.args.t.now.queries c.in_ok-table.table c.args.training.now.numbers c.args.training.now.numbers c.args.training.now.tuples c.args.training.now.tuples (plan_space p.t.now.queries p.s.now p.c.now) refl refl c.in_ok-table.ensures.entries c.in_ok-planning.ensures in
    spent_is c.args.s.now c.args.t.now.queries (trained c.args.training.now.numbers c.args.training.now.tuples) c.args.nodes (plan_space p.t.now.queries p.s.now p.c.now) alike c.in-Err-Budget.bound
    (subst (λ (n : ℕ). IsBudgetBound (plan_space p.t.now.queries p.s.now p.c.now) n c.in-Err-Budget.bound) c.from.ensures
    (subst (λ (f : SearchFault). TellsBudget (plan_space p.t.now.queries p.s.now p.c.now) c.from.result f) c.in-Err-Budget.field-0-is c.in-Err-Budget.ensures.budget))

pub lower-cost-requires : goal.lower-cost-requires
lower-cost-requires c =
    let p = c.in_ok-planning.planning in
    subst (λ (l : List ℕ). IsPartial (plan_space p.t.now.queries p.s.now p.c.now) l) (sym c.as_slice.ensures.value) c.in-Ok.ensures.plan.plan.partial

pub returns-clause-searched : goal.returns-clause-searched
returns-clause-searched c =
    let p = c.in_ok-planning.planning in
    let s = plan_space p.t.now.queries p.s.now p.c.now in
    let alike = priced c.args.s.now c.args.t.now.queries c.in_ok-table.table c.args.training.now.numbers c.args.training.now.numbers c.args.training.now.tuples c.args.training.now.tuples s refl refl c.in_ok-table.ensures.entries c.in_ok-planning.ensures in
    found_is c.args.s.now c.args.t.now.queries (trained c.args.training.now.numbers c.args.training.now.tuples) c.args.nodes s alike
    (record { plan = c.in_ok-plan.plan; cost = c.lower-cost.result; choices = c.from_vec.result; tree = c.from_vec-2.result })
    (subst (IsFirstLeast s) (sym c.from_vec.ensures) c.in-Ok.ensures.plan)
    (c.from_vec-2.ensures ∙ c.in-Ok.ensures.tree ∙ ap (tree_of s) (sym c.from_vec.ensures))
    (subst (λ (nodes : List Node). count_expands any_bound nodes ≤ c.args.nodes) (sym c.from_vec-2.ensures) (subst (λ (n : ℕ). count_expands any_bound c.in-Ok.found.tree.items ≤ n) c.from.ensures c.in-Ok.ensures.within))
    (c.lower-cost.ensures ∙ ap (λ (l : List ℕ). s.lower l) (c.as_slice.ensures.value ∙ sym c.from_vec.ensures))
    (c.in_ok-plan.ensures.plan ∙ ap (plan_at c.args.s.now c.args.t.now.queries) (c.as_slice-2.ensures.value ∙ sym c.from_vec.ensures))

pub returns-clause-fits : goal.returns-clause-fits
returns-clause-fits c =
    let p = c.in_ok-planning.planning in
    let plan : IsPlan (plan_space c.args.t.now.queries c.args.s.now c.in_ok-table.table) c.in-Ok.found.plan.items = subst (λ (x : Space). IsPlan x c.in-Ok.found.plan.items) c.in_ok-planning.ensures c.in-Ok.ensures.plan.plan in
    c.in_ok-plan.ensures.fits (entry_in c.in_ok-table.table) (subst (λ (l : List ℕ). IsPlan (plan_space c.args.t.now.queries c.args.s.now c.in_ok-table.table) l) (sym c.as_slice-2.ensures.value) plan)
