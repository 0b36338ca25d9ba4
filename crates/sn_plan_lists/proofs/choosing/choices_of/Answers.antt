use Rattle.std.proofs.Common.{◌≡◌, ◌∙◌, sym, subst, ap}
use Rattle.sn_plan_fit.proofs.Placings.{placing_by_gaps}
use Rattle.sn_tree_space.specs.Space.{IsPlan}
use Rattle.sn_plan_lists.specs.Chosen.{plan_at, plan_choices}
use Rattle.sn_plan_lists.specs.Theorems.{plans_of}
use Rattle.sn_plan_lists.proofs.NamedPieces.{if_ok_also}
use Rattle.sn_plan_lists.proofs.TypedBounds.{all_rising}
use Rattle.sn_plan_lists.proofs.Wholes.{plans_named, lists_name_plans}
use Rattle.sn_plan_lists.proofs.choosing.choices_of.Goals as goal

pub returns-clause-plan : goal.returns-clause-plan
returns-clause-plan c = λ entry.
    let s = c.args.s.now in
    let queries = c.args.t.now.queries in
    let entries = c.args.plan.now.entries in
    let named = plans_named s entry placing_by_gaps queries entries (all_rising s c.args.t.now.window_us queries c.args.t.now.typed c.requires.switch) c.requires.fits in
    if_ok_also (λ r. r ≡ plan_choices s queries entries) (IsPlan (plans_of s entry queries)) c.choices_along.result (λ r e. subst (IsPlan (plans_of s entry queries)) (sym e) named.plan) c.choices_along.ensures

pub returns-clause-names : goal.returns-clause-names
returns-clause-names c =
    let s = c.args.s.now in
    let queries = c.args.t.now.queries in
    let entries = c.args.plan.now.entries in
    let named = plans_named s (λ q f b o. 0) placing_by_gaps queries entries (all_rising s c.args.t.now.window_us queries c.args.t.now.typed c.requires.switch) c.requires.fits in
    if_ok_also (λ r. r ≡ plan_choices s queries entries) (λ r. plan_at s queries r ≡ entries) c.choices_along.result (λ r e. ap (plan_at s queries) e ∙ named.one.plan) c.choices_along.ensures

pub returns-clause-only : goal.returns-clause-only
returns-clause-only c = λ entry r is e.
    let s = c.args.s.now in
    let queries = c.args.t.now.queries in
    let entries = c.args.plan.now.entries in
    let named = lists_name_plans s entry placing_by_gaps queries r (all_rising s c.args.t.now.window_us queries c.args.t.now.typed c.requires.switch) is in
    if_ok_also (λ o. o ≡ plan_choices s queries entries) (λ o. o ≡ r) c.choices_along.result (λ o k. k ∙ ap (plan_choices s queries) (sym e) ∙ named.one.choices) c.choices_along.ensures
