use Rattle.std.proofs.Common.{ℕ, ◌≤◌, List, subst, sym}
use Rattle.sn_command_live.specs.Live.{trained_windows}
use Rattle.sn_cost_laws.specs.Sent.{cost_over}
use Rattle.sn_plan_fit.specs.Fits.{Fits}
use Rattle.sn_plan_grammar.specs.declared.plan.Entry.{Entry}
use Rattle.sn_command_priced.proofs.Choices.{question_rises}
use Rattle.sn_command_priced.proofs.law.right_choices_bound_costs.Goals as goal

pub returns : goal.returns
returns c = λ choose switch queries train files question right reads.
    let p = choose question in
    let is = right question reads in
    let rising = question_rises switch queries train files question reads in
    let windows = trained_windows question.training in
    let cost = c.prices_without_fault_bound_costs.ensures.cost question.limits question.read.queries windows p.plan p.shown rising is.fits is.shows in
    let least : (entries : List Entry) → Fits question.read.queries question.limits entries → p.shown.least ≤ cost_over question.limits question.read.queries entries windows =
    λ entries fits. c.prices_without_fault_bound_costs.ensures.least question.limits question.read.queries windows p.plan p.shown entries rising is.shows fits in
    record { fits = is.fits; cost = cost; below = subst (λ (n : ℕ). p.shown.least ≤ n) (sym cost) (least p.plan.entries is.fits); least = least }
