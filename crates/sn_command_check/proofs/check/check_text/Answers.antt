use Rattle.std.proofs.Common.{ℕ, sym, ◌∙◌}
use Rattle.std.proofs.lemmas.Result.{err_from_is_err_and}
use Rattle.sn_plan_grammar.specs.declared.plan.Plan.{Plan}
use Rattle.sn_command.proofs.StageLemmas.{named_may, runs_judges, stage_stops, stage_then}
use Rattle.sn_command_texts.specs.Queries.{queries_of}
use Rattle.sn_command_check.specs.PlanTrees.{PlanBefore}
use Rattle.sn_command_texts.proofs.Verdicts.{gives_misfit, plan_may}
use Rattle.sn_command_check.proofs.Steps.{of_after}
use Rattle.sn_command_check.proofs.Verdicts.{plan_once}
use Rattle.sn_command_check.proofs.check.check_text.Goals as goal

pub returns-in_err-plan : goal.returns-in_err-plan
returns-in_err-plan g c =
    let p = err_from_is_err_and c.from_residual.result c.from_residual.ensures.1 in
    rw (p.1, p.2) (stage_stops (runs_judges (PlanBefore c.args.text.now) (plan_once c.args.text.now) _ (named_may 0 (plan_may (Plan × ℕ))) _ c.in_err-plan.ensures))

pub returns-in_err-test_fit : goal.returns-in_err-test_fit
returns-in_err-test_fit g c =
    let p = err_from_is_err_and c.from_residual-in_err-test_fit.result c.from_residual-in_err-test_fit.ensures.1 in
    rw (p.1, p.2) (stage_then (runs_judges (PlanBefore c.args.text.now) (plan_once c.args.text.now) _ (named_may 0 (plan_may (Plan × ℕ))) _ c.in_ok-plan.ensures) (stage_stops (gives_misfit _ c.in_err-test_fit.ensures.verdict)))

pub returns-then-has_prices : goal.returns-then-has_prices
returns-then-has_prices g c =
    stage_then (runs_judges (PlanBefore c.args.text.now) (plan_once c.args.text.now) _ (named_may 0 (plan_may (Plan × ℕ))) _ c.in_ok-plan.ensures) (stage_then (gives_misfit _ c.in_ok-test_fit.ensures.verdict)
    (of_after (queries_of c.args.typed.now) c.args.limits.now c.args.training.now c.args.text.now c.in_ok-plan.plan c.in_ok-plan.byte (sym c.has_prices.ensures ∙ c.if-has_prices.true) c.check_prices.ensures))

pub returns : goal.returns
returns g c =
    stage_then (runs_judges (PlanBefore c.args.text.now) (plan_once c.args.text.now) _ (named_may 0 (plan_may (Plan × ℕ))) _ c.in_ok-plan.ensures) (stage_then (gives_misfit _ c.in_ok-test_fit.ensures.verdict)
    (of_after (queries_of c.args.typed.now) c.args.limits.now c.args.training.now c.args.text.now c.in_ok-plan.plan c.in_ok-plan.byte (sym c.has_prices.ensures ∙ c.if-has_prices.false) c.check_tree.ensures))
