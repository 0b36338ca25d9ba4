use Rattle.std.proofs.lemmas.Result.{err_from_is_err_and}
use Rattle.sn_cost.specs.Entries.{trained}
use Rattle.sn_command.proofs.StageLemmas.{named_may, runs_judges, stage_stops, stage_then}
use Rattle.sn_prices_grammar.specs.declared.prices.Shown.{Shown}
use Rattle.sn_command_prices.specs.After.{PricesAfter}
use Rattle.sn_command_prices.specs.Priced.{PricedFor}
use Rattle.sn_command_prices.proofs.Verdicts.{priced_may, priced_once, prices_may, prices_once}
use Rattle.sn_command_check.proofs.check.check_prices.Goals as goal

pub returns-in_err-shown : goal.returns-in_err-shown
returns-in_err-shown g c =
    let p = err_from_is_err_and c.from_residual.result c.from_residual.ensures.1 in
    rw (p.1, p.2) (stage_stops (runs_judges (PricesAfter c.args.text.now c.args.byte) (prices_once c.args.text.now c.args.byte) _ (named_may 0 (prices_may Shown)) _ c.in_err-shown.ensures.judged))

pub returns-in_err-test_prices : goal.returns-in_err-test_prices
returns-in_err-test_prices g c =
    let p = err_from_is_err_and c.from_residual-in_err-test_prices.result c.from_residual-in_err-test_prices.ensures.1 in
    let given = trained c.args.training.now.numbers c.args.training.now.tuples in
    rw (p.1, p.2) (stage_then (runs_judges (PricesAfter c.args.text.now c.args.byte) (prices_once c.args.text.now c.args.byte) _ (named_may 0 (prices_may Shown)) _ c.in_ok-shown.ensures.judged)
    (stage_stops (runs_judges (PricedFor c.args.limits.now c.args.typed.now.queries given c.args.plan.now c.in_ok-shown.shown)
    (priced_once c.args.limits.now c.args.typed.now.queries given c.args.plan.now c.in_ok-shown.shown) _ (priced_may c.args.limits.now c.args.typed.now.queries given c.args.plan.now c.in_ok-shown.shown) _ c.in_err-test_prices.ensures)))

pub returns : goal.returns
returns g c =
    let given = trained c.args.training.now.numbers c.args.training.now.tuples in
    stage_then (runs_judges (PricesAfter c.args.text.now c.args.byte) (prices_once c.args.text.now c.args.byte) _ (named_may 0 (prices_may Shown)) _ c.in_ok-shown.ensures.judged)
    (stage_then (runs_judges (PricedFor c.args.limits.now c.args.typed.now.queries given c.args.plan.now c.in_ok-shown.shown)
    (priced_once c.args.limits.now c.args.typed.now.queries given c.args.plan.now c.in_ok-shown.shown) _ (priced_may c.args.limits.now c.args.typed.now.queries given c.args.plan.now c.in_ok-shown.shown) _ c.in_ok-test_prices.ensures) c.say_bounded.ensures)
