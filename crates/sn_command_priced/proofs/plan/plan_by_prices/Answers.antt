use Rattle.std.proofs.Common.{[]}
use Rattle.std.proofs.lemmas.Result.{err_from_is_err_and}
use Rattle.sn_command.proofs.StageLemmas.{runs_chance}
use Rattle.sn_command_live.proofs.WorkLemmas.{work_stops, work_then}
use Rattle.sn_command_priced.specs.PlanPrices.{question_of}
use Rattle.sn_command_priced.proofs.Choices.{made, unmade}
use Rattle.sn_command_priced.proofs.plan.plan_by_prices.Goals as goal

pub returns-in_err-asked : goal.returns-in_err-asked
returns-in_err-asked g c =
    let p = err_from_is_err_and c.from_residual.result c.from_residual.ensures.1 in rw (p.1, p.2) (unmade c.args.switch.now c.args.queries.now c.args.train.now (work_stops [] c.in_err-asked.ensures.works))

pub returns-in_err-priced : goal.returns-in_err-priced
returns-in_err-priced g c =
    let p = err_from_is_err_and c.from_residual-in_err-priced.result c.from_residual-in_err-priced.ensures.1 in
    rw (p.1, p.2) (unmade c.args.switch.now c.args.queries.now c.args.train.now (work_then [] c.in_ok-asked.ensures.works (runs_chance _ _)))

pub returns : goal.returns
returns g c =
    made c.args.switch.now c.args.queries.now c.args.train.now (question_of c.in_ok-asked.asked) c.in_ok-priced.priced c.in_ok-asked.ensures.works c.in_ok-priced.ensures c.write_priced.ensures
