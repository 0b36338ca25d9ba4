use Rattle.std.proofs.Common.{Ok, []}
use Rattle.std.proofs.lemmas.Result.{err_from_is_err_and}
use Rattle.sn_command.proofs.StageLemmas.{runs_gives}
use Rattle.sn_command_live.proofs.WorkLemmas.{work_stops, work_then}
use Rattle.sn_command_live.proofs.plan.plan.Goals as goal

pub returns-in_err-certify : goal.returns-in_err-certify
returns-in_err-certify g c = let p = err_from_is_err_and c.from_residual.result c.from_residual.ensures.1 in rw (p.1, p.2) (work_stops [] c.in_err-certify.ensures.works)

pub returns : goal.returns
returns g c = work_then [] c.in_ok-certify.ensures.works (runs_gives (Ok tt) _ tt)
