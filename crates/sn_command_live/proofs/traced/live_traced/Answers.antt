use Rattle.std.proofs.Common.{[], ◌∷◌}
use Rattle.std.proofs.lemmas.Result.{err_from_is_err_and}
use Rattle.sn_command_live.proofs.WorkLemmas.{work_stops, work_then}
use Rattle.sn_command_live.proofs.traced.live_traced.Goals as goal

pub returns-in_err-certified : goal.returns-in_err-certified
returns-in_err-certified g c = let p = err_from_is_err_and c.from_residual.result c.from_residual.ensures.1 in rw (p.1, p.2) (work_stops (c.args.capture.now ∷ []) c.in_err-certified.ensures.works)

pub returns : goal.returns
returns g c = work_then (c.args.capture.now ∷ []) c.in_ok-certified.ensures.works c.answer_traced.ensures
