use Rattle.std.proofs.Common.{refl}
use Rattle.std.proofs.lemmas.Result.{err_from_is_err_and}
use Rattle.sn_command.proofs.StageLemmas.{runs_any, runs_chance, works_alone}
use Rattle.sn_command_job.proofs.OverLemmas.{works_over}
use Rattle.sn_command_job.proofs.job.job.Goals as goal

pub returns-in_err-files : goal.returns-in_err-files
returns-in_err-files g c = let p = err_from_is_err_and c.from_residual.result c.from_residual.ensures.1 in rw (p.1, p.2) (works_alone (runs_any (runs_chance _ _)))

pub returns : goal.returns
returns g c = works_over g.M.Machine.reported c.args.number c.in_ok-files.files c.sum_up.new.desk.files.now c.in_ok-files.ensures _ _ _ _ c.sum_up.result refl refl refl refl refl refl refl c.sum_up.ensures
