use Rattle.std.proofs.lemmas.Result.{err_from_is_err_and}
use Rattle.sn_command.proofs.StageLemmas.{runs_judges, works_stops, works_then}
use Rattle.sn_command.specs.Desks.{world}
use Rattle.sn_command_captures.proofs.CaptureLemmas.{capture_may, capture_once}
use Rattle.sn_command_captures.specs.Captures.{CaptureIn}
use Rattle.sn_command_captures.proofs.read.read_capture.Goals as goal

pub returns-in_err-file-clause-works : goal.returns-in_err-file-clause-works
returns-in_err-file-clause-works g c = let p = err_from_is_err_and c.from_residual.result c.from_residual.ensures.1 in rw (p.1, p.2) (works_stops c.in_err-file.ensures.works)

pub returns-clause-works : goal.returns-clause-works
returns-clause-works g c =
    let file = c.in_ok-file.file in
    works_then c.in_ok-file.ensures.works
    (runs_judges (CaptureIn c.args.number file) (capture_once c.args.number file) (world g.I.Inputs g.O.Sink c.read_file.new.desk) (capture_may c.args.number file) c.judge_capture.result c.judge_capture.ensures.judged)
