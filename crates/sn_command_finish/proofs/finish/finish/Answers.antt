use Rattle.std.proofs.lemmas.Result.{err_from_is_err_and}
use Rattle.sn_command.proofs.StageLemmas.{file_stops, file_then, stage_stops, stage_then, works_stops, works_then}
use Rattle.sn_command_texts.proofs.Verdicts.{gives_misfit}
use Rattle.sn_command_finish.proofs.finish.finish.Goals as goal

pub returns-in_err-typed : goal.returns-in_err-typed
returns-in_err-typed g c = let p = err_from_is_err_and c.from_residual.result c.from_residual.ensures.1 in rw (p.1, p.2) (works_stops c.in_err-typed.ensures)

pub returns-in_err-chosen : goal.returns-in_err-chosen
returns-in_err-chosen g c = let p = err_from_is_err_and c.from_residual-in_err-chosen.result c.from_residual-in_err-chosen.ensures.1 in rw (p.1, p.2) (works_then c.in_ok-typed.ensures (file_stops c.in_err-chosen.ensures.runs))

pub returns-in_err-test_shape : goal.returns-in_err-test_shape
returns-in_err-test_shape g c =
    let p = err_from_is_err_and c.from_residual-in_err-test_shape.result c.from_residual-in_err-test_shape.ensures.1 in
    rw (p.1, p.2) (works_then c.in_ok-typed.ensures (file_then c.in_ok-chosen.ensures.runs (stage_stops (gives_misfit _ c.in_err-test_shape.ensures.verdict))))

pub returns : goal.returns
returns g c = works_then c.in_ok-typed.ensures (file_then c.in_ok-chosen.ensures.runs (stage_then (gives_misfit _ c.in_ok-test_shape.ensures.verdict) c.answer_reports.ensures))
