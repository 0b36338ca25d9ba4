use Rattle.std.proofs.Common.{arith}
use Rattle.std.proofs.lemmas.Result.{err_from_is_err_and}
use Rattle.sn_command_texts.specs.Queries.{queries_of}
use Rattle.sn_command_run.proofs.RunLemmas.{window_some}
use Rattle.sn_command.proofs.StageLemmas.{file_stops, file_then, texts_then, works_stops}
use Rattle.sn_command_check.proofs.Steps.{of_text, of_window}
use Rattle.sn_command_check.proofs.check.check.Goals as goal

pub returns-in_err-typed : goal.returns-in_err-typed
returns-in_err-typed g c = let p = err_from_is_err_and c.from_residual.result c.from_residual.ensures.1 in rw (p.1, p.2) (works_stops c.in_err-typed.ensures)

pub returns-in_err-limits : goal.returns-in_err-limits
returns-in_err-limits g c = let p = err_from_is_err_and c.from_residual-in_err-limits.result c.from_residual-in_err-limits.ensures.1 in rw (p.1, p.2) (texts_then c.in_ok-typed.ensures (file_stops c.in_err-limits.ensures.works.runs))

pub read_training-requires : goal.read_training-requires
read_training-requires g c = let some = window_some c.in_ok-typed.typed.window_us c.in_ok-typed.typed.queries c.in_ok-typed.typed.typed in record { some = omega (arith, c.window_ns.ensures, some) }

pub returns-in_err-training : goal.returns-in_err-training
returns-in_err-training g c =
    let p = err_from_is_err_and c.from_residual-in_err-training.result c.from_residual-in_err-training.ensures.1 in
    rw (p.1, p.2) (texts_then c.in_ok-typed.ensures (file_then c.in_ok-limits.ensures.works.runs (file_stops (of_window c.window_ns.ensures c.in_err-training.ensures.works))))

pub returns-in_err-text : goal.returns-in_err-text
returns-in_err-text g c =
    let p = err_from_is_err_and c.from_residual-in_err-text.result c.from_residual-in_err-text.ensures.1 in
    rw (p.1, p.2) (texts_then c.in_ok-typed.ensures (file_then c.in_ok-limits.ensures.works.runs (file_then (of_window c.window_ns.ensures c.in_ok-training.ensures.works) (file_stops c.in_err-text.ensures.works.runs))))

pub returns : goal.returns
returns g c =
    texts_then c.in_ok-typed.ensures (file_then c.in_ok-limits.ensures.works.runs (file_then (of_window c.window_ns.ensures c.in_ok-training.ensures.works)
    (file_then c.in_ok-text.ensures.works.runs (of_text (queries_of c.in_ok-typed.typed) c.in_ok-limits.limits c.in_ok-training.training c.as_slice.ensures c.check_text.ensures))))
