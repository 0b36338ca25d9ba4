use Rattle.std.proofs.lemmas.Result.{err_from_is_err_and}
use Rattle.sn_command.proofs.StageLemmas.{file_stops, file_then}
use Rattle.sn_command_capture.proofs.StreamLemmas.{same_name}
use Rattle.sn_command_capture.proofs.capture.answer_capture.Goals as goal

pub returns-in_err-header : goal.returns-in_err-header
returns-in_err-header g c = let p = err_from_is_err_and c.from_residual.result c.from_residual.ensures.1 in rw (p.1, p.2) (file_stops c.in_err-header.ensures.runs)

pub returns : goal.returns
returns g c = same_name (file_then c.in_ok-header.ensures.runs c.answer_records.ensures)
