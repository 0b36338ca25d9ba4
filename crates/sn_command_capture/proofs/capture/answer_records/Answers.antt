use Rattle.std.proofs.Common.{[], subst, ◌∙◌}
use Rattle.std.proofs.lemmas.Result.{err_from_is_err_and}
use Rattle.sn_command.specs.Desks.{world}
use Rattle.sn_command.specs.Runs.{Runs}
use Rattle.sn_command.proofs.StageLemmas.{file_stops, file_then, stage_stops, stage_then}
use Rattle.sn_command_capture.specs.Capture.{LastLines}
use Rattle.sn_command_capture.specs.Wording.{Wording}
use Rattle.sn_command_capture.proofs.capture.answer_records.Goals as goal

pub returns-in_err-write_first_lines : goal.returns-in_err-write_first_lines
returns-in_err-write_first_lines g c = let p = err_from_is_err_and c.from_residual.result c.from_residual.ensures.1 in rw (p.1, p.2) (stage_stops c.in_err-write_first_lines.ensures)

pub write_windows-requires-clause-known : goal.write_windows-requires-clause-known
write_windows-requires-clause-known g c = c.in_ok-write_first_lines.ensures.follows.known c.args.capture.now ∙ c.requires.known

pub returns-in_err-windows : goal.returns-in_err-windows
returns-in_err-windows g c =
    let p = err_from_is_err_and c.from_residual-in_err-windows.result c.from_residual-in_err-windows.ensures.1 in
    rw (p.1, p.2) (stage_then c.in_ok-write_first_lines.ensures (file_stops c.in_err-windows.ensures.runs.1))

pub returns : goal.returns
returns g c =
    let found = c.in_ok-windows.ensures.runs in
    stage_then c.in_ok-write_first_lines.ensures (file_then found.1
    (subst (λ (wording : Wording). Runs [] (LastLines wording found.0 c.in_ok-windows.ending) (world g.I.Inputs g.O.Sink c.write_windows.new.desk) c.write_last_lines.result (world g.I.Inputs g.O.Sink c.write_last_lines.new.desk)) c.in_ok-windows.ensures.wording (c.write_last_lines.ensures found.0 found.2.1 found.2.0)))
