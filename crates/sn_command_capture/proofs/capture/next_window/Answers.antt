use Rattle.std.proofs.Common.{List, [], ◌∷◌, ◌++◌}
use Rattle.std.proofs.lemmas.Result.{err_from_is_err_and}
use Rattle.sn_command.specs.Desks.{world}
use Rattle.sn_command_capture.proofs.StreamLemmas.{runs_stop}
use Rattle.sn_command_capture.proofs.capture.next_window.Goals as goal
use Rattle.sn_windows.specs.Rising.{Window}

pub returns-in_err-text-clause-runs : goal.returns-in_err-text-clause-runs
returns-in_err-text-clause-runs g c = λ closed tuples some h.
    let wording = g.A.Answering.wording c.args.answering.now in
    let in_time = g.met.A.Answering.in_time c.args.answering.now in
    let number = c.args.at_hand in
    let all : List Window = closed ++ (number, tuples) ∷ [] in
    let p = err_from_is_err_and c.from_residual.result c.from_residual.ensures.1 in
    rw (p.1, p.2) (runs_stop (wording.stops all number tuples) (wording.block all number tuples) (world g.I.Inputs g.O.Sink c.args.desk.now) c.in_err-text.field-0.0 (c.in_err-text.ensures.stops closed tuples some h) (in_time.late all number tuples))
