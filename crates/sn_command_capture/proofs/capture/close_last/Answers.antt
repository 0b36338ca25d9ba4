use Rattle.std.proofs.Common.{Ok, Err}
use Rattle.std.proofs.lemmas.Result.{err_from_is_err_and}
use Rattle.sn_command.specs.Desks.{world}
use Rattle.sn_command_capture.proofs.StandLemmas.{closes_hand}
use Rattle.sn_command_capture.proofs.StreamLemmas.{runs_closed}
use Rattle.sn_command_capture.proofs.capture.close_last.Goals as goal

pub returns-in_err-write_window-clause-runs : goal.returns-in_err-write_window-clause-runs
returns-in_err-write_window-clause-runs g c = λ state s.
    let wording = g.A.Answering.wording c.args.answering.now in
    let here = world g.I.Inputs g.O.Sink c.args.desk.now in
    let there = world g.I.Inputs g.O.Sink c.write_window.new.desk in
    let refusal = c.in_err-write_window.field-0.0 in
    let p = err_from_is_err_and c.from_residual.result c.from_residual.ensures.1 in
    rw (p.1, p.2) (runs_closed wording state.numbering.number state.closed c.args.ending state.tuples here there (Err refusal) (s.some c.if-not-gathered.false)
    (closes_hand (g.A.Answering.hand c.args.answering.now) c.args.gathered state s wording c.number.result here there (Err refusal) c.number.ensures (s.some c.if-not-gathered.false) c.in_err-write_window.ensures.runs))

pub returns-clause-runs : goal.returns-clause-runs
returns-clause-runs g c = λ state s.
    let wording = g.A.Answering.wording c.args.answering.now in
    let here = world g.I.Inputs g.O.Sink c.args.desk.now in
    let there = world g.I.Inputs g.O.Sink c.write_window.new.desk in
    runs_closed wording state.numbering.number state.closed c.args.ending state.tuples here there (Ok tt) (s.some c.if-not-gathered.false)
    (closes_hand (g.A.Answering.hand c.args.answering.now) c.args.gathered state s wording c.number.result here there (Ok tt) c.number.ensures (s.some c.if-not-gathered.false) c.in_ok-write_window.ensures.runs)
