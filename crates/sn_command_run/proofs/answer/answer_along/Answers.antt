use Rattle.std.proofs.Common.{ℕ, [], ◌∷◌, subst, arith}
use Rattle.std.proofs.lemmas.Result.{err_from_is_err_and}
use Rattle.sn_command_capture.specs.Capture.{Answered}
use Rattle.sn_command_capture.proofs.StreamLemmas.{runs_memory}
use Rattle.sn_command_texts.specs.Queries.{queries_of}
use Rattle.sn_command_run.proofs.RunLemmas.{window_some}
use Rattle.sn_command_run.specs.Planned.{Planned, wording_in}
use Rattle.sn_command_run.specs.Run.{planned}
use Rattle.sn_command_run.specs.declared.form.Form.{Form}
use Rattle.sn_command.specs.Desks.{world}
use Rattle.sn_command.specs.Runs.{Runs}
use Rattle.sn_command_run.proofs.answer.answer_along.Goals as goal

pub returns-in_err-along : goal.returns-in_err-along
returns-in_err-along g c = let p = err_from_is_err_and c.from_residual.result c.from_residual.ensures.1 in rw (p.1, p.2) (runs_memory _ _ _)

pub answer_capture-requires-clause-window : goal.answer_capture-requires-clause-window
answer_capture-requires-clause-window g c =
    let t = c.args.typed in
    let some = window_some t.window_us t.queries t.typed in
    omega (arith, c.window_ns-window_ns.ensures, some)

pub returns : goal.returns
returns g c =
    let reported = g.M.Machine.reported in
    let name = c.args.capture.now in
    let here = world g.I.Inputs g.O.Sink c.args.desk.now in
    let there = world g.I.Inputs g.O.Sink c.answer_capture.new.desk in
    let made : Planned = planned (queries_of c.args.typed) c.args.limits.now c.args.plan in
    let answered = subst (λ (p : Planned). Runs (name ∷ []) (Answered (wording_in c.in_ok-along.along.form reported p) c.window_ns-window_ns.result name) here c.answer_capture.result there) c.in_ok-along.ensures.plan c.answer_capture.ensures in
    let formed = subst (λ (f : Form). Runs (name ∷ []) (Answered (wording_in f reported made) c.window_ns-window_ns.result name) here c.answer_capture.result there) c.in_ok-along.ensures.form answered in
    subst (λ (window : ℕ). Runs (name ∷ []) (Answered (wording_in c.args.form reported made) window name) here c.answer_capture.result there) c.window_ns-window_ns.ensures formed
