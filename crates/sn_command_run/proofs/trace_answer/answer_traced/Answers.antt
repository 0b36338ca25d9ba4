use Rattle.std.proofs.Common.{ℕ, [], ◌∷◌, subst, arith}
use Rattle.std.proofs.lemmas.Result.{err_from_is_err_and}
use Rattle.sn_command_capture.specs.Capture.{Answered}
use Rattle.sn_command_capture.proofs.StreamLemmas.{runs_memory}
use Rattle.sn_command_texts.specs.Queries.{queries_of}
use Rattle.sn_command_run.proofs.RunLemmas.{window_some}
use Rattle.sn_command_run.specs.Planned.{Planned}
use Rattle.sn_command_run.specs.Run.{planned}
use Rattle.sn_command.specs.Desks.{world}
use Rattle.sn_command.specs.Runs.{Runs}
use Rattle.sn_command_run.specs.TraceWording.{traced_wording}
use Rattle.sn_command_run.proofs.trace_answer.answer_traced.Goals as goal

pub returns-in_err-traced : goal.returns-in_err-traced
returns-in_err-traced g c = let p = err_from_is_err_and c.from_residual.result c.from_residual.ensures.1 in rw (p.1, p.2) (runs_memory _ _ _)

pub answer_capture-requires-clause-window : goal.answer_capture-requires-clause-window
answer_capture-requires-clause-window g c =
    let t = c.args.typed in
    let some = window_some t.window_us t.queries t.typed in
    omega (arith, c.window_ns-window_ns.ensures, some)

pub returns : goal.returns
returns g c =
    let reported = g.M.Machine.reported in
    let name = c.args.capture.now in
    let here = world g.I.Inputs g.O.Sink c.args.desk.now in
    let there = world g.I.Inputs g.O.Sink c.answer_capture.new.desk in
    let made : Planned = planned (queries_of c.args.typed) c.args.limits.now c.args.plan in
    let a = c.in_ok-traced.traced in
    let answered = subst (λ (p : Planned). Runs (name ∷ []) (Answered (traced_wording a.schedule p reported) c.window_ns-window_ns.result name) here c.answer_capture.result there) c.in_ok-traced.ensures.plan c.answer_capture.ensures in
    let numbered = subst (λ (n : ℕ). Runs (name ∷ []) (Answered (traced_wording n made reported) c.window_ns-window_ns.result name) here c.answer_capture.result there) c.in_ok-traced.ensures.schedule answered in
    subst (λ (window : ℕ). Runs (name ∷ []) (Answered (traced_wording c.args.schedule made reported) window name) here c.answer_capture.result there) c.window_ns-window_ns.ensures numbered
