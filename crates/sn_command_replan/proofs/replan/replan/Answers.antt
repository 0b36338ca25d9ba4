use Rattle.std.proofs.Common.{ℕ, [], ◌∷◌, Ok, Err, subst, arith}
use Rattle.std.proofs.lemmas.Result.{err_from_is_err_and}
use Rattle.sn_command.specs.Desks.{world}
use Rattle.sn_command.specs.Runs.{Runs}
use Rattle.sn_command_capture.specs.Capture.{Answered}
use Rattle.sn_command_capture.proofs.StreamLemmas.{runs_memory}
use Rattle.sn_command_live.specs.Live.{searched_of}
use Rattle.sn_command_live.proofs.WorkLemmas.{work_stops, work_then}
use Rattle.sn_command_run.proofs.RunLemmas.{window_some}
use Rattle.sn_command_replan.specs.Replan.{Followed, replan_wording}
use Rattle.sn_command_replan.proofs.ReplanLemmas.{after_line}
use Rattle.sn_command_replan.proofs.replan.replan.Goals as goal

pub returns-in_err-certified : goal.returns-in_err-certified
returns-in_err-certified g c = let p = err_from_is_err_and c.from_residual.result c.from_residual.ensures.1 in rw (p.1, p.2) (work_stops (c.args.capture.now ∷ []) (after_line c.args.switch.now c.args.queries.now c.args.train.now c.args.nodes (Err c.in_err-certified.field-0.0) c.in_err-certified.ensures.works))

pub returns-in_err-replanning : goal.returns-in_err-replanning
returns-in_err-replanning g c =
    let p = err_from_is_err_and c.from_residual-in_err-replanning.result c.from_residual-in_err-replanning.ensures.1 in
    rw (p.1, p.2) (work_then (c.args.capture.now ∷ []) (after_line c.args.switch.now c.args.queries.now c.args.train.now c.args.nodes (Ok (searched_of c.in_ok-certified.certified)) c.in_ok-certified.ensures.works) (runs_memory _ _ _))

pub answer_capture-requires-clause-window : goal.answer_capture-requires-clause-window
answer_capture-requires-clause-window g c =
    let t = c.in_ok-certified.certified.typed in
    let some = window_some t.window_us t.queries t.typed in
    omega (arith, c.window_ns-window_ns.ensures, some)

pub returns : goal.returns
returns g c =
    let name = c.args.capture.now in
    let found = c.in_ok-certified.certified in
    let here = world g.I.Inputs g.O.Sink c.certify_after.new.desk in
    let there = world g.I.Inputs g.O.Sink c.answer_capture.new.desk in
    let made : ℕ → Followed = λ most. record { queries = found.typed.queries; limits = found.limits; nodes = c.args.nodes; most = most; first = found.certificate } in
    let by_most = subst (λ (f : Followed). Runs (name ∷ []) (Answered (replan_wording f) c.window_ns-window_ns.result name) here c.answer_capture.result there) c.in_ok-replanning.ensures.followed c.answer_capture.ensures in
    let with_most = subst (λ (most : ℕ). Runs (name ∷ []) (Answered (replan_wording (made most)) c.window_ns-window_ns.result name) here c.answer_capture.result there) c.from.ensures by_most in
    work_then (name ∷ []) (after_line c.args.switch.now c.args.queries.now c.args.train.now c.args.nodes (Ok (searched_of found)) c.in_ok-certified.ensures.works)
    (subst (λ (window : ℕ). Runs (name ∷ []) (Answered (replan_wording (made c.args.most)) window name) here c.answer_capture.result there) c.window_ns-window_ns.ensures with_most)
