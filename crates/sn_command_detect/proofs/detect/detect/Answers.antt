use Rattle.std.proofs.Common.{ℕ, List, [], ◌∷◌, subst, arith}
use Rattle.std.proofs.lemmas.Result.{err_from_is_err_and}
use Rattle.sn_command.specs.Desks.{world}
use Rattle.sn_command.specs.Runs.{Runs}
use Rattle.sn_command.proofs.StageLemmas.{file_stops, file_then, stage_stops, stage_then, works_stops, works_then}
use Rattle.sn_command_capture.proofs.StreamLemmas.{runs_memory}
use Rattle.sn_command_capture.specs.Capture.{Answered}
use Rattle.sn_command_texts.proofs.Verdicts.{gives_misfit}
use Rattle.sn_plan_grammar.specs.declared.plan.Entry.{Entry}
use Rattle.sn_types.specs.declared.typed_query.TypedQuery.{TypedQuery}
use Rattle.sn_command_detect.specs.Detected.{detect_wording}
use Rattle.sn_command_detect.proofs.DetectLemmas.{window_some}
use Rattle.sn_command_detect.proofs.detect.detect.Goals as goal

pub returns-in_err-typed : goal.returns-in_err-typed
returns-in_err-typed g c = let p = err_from_is_err_and c.from_residual.result c.from_residual.ensures.1 in rw (p.1, p.2) (works_stops c.in_err-typed.ensures)

pub returns-in_err-chosen : goal.returns-in_err-chosen
returns-in_err-chosen g c = let p = err_from_is_err_and c.from_residual-in_err-chosen.result c.from_residual-in_err-chosen.ensures.1 in rw (p.1, p.2) (works_then c.in_ok-typed.ensures (file_stops c.in_err-chosen.ensures.runs))

pub returns-in_err-test_shape : goal.returns-in_err-test_shape
returns-in_err-test_shape g c =
    let p = err_from_is_err_and c.from_residual-in_err-test_shape.result c.from_residual-in_err-test_shape.ensures.1 in
    rw (p.1, p.2) (works_then c.in_ok-typed.ensures (file_then c.in_ok-chosen.ensures.runs (stage_stops (gives_misfit _ c.in_err-test_shape.ensures.verdict))))

pub returns-in_err-watch : goal.returns-in_err-watch
returns-in_err-watch g c =
    let p = err_from_is_err_and c.from_residual-in_err-watch.result c.from_residual-in_err-watch.ensures.1 in
    rw (p.1, p.2) (works_then c.in_ok-typed.ensures (file_then c.in_ok-chosen.ensures.runs (stage_then (gives_misfit _ c.in_ok-test_shape.ensures.verdict) (runs_memory _ _ _))))

pub answer_capture-requires-clause-window : goal.answer_capture-requires-clause-window
answer_capture-requires-clause-window g c =
    let some = window_some c.in_ok-typed.typed.window_us c.in_ok-typed.typed.queries c.in_ok-typed.typed.typed in
    omega (arith, c.window_ns-window_ns.ensures, some)

pub returns : goal.returns
returns g c =
    let name = c.args.capture.now in
    let mid = world g.I.Inputs g.O.Sink c.read_plan.new.desk in
    let there = world g.I.Inputs g.O.Sink c.answer_capture.new.desk in
    let queries = c.in_ok-typed.typed.queries in
    let entries = c.in_ok-chosen.chosen.entries in
    let e = c.in_ok-watch.ensures in
    let by_queries = subst (λ (qs : List TypedQuery). Runs (name ∷ []) (Answered (detect_wording qs c.in_ok-watch.watch.plan.entries) c.window_ns-window_ns.result name) mid c.answer_capture.result there) e.queries c.answer_capture.ensures in
    let by_entries = subst (λ (es : List Entry). Runs (name ∷ []) (Answered (detect_wording queries es) c.window_ns-window_ns.result name) mid c.answer_capture.result there) e.entries by_queries in
    let answered = subst (λ (window : ℕ). Runs (name ∷ []) (Answered (detect_wording queries entries) window name) mid c.answer_capture.result there) c.window_ns-window_ns.ensures by_entries in
    works_then c.in_ok-typed.ensures (file_then c.in_ok-chosen.ensures.runs (stage_then (gives_misfit _ c.in_ok-test_shape.ensures.verdict) answered))
