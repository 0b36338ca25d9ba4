use Rattle.std.proofs.Common.{◌≡◌, [], ℕ, List, Result, Ok, Err, length, subst, ◌∙◌, arith}
use Rattle.std.specs.List.{AllByRecursion}
use Rattle.std.proofs.lemmas.Result.{err_from_is_err_and}
use Rattle.sn_command.proofs.StageLemmas.{file_stops, file_then, runs_chance, stage_stops, stage_then, texts_then, works_stops}
use Rattle.sn_command.specs.Desks.{world}
use Rattle.sn_command.specs.Runs.{Answers, Runs}
use Rattle.sn_command.specs.declared.fault.Fault.{Fault}
use Rattle.sn_command_captures.specs.Answered.{Answered, Shared, windows_in}
use Rattle.sn_command_captures.specs.Counted.{counted}
use Rattle.sn_command_captures.specs.declared.share.Share.{Share}
use Rattle.sn_command_many.proofs.RiseLemmas.{windows_each, windows_rise}
use Rattle.sn_command_many.proofs.SeveralLemmas.{files_stop, files_then, gives_counted}
use Rattle.sn_command_many.specs.Together.{many_wording}
use Rattle.sn_command_run.proofs.RunLemmas.{window_some}
use Rattle.sn_command_run.specs.Planned.{Planned}
use Rattle.sn_command_run.specs.Run.{planned, window_ns}
use Rattle.sn_command_texts.proofs.Verdicts.{gives_misfit}
use Rattle.sn_command_texts.specs.Queries.{queries_of}
use Rattle.sn_command_many.proofs.several.many.Goals as goal

pub returns-in_err-typed : goal.returns-in_err-typed
returns-in_err-typed g c = let p = err_from_is_err_and c.from_residual.result c.from_residual.ensures.1 in rw (p.1, p.2) (works_stops c.in_err-typed.ensures)

pub returns-in_err-limits : goal.returns-in_err-limits
returns-in_err-limits g c = let p = err_from_is_err_and c.from_residual-in_err-limits.result c.from_residual-in_err-limits.ensures.1 in rw (p.1, p.2) (texts_then c.in_ok-typed.ensures (file_stops c.in_err-limits.ensures.works.runs))

pub returns-in_err-entries : goal.returns-in_err-entries
returns-in_err-entries g c =
    let p = err_from_is_err_and c.from_residual-in_err-entries.result c.from_residual-in_err-entries.ensures.1 in
    rw (p.1, p.2) (texts_then c.in_ok-typed.ensures (file_then c.in_ok-limits.ensures.works.runs (file_stops c.in_err-entries.ensures.runs)))

pub returns-in_err-test_fit : goal.returns-in_err-test_fit
returns-in_err-test_fit g c =
    let p = err_from_is_err_and c.from_residual-in_err-test_fit.result c.from_residual-in_err-test_fit.ensures.1 in
    rw (p.1, p.2) (texts_then c.in_ok-typed.ensures (file_then c.in_ok-limits.ensures.works.runs (file_then c.in_ok-entries.ensures.runs (stage_stops (gives_misfit _ c.in_err-test_fit.ensures.verdict)))))

pub returns-in_err-captures : goal.returns-in_err-captures
returns-in_err-captures g c =
    let p = err_from_is_err_and c.from_residual-in_err-captures.result c.from_residual-in_err-captures.ensures.1 in
    rw (p.1, p.2) (texts_then c.in_ok-typed.ensures (file_then c.in_ok-limits.ensures.works.runs (file_then c.in_ok-entries.ensures.runs (stage_then (gives_misfit _ c.in_ok-test_fit.ensures.verdict) (files_stop c.in_err-captures.ensures.runs)))))

pub count-requires : goal.count-requires
count-requires g c =
    let t = c.in_ok-typed.typed in
    let some = window_some t.window_us t.queries t.typed in
    omega (arith, c.window_ns.ensures, some)

pub returns-in_err-shares : goal.returns-in_err-shares
returns-in_err-shares g c =
    let captures = c.in_ok-captures.captures in
    let window = window_ns (queries_of c.in_ok-typed.typed) in
    let there = world g.I.Inputs g.O.Sink c.read_captures.new.desk in
    let refusal = c.in_err-shares.field-0.0 in
    let judged = subst (λ (w : ℕ). Answers (λ (v : Result (List Share) Fault). v ≡ counted w captures) (Err refusal)) c.window_ns.ensures c.in_err-shares.ensures.counted in
    let p = err_from_is_err_and c.from_residual-in_err-shares.result c.from_residual-in_err-shares.ensures.1 in
    rw (p.1, p.2) (texts_then c.in_ok-typed.ensures (file_then c.in_ok-limits.ensures.works.runs (file_then c.in_ok-entries.ensures.runs (stage_then (gives_misfit _ c.in_ok-test_fit.ensures.verdict) (files_then c.in_ok-captures.ensures.runs (stage_stops (gives_counted window captures there (Err refusal) judged)))))))

pub returns-in_err-joint : goal.returns-in_err-joint
returns-in_err-joint g c =
    let captures = c.in_ok-captures.captures in
    let window = window_ns (queries_of c.in_ok-typed.typed) in
    let there = world g.I.Inputs g.O.Sink c.read_captures.new.desk in
    let shares = c.in_ok-shares.shares in
    let judged = subst (λ (w : ℕ). Answers (λ (v : Result (List Share) Fault). v ≡ counted w captures) (Ok shares)) c.window_ns.ensures c.in_ok-shares.ensures.counted in
    let p = err_from_is_err_and c.from_residual-in_err-joint.result c.from_residual-in_err-joint.ensures.1 in
    rw (p.1, p.2) (texts_then c.in_ok-typed.ensures (file_then c.in_ok-limits.ensures.works.runs (file_then c.in_ok-entries.ensures.runs (stage_then (gives_misfit _ c.in_ok-test_fit.ensures.verdict) (files_then c.in_ok-captures.ensures.runs (stage_then (gives_counted window captures there (Ok shares) judged) (runs_chance _ there)))))))

pub answer_shares-requires-clause-begun : goal.answer_shares-requires-clause-begun
answer_shares-requires-clause-begun g c =
    let shares = c.deref_mut.result.now in
    let long = c.deref_mut.ensures.len in
    let count = c.len-switches.ensures in
    c.in_ok-joint.ensures.begun (windows_in shares)
    (subst (λ (n : ℕ). AllByRecursion (λ (w : Shared). length w.1 ≡ n) (windows_in shares)) (omega (arith, long, count)) (windows_each shares)) (windows_rise shares)

pub returns : goal.returns
returns g c =
    let captures = c.in_ok-captures.captures in
    let read = queries_of c.in_ok-typed.typed in
    let window = window_ns read in
    let there = world g.I.Inputs g.O.Sink c.read_captures.new.desk in
    let last = world g.I.Inputs g.O.Sink c.answer_shares.new.desk in
    let shares = c.in_ok-shares.shares in
    let judged = subst (λ (w : ℕ). Answers (λ (v : Result (List Share) Fault). v ≡ counted w captures) (Ok shares)) c.window_ns.ensures c.in_ok-shares.ensures.counted in
    let made : Planned = planned read c.in_ok-limits.limits c.in_ok-entries.entries in
    let along = subst (λ (p : Planned). Runs [] (Answered (many_wording p) c.deref_mut.result.now) there c.answer_shares.result last) c.in_ok-joint.ensures.plan c.answer_shares.ensures in
    let answered = subst (λ (ss : List Share). Runs [] (Answered (many_wording made) ss) there c.answer_shares.result last) (c.deref_mut.ensures.value ∙ c.into_vec-shares.ensures) along in
    texts_then c.in_ok-typed.ensures (file_then c.in_ok-limits.ensures.works.runs (file_then c.in_ok-entries.ensures.runs (stage_then (gives_misfit _ c.in_ok-test_fit.ensures.verdict) (files_then c.in_ok-captures.ensures.runs (stage_then (gives_counted window captures there (Ok shares) judged) answered)))))
