use Rattle.std.proofs.Common.{ℕ, List, [], ◌∷◌, Ok, Err, length, subst, arith}
use Rattle.std.specs.Prelude.{codes}
use Rattle.std.proofs.lemmas.Result.{err_from_is_err_and}
use Rattle.sn_command_capture.specs.Capture.{Answered}
use Rattle.sn_command_capture.proofs.StreamLemmas.{runs_memory}
use Rattle.sn_command_search.proofs.Verdicts.{search_may, search_once}
use Rattle.sn_cost.specs.Entries.{trained}
use Rattle.sn_command_job.specs.Summary.{summary_wording}
use Rattle.sn_command_texts.specs.Queries.{queries_of}
use Rattle.sn_command_run.specs.Planned.{Planned}
use Rattle.sn_command_run.specs.Run.{planned}
use Rattle.sn_command_run.proofs.RunLemmas.{window_some}
use Rattle.sn_command.specs.Desks.{world}
use Rattle.sn_tree_space.specs.declared.node.Node.{Node}
use Rattle.sn_command.specs.Runs.{Runs}
use Rattle.sn_command.specs.Stages.{Text}
use Rattle.sn_command.proofs.StageLemmas.{file_stops, file_then, runs_judges, stage_stops, stage_then, texts_then, works_stops}
use Rattle.sn_command_training.specs.Training.{TrainingIn}
use Rattle.sn_command_job.proofs.job.sum_up.Goals as goal

pub returns-in_err-typed : goal.returns-in_err-typed
returns-in_err-typed g c = let p = err_from_is_err_and c.from_residual.result c.from_residual.ensures.1 in rw (p.1, p.2) (works_stops c.in_err-typed.ensures)

pub returns-in_err-limits : goal.returns-in_err-limits
returns-in_err-limits g c = let p = err_from_is_err_and c.from_residual-in_err-limits.result c.from_residual-in_err-limits.ensures.1 in rw (p.1, p.2) (texts_then c.in_ok-typed.ensures (file_stops c.in_err-limits.ensures.works.runs))

pub read_training-requires : goal.read_training-requires
read_training-requires g c =
    let some = window_some c.in_ok-typed.typed.window_us c.in_ok-typed.typed.queries c.in_ok-typed.typed.typed in
    omega (arith, c.window_ns-window_ns.ensures, some)

pub answer_capture-requires-clause-window : goal.answer_capture-requires-clause-window
answer_capture-requires-clause-window g c =
    let some = window_some c.in_ok-typed.typed.window_us c.in_ok-typed.typed.queries c.in_ok-typed.typed.typed in
    omega (arith, c.window_ns-window_ns.ensures, some)

pub returns-in_err-training : goal.returns-in_err-training
returns-in_err-training g c =
    let p = err_from_is_err_and c.from_residual-in_err-training.result c.from_residual-in_err-training.ensures.1 in
    let mid = world g.I.Inputs g.O.Sink c.read_switch.new.desk in
    let there = world g.I.Inputs g.O.Sink c.read_training.new.desk in
    rw (p.1, p.2) (texts_then c.in_ok-typed.ensures (file_then c.in_ok-limits.ensures.works.runs (file_stops
    (subst (λ (window : ℕ). Runs (codes "training" ∷ []) (Text (codes "training") (TrainingIn window)) mid (Err c.in_err-training.field-0.0) there) c.window_ns-window_ns.ensures c.in_err-training.ensures.works.runs))))

pub returns-in_err-found : goal.returns-in_err-found
returns-in_err-found g c =
    let p = err_from_is_err_and c.from_residual-in_err-found.result c.from_residual-in_err-found.ensures.1 in
    let mid = world g.I.Inputs g.O.Sink c.read_switch.new.desk in
    let there = world g.I.Inputs g.O.Sink c.read_training.new.desk in
    let training = c.in_ok-training.training in
    let limits = c.in_ok-limits.limits in
    let queries = c.in_ok-typed.typed.queries in
    rw (p.1, p.2) (texts_then c.in_ok-typed.ensures (file_then c.in_ok-limits.ensures.works.runs (file_then
    (subst (λ (window : ℕ). Runs (codes "training" ∷ []) (Text (codes "training") (TrainingIn window)) mid (Ok training) there) c.window_ns-window_ns.ensures c.in_ok-training.ensures.works.runs)
    (stage_stops (runs_judges _ (search_once limits queries (trained training.numbers training.tuples) 100000) _ (search_may limits queries (trained training.numbers training.tuples) 100000) _ c.in_err-found.ensures.searched)))))

pub returns-in_err-along : goal.returns-in_err-along
returns-in_err-along g c =
    let p = err_from_is_err_and c.from_residual-in_err-along.result c.from_residual-in_err-along.ensures.1 in
    let mid = world g.I.Inputs g.O.Sink c.read_switch.new.desk in
    let there = world g.I.Inputs g.O.Sink c.read_training.new.desk in
    let training = c.in_ok-training.training in
    let limits = c.in_ok-limits.limits in
    let queries = c.in_ok-typed.typed.queries in
    rw (p.1, p.2) (texts_then c.in_ok-typed.ensures (file_then c.in_ok-limits.ensures.works.runs (file_then
    (subst (λ (window : ℕ). Runs (codes "training" ∷ []) (Text (codes "training") (TrainingIn window)) mid (Ok training) there) c.window_ns-window_ns.ensures c.in_ok-training.ensures.works.runs)
    (stage_then (runs_judges _ (search_once limits queries (trained training.numbers training.tuples) 100000) _ (search_may limits queries (trained training.numbers training.tuples) 100000) (Ok c.in_ok-found.found) c.in_ok-found.ensures.searched) (runs_memory _ _ _)))))

pub returns : goal.returns
returns g c =
    let mid = world g.I.Inputs g.O.Sink c.read_switch.new.desk in
    let there = world g.I.Inputs g.O.Sink c.read_training.new.desk in
    let following = world g.I.Inputs g.O.Sink c.answer_capture.new.desk in
    let training = c.in_ok-training.training in
    let limits = c.in_ok-limits.limits in
    let queries = c.in_ok-typed.typed.queries in
    let found = c.in_ok-found.found in
    let name : List ℕ = codes "capture" in
    let made : Planned = planned (queries_of c.in_ok-typed.typed) limits found.plan in
    let along = subst (λ (p : Planned). Runs (name ∷ []) (Answered (summary_wording g.M.Machine.reported c.args.number found.cost (length c.as_slice.result.now) p) c.window_ns-window_ns.result name) there c.answer_capture.result following) c.in_ok-along.ensures.plan c.answer_capture.ensures in
    let nodes = subst (λ (tree : List Node). Runs (name ∷ []) (Answered (summary_wording g.M.Machine.reported c.args.number found.cost (length tree) made) c.window_ns-window_ns.result name) there c.answer_capture.result following) c.as_slice.ensures along in
    let answered = subst (λ (window : ℕ). Runs (name ∷ []) (Answered (summary_wording g.M.Machine.reported c.args.number found.cost (length found.tree) made) window name) there c.answer_capture.result following) c.window_ns-window_ns.ensures nodes in
    texts_then c.in_ok-typed.ensures (file_then c.in_ok-limits.ensures.works.runs (file_then
    (subst (λ (window : ℕ). Runs (codes "training" ∷ []) (Text (codes "training") (TrainingIn window)) mid (Ok training) there) c.window_ns-window_ns.ensures c.in_ok-training.ensures.works.runs)
    (stage_then (runs_judges _ (search_once limits queries (trained training.numbers training.tuples) 100000) _ (search_may limits queries (trained training.numbers training.tuples) 100000) (Ok found) c.in_ok-found.ensures.searched) answered)))
