use Rattle.std.proofs.Common.{ℕ, List, [], subst, ◌∙◌, arith}
use Rattle.std.proofs.lemmas.Result.{err_from_is_err_and}
use Rattle.sn_command.specs.Desks.{world}
use Rattle.sn_command.specs.Runs.{Runs}
use Rattle.sn_command.specs.Stages.{Adds}
use Rattle.sn_command.proofs.StageLemmas.{file_stops, file_then, runs_chance, texts_then, works_stops}
use Rattle.sonata_entries.proofs.CallLemmas.{in_windows, window_some}
use Rattle.sonata_entries.proofs.entries.write_entries.Goals as goal

pub returns-in_err-typed : goal.returns-in_err-typed
returns-in_err-typed g c = let p = err_from_is_err_and c.from_residual.result c.from_residual.ensures.1 in rw (p.1, p.2) (works_stops c.in_err-typed.ensures)

pub returns-in_err-limits : goal.returns-in_err-limits
returns-in_err-limits g c =
    let p = err_from_is_err_and c.from_residual-in_err-limits.result c.from_residual-in_err-limits.ensures.1 in rw (p.1, p.2) (texts_then c.in_ok-typed.ensures (file_stops c.in_err-limits.ensures.works.runs))

pub read_training-requires : goal.read_training-requires
read_training-requires g c =
    let some = window_some c.in_ok-typed.typed.window_us c.in_ok-typed.typed.queries c.in_ok-typed.typed.typed in
    omega (arith, c.window_ns.ensures, some)

pub returns-in_err-training : goal.returns-in_err-training
returns-in_err-training g c =
    let p = err_from_is_err_and c.from_residual-in_err-training.result c.from_residual-in_err-training.ensures.1 in
    rw (p.1, p.2) (texts_then c.in_ok-typed.ensures (file_then c.in_ok-limits.ensures.works.runs (file_stops (in_windows c.args.train.now c.window_ns.ensures c.in_err-training.ensures.works.runs))))

pub returns-in_err-text : goal.returns-in_err-text
returns-in_err-text g c =
    let p = err_from_is_err_and c.from_residual-in_err-text.result c.from_residual-in_err-text.ensures.1 in
    rw (p.1, p.2) (texts_then c.in_ok-typed.ensures (file_then c.in_ok-limits.ensures.works.runs (file_then (in_windows c.args.train.now c.window_ns.ensures c.in_ok-training.ensures.works.runs) (runs_chance _ _))))

pub returns : goal.returns
returns g c =
    let mid = world g.I.Inputs g.O.Sink c.read_training.new.desk in
    let there = world g.I.Inputs g.O.Sink c.write_text.new.desk in
    texts_then c.in_ok-typed.ensures (file_then c.in_ok-limits.ensures.works.runs (file_then (in_windows c.args.train.now c.window_ns.ensures c.in_ok-training.ensures.works.runs)
    (subst (λ (bytes : List ℕ). Runs [] (Adds bytes) mid c.write_text.result there) (c.as_slice.ensures ∙ c.in_ok-text.ensures) c.write_text.ensures)))
