use Rattle.std.proofs.Common.{Ok, arith}
use Rattle.std.proofs.lemmas.Result.{err_from_is_err_and}
use Rattle.sn_command.proofs.StageLemmas.{file_stops, file_then, runs_gives, texts_then, works_stops}
use Rattle.sn_command_live.proofs.WorkLemmas.{in_windows}
use Rattle.sn_command_run.proofs.RunLemmas.{window_some}
use Rattle.sn_command_texts.specs.Queries.{queries_of}
use Rattle.sn_command_priced.proofs.read.read_asked.Goals as goal

pub returns-in_err-typed-clause-works : goal.returns-in_err-typed-clause-works
returns-in_err-typed-clause-works g c = let p = err_from_is_err_and c.from_residual.result c.from_residual.ensures.1 in rw (p.1, p.2) (works_stops c.in_err-typed.ensures)

pub returns-in_err-limits-clause-works : goal.returns-in_err-limits-clause-works
returns-in_err-limits-clause-works g c =
    let p = err_from_is_err_and c.from_residual-in_err-limits.result c.from_residual-in_err-limits.ensures.1 in rw (p.1, p.2) (texts_then c.in_ok-typed.ensures (file_stops c.in_err-limits.ensures.works.runs))

pub read_training-requires : goal.read_training-requires
read_training-requires g c =
    let some = window_some c.in_ok-typed.typed.window_us c.in_ok-typed.typed.queries c.in_ok-typed.typed.typed in
    omega (arith, c.window_ns.ensures, some)

pub returns-in_err-training-clause-works : goal.returns-in_err-training-clause-works
returns-in_err-training-clause-works g c =
    let p = err_from_is_err_and c.from_residual-in_err-training.result c.from_residual-in_err-training.ensures.1 in
    rw (p.1, p.2) (texts_then c.in_ok-typed.ensures (file_then c.in_ok-limits.ensures.works.runs (file_stops (in_windows c.args.train.now c.window_ns.ensures c.in_err-training.ensures.works.runs))))

pub returns-clause-works : goal.returns-clause-works
returns-clause-works g c =
    texts_then c.in_ok-typed.ensures (file_then c.in_ok-limits.ensures.works.runs (file_then (in_windows c.args.train.now c.window_ns.ensures c.in_ok-training.ensures.works.runs)
    (runs_gives (Ok (record { read = queries_of c.in_ok-typed.typed; limits = c.in_ok-limits.limits; training = c.in_ok-training.training })) _ tt)))
