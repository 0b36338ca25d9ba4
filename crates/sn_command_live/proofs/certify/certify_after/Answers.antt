use Rattle.std.proofs.Common.{arith}
use Rattle.std.proofs.lemmas.Result.{err_from_is_err_and}
use Rattle.sn_command_texts.specs.Queries.{queries_of}
use Rattle.sn_command_run.proofs.RunLemmas.{window_some}
use Rattle.sn_command.proofs.StageLemmas.{file_stops, file_then, texts_then, works_stops}
use Rattle.sn_command_live.proofs.WorkLemmas.{in_windows, search_stops, search_then}
use Rattle.sn_command_live.proofs.certify.certify_after.Goals as goal

pub returns-in_err-typed-clause-works : goal.returns-in_err-typed-clause-works
returns-in_err-typed-clause-works g c = let p = err_from_is_err_and c.from_residual.result c.from_residual.ensures.1 in rw (p.1, p.2) (works_stops c.in_err-typed.ensures)

pub returns-in_err-limits-clause-works : goal.returns-in_err-limits-clause-works
returns-in_err-limits-clause-works g c =
    let p = err_from_is_err_and c.from_residual-in_err-limits.result c.from_residual-in_err-limits.ensures.1 in rw (p.1, p.2) (texts_then c.in_ok-typed.ensures (file_stops c.in_err-limits.ensures.works.runs))

pub read_training-requires : goal.read_training-requires
read_training-requires g c =
    let some = window_some c.in_ok-typed.typed.window_us c.in_ok-typed.typed.queries c.in_ok-typed.typed.typed in
    omega (arith, c.window_ns.ensures, some)

pub returns-in_err-training-clause-works : goal.returns-in_err-training-clause-works
returns-in_err-training-clause-works g c =
    let p = err_from_is_err_and c.from_residual-in_err-training.result c.from_residual-in_err-training.ensures.1 in
    rw (p.1, p.2) (texts_then c.in_ok-typed.ensures (file_then c.in_ok-limits.ensures.works.runs (file_stops (in_windows c.args.train.now c.window_ns.ensures c.in_err-training.ensures.works.runs))))

pub returns-in_err-certificate-clause-works : goal.returns-in_err-certificate-clause-works
returns-in_err-certificate-clause-works g c =
    let p = err_from_is_err_and c.from_residual-in_err-certificate.result c.from_residual-in_err-certificate.ensures.1 in
    rw (p.1, p.2) (texts_then c.in_ok-typed.ensures (file_then c.in_ok-limits.ensures.works.runs (file_then (in_windows c.args.train.now c.window_ns.ensures c.in_ok-training.ensures.works.runs)
    (search_stops c.args.before.now (queries_of c.in_ok-typed.typed) c.in_ok-limits.limits c.in_ok-training.training c.args.nodes c.in_err-certificate.ensures.searched))))

pub returns-in_err-write_certificate-clause-works : goal.returns-in_err-write_certificate-clause-works
returns-in_err-write_certificate-clause-works g c =
    let p = err_from_is_err_and c.from_residual-in_err-write_certificate.result c.from_residual-in_err-write_certificate.ensures.1 in
    rw (p.1, p.2) (texts_then c.in_ok-typed.ensures (file_then c.in_ok-limits.ensures.works.runs (file_then (in_windows c.args.train.now c.window_ns.ensures c.in_ok-training.ensures.works.runs)
    (search_then c.args.before.now (queries_of c.in_ok-typed.typed) c.in_ok-limits.limits c.in_ok-training.training c.args.nodes c.in_ok-certificate.certificate c.in_ok-certificate.ensures.searched c.in_err-write_certificate.ensures))))

pub returns-clause-works : goal.returns-clause-works
returns-clause-works g c =
    texts_then c.in_ok-typed.ensures (file_then c.in_ok-limits.ensures.works.runs (file_then (in_windows c.args.train.now c.window_ns.ensures c.in_ok-training.ensures.works.runs)
    (search_then c.args.before.now (queries_of c.in_ok-typed.typed) c.in_ok-limits.limits c.in_ok-training.training c.args.nodes c.in_ok-certificate.certificate c.in_ok-certificate.ensures.searched c.in_ok-write_certificate.ensures)))
