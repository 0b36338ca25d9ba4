use Rattle.std.proofs.Common.{[], ◌∷◌, subst}
use Rattle.std.proofs.lemmas.Result.{err_from_is_err_and}
use Rattle.sn_command.specs.Desks.{world}
use Rattle.sn_command.specs.Runs.{Runs}
use Rattle.sn_command.proofs.StageLemmas.{file_stops, file_then, stage_stops, stage_then, texts_then, works_stops}
use Rattle.sn_command_texts.specs.Queries.{queries_of}
use Rattle.sn_command_texts.proofs.Verdicts.{gives_misfit}
use Rattle.sn_command_run.specs.declared.form.Form.{Form}
use Rattle.sn_command_run.specs.Run.{AlongIn}
use Rattle.sn_command_run.proofs.run.run.Goals as goal

pub returns-in_err-typed : goal.returns-in_err-typed
returns-in_err-typed g c = let p = err_from_is_err_and c.from_residual.result c.from_residual.ensures.1 in rw (p.1, p.2) (works_stops c.in_err-typed.ensures)

pub returns-in_err-limits : goal.returns-in_err-limits
returns-in_err-limits g c = let p = err_from_is_err_and c.from_residual-in_err-limits.result c.from_residual-in_err-limits.ensures.1 in rw (p.1, p.2) (texts_then c.in_ok-typed.ensures (file_stops c.in_err-limits.ensures.works.runs))

pub returns-in_err-entries : goal.returns-in_err-entries
returns-in_err-entries g c =
    let p = err_from_is_err_and c.from_residual-in_err-entries.result c.from_residual-in_err-entries.ensures.1 in
    rw (p.1, p.2) (texts_then c.in_ok-typed.ensures (file_then c.in_ok-limits.ensures.works.runs (file_stops c.in_err-entries.ensures.runs)))

pub returns-in_err-test_fit : goal.returns-in_err-test_fit
returns-in_err-test_fit g c =
    let p = err_from_is_err_and c.from_residual-in_err-test_fit.result c.from_residual-in_err-test_fit.ensures.1 in
    rw (p.1, p.2) (texts_then c.in_ok-typed.ensures (file_then c.in_ok-limits.ensures.works.runs (file_then c.in_ok-entries.ensures.runs (stage_stops (gives_misfit _ c.in_err-test_fit.ensures.verdict)))))

pub returns : goal.returns
returns g c =
    let name = c.args.capture.now in
    let mid = world g.I.Inputs g.O.Sink c.read_plan.new.desk in
    let there = world g.I.Inputs g.O.Sink c.answer_along.new.desk in
    let answered = subst (λ (f : Form). Runs (name ∷ []) (AlongIn f g.M.Machine.reported name (queries_of c.in_ok-typed.typed) c.in_ok-limits.limits c.in_ok-entries.entries) mid c.answer_along.result there) c.of_csv-form.ensures c.answer_along.ensures in
    texts_then c.in_ok-typed.ensures (file_then c.in_ok-limits.ensures.works.runs (file_then c.in_ok-entries.ensures.runs (stage_then (gives_misfit _ c.in_ok-test_fit.ensures.verdict) answered)))
