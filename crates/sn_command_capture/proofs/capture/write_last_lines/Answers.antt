use Rattle.std.proofs.Common.{ℕ, List, [], Ok, Err, subst, ◌∙◌}
use Rattle.std.proofs.lemmas.Result.{err_from_is_err_and}
use Rattle.sn_command.specs.Desks.{world}
use Rattle.sn_command.specs.Runs.{Runs}
use Rattle.sn_command.specs.Stages.{Adds}
use Rattle.sn_command.proofs.StageLemmas.{stage_stops, stage_then, gives_as}
use Rattle.sn_command_capture.proofs.StreamLemmas.{ending_may}
use Rattle.sn_command_capture.proofs.capture.write_last_lines.Goals as goal

pub returns-in_err-write_text : goal.returns-in_err-write_text
returns-in_err-write_text g c = λ closed h count.
    let p = err_from_is_err_and c.from_residual-in_err-write_text.result c.from_residual-in_err-write_text.ensures.1 in
    let text = c.as_slice.ensures ∙ c.in_ok-lines.ensures closed h count in
    let here = world g.I.Inputs g.O.Sink c.args.desk.now in
    let there = world g.I.Inputs g.O.Sink c.write_text.new.desk in
    rw (p.1, p.2) (stage_stops (subst (λ (bytes : List ℕ). Runs [] (Adds bytes) here (Err c.in_err-write_text.field-0.0) there) text c.in_err-write_text.ensures))

pub returns : goal.returns
returns g c = λ closed h count.
    let text = c.as_slice.ensures ∙ c.in_ok-lines.ensures closed h count in
    let here = world g.I.Inputs g.O.Sink c.args.desk.now in
    let there = world g.I.Inputs g.O.Sink c.write_text.new.desk in
    stage_then (subst (λ (bytes : List ℕ). Runs [] (Adds bytes) here (Ok tt) there) text c.in_ok-write_text.ensures) (gives_as _ (ending_may c.args.ending) c.end_of.ensures)
