use Rattle.std.proofs.Common.{ℕ, List, [], Ok, subst, ◌∙◌}
use Rattle.std.proofs.lemmas.Result.{err_from_is_err_and}
use Rattle.sn_command.specs.Desks.{world}
use Rattle.sn_command.specs.Outcomes.{Outcome}
use Rattle.sn_command.specs.Runs.{Runs}
use Rattle.sn_command.specs.Stages.{Adds}
use Rattle.sn_command.proofs.StageLemmas.{runs_chance, text_stops, text_then}
use Rattle.sn_command_search.specs.Certificates.{certificate_text}
use Rattle.sn_command_live.proofs.certify.write_certificate.Goals as goal

abbrev following : List ℕ → Outcome (Unit {0})
following text = record { text = text; end = Ok tt }

pub returns-in_err-text : goal.returns-in_err-text
returns-in_err-text g c = let p = err_from_is_err_and c.from_residual.result c.from_residual.ensures.1 in rw (p.1, p.2) (runs_chance _ _)

pub returns-in_err-write_text : goal.returns-in_err-write_text
returns-in_err-write_text g c =
    let p = err_from_is_err_and c.from_residual-in_err-write_text.result c.from_residual-in_err-write_text.ensures.1 in
    rw (p.1, p.2) (text_stops c.args.before.now (following (certificate_text c.args.certificate.now)) c.in_err-write_text.ensures)

pub returns : goal.returns
returns g c =
    let mid = world g.I.Inputs g.O.Sink c.write_text.new.desk in
    let there = world g.I.Inputs g.O.Sink c.write_text-2.new.desk in
    text_then c.args.before.now (following (certificate_text c.args.certificate.now)) c.in_ok-write_text.ensures
    (subst (λ (bytes : List ℕ). Runs [] (Adds bytes) mid c.write_text-2.result there) (c.as_slice.ensures ∙ c.in_ok-text.ensures) c.write_text-2.ensures)
