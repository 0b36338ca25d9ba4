use Rattle.std.proofs.Common.{ℕ, List, [], ap, subst, ◌∙◌}
use Rattle.std.proofs.lemmas.Result.{err_from_is_err_and}
use Rattle.sn_gen.specs.Generated.{capture_bytes}
use Rattle.sn_command.specs.Desks.{world}
use Rattle.sn_command.specs.Runs.{Runs}
use Rattle.sn_command.specs.Stages.{Adds}
use Rattle.sn_command.proofs.StageLemmas.{runs_any, runs_chance, works_alone}
use Rattle.sn_command_job.proofs.generate.generate.Goals as goal

pub returns-in_err-file : goal.returns-in_err-file
returns-in_err-file g c = let p = err_from_is_err_and c.from_residual.result c.from_residual.ensures.1 in rw (p.1, p.2) (works_alone (runs_any (runs_chance _ _)))

pub returns : goal.returns
returns g c =
    let here = world g.I.Inputs g.O.Sink c.args.desk.now in
    let there = world g.I.Inputs g.O.Sink c.write_text.new.desk in
    works_alone (runs_any (subst (λ (bytes : List ℕ). Runs [] (Adds bytes) here c.write_text.result there) (c.as_slice.ensures ∙ c.in_ok-file.ensures.bytes ∙ ap capture_bytes c.from.ensures) c.write_text.ensures))
