use Rattle.std.proofs.Common.{ℕ, List, [], subst, ◌∙◌}
use Rattle.std.proofs.lemmas.Result.{err_from_is_err_and}
use Rattle.sn_command.specs.Desks.{world}
use Rattle.sn_command.specs.Runs.{Runs}
use Rattle.sn_command.specs.Stages.{Adds}
use Rattle.sn_command.proofs.StageLemmas.{runs_chance}
use Rattle.sn_command_priced.proofs.write.write_priced.Goals as goal

pub returns-in_err-text : goal.returns-in_err-text
returns-in_err-text g c = let p = err_from_is_err_and c.from_residual.result c.from_residual.ensures.1 in rw (p.1, p.2) (runs_chance _ _)

pub returns : goal.returns
returns g c =
    let there = world g.I.Inputs g.O.Sink c.args.desk.now in
    let here = world g.I.Inputs g.O.Sink c.write_text.new.desk in
    subst (λ (bytes : List ℕ). Runs [] (Adds bytes) there c.write_text.result here) (c.as_slice.ensures ∙ c.in_ok-text.ensures) c.write_text.ensures
