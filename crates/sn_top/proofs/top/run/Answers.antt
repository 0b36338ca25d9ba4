use Rattle.std.proofs.Common.{◌≡◌, ap, subst, refl}
use Rattle.std.specs.Borrow.{GName}
use Rattle.sn_cli.specs.declared.command.Command.{Command}
use Rattle.sn_cli.specs.Words.{texts}
use Rattle.sn_cli.proofs.GrammarLemmas.{spells_once}
use Rattle.sn_command.specs.Desks.{world}
use Rattle.sn_top.specs.Top.{IsWork}
use Rattle.sn_top.proofs.TopLemmas.{places_of}
use Rattle.sn_top.proofs.top.run.Goals as goal

pub returns-in-Ok-clause-works : goal.returns-in-Ok-clause-works
returns-in-Ok-clause-works g c = λ command spells.
    let same : c.in-Ok.command ≡ command = spells_once (texts c.args.given.now) c.in-Ok.command command c.in-Ok.ensures.ok spells in
    subst (λ (k : Command). IsWork g.M.Machine.reported k (texts c.args.given.now) (world g.I.Inputs g.O.Sink c.args.desk.now) c.work.result (world g.I.Inputs g.O.Sink c.work.new.desk)) same c.work.ensures

pub returns-in-Ok-clause-usage : goal.returns-in-Ok-clause-usage
returns-in-Ok-clause-usage g c = λ none. absurd (none c.in-Ok.command c.in-Ok.ensures.ok)

pub returns-in-Ok-clause-files_place : goal.returns-in-Ok-clause-files_place
returns-in-Ok-clause-files_place g c = ap (λ (places : GName × GName). places.0) (places_of g.M.Machine.reported c.in-Ok.command (texts c.args.given.now) _ _ _ c.work.ensures)

pub returns-in-Ok-clause-out_place : goal.returns-in-Ok-clause-out_place
returns-in-Ok-clause-out_place g c = ap (λ (places : GName × GName). places.1) (places_of g.M.Machine.reported c.in-Ok.command (texts c.args.given.now) _ _ _ c.work.ensures)

pub returns-in-Err-clause-works : goal.returns-in-Err-clause-works
returns-in-Err-clause-works g c = λ command spells. absurd (c.in-Err.ensures.usage refl command spells)
