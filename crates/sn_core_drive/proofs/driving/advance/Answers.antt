use Rattle.std.proofs.Common.{◌∙◌, refl, ap, subst}
use Rattle.sn_core.specs.Events.{given}
use Rattle.sn_core.specs.Standing.{IsNet}
use Rattle.sn_core_net.specs.States.{State, Works}
use Rattle.sn_core_drive.proofs.After.{run_after}
use Rattle.sn_core_drive.proofs.Owing.{given_net}
use Rattle.sn_core_drive.proofs.Running.{same_run, supplied_due}
use Rattle.sn_core_drive.proofs.driving.advance.Goals as goal

pub settle-requires-clause-stands : goal.settle-requires-clause-stands
settle-requires-clause-stands g c =
    let m = c.args.machine.now in
    let one = c.give.new.self in
    given_net (g.M.Machine.works m) (g.M.Machine.works one) (g.met.M.Machine.lawful m) (g.M.Machine.state m) (g.M.Machine.state one) c.args.next c.give.ensures.works c.give.ensures.state c.requires.stands c.requires.wants c.requires.rises

pub settle-requires-clause-taken : goal.settle-requires-clause-taken
settle-requires-clause-taken g c = ap (λ (s : State). s.waiting) c.give.ensures.state ∙ c.requires.taken

pub returns-clause-run : goal.returns-clause-run
returns-clause-run g c =
    let m = c.args.machine.now in
    let one = c.give.new.self in
    same_run (g.M.Machine.works one) (g.M.Machine.works m) g.M.Machine.reported g.M.Machine.reported c.args.draws.now.number c.settle.new.draws.number (given (g.M.Machine.state m) c.args.next) (g.M.Machine.state one)
    (g.M.Machine.state c.settle.new.machine) c.in_ok-notes.notes c.give.ensures.works refl c.give.ensures.state c.in_ok-notes.ensures.run

pub returns-clause-due : goal.returns-clause-due
returns-clause-due g c = λ following.
    let m = c.args.machine.now in
    let one = c.give.new.self in
    let s = g.M.Machine.state m in
    let two = g.M.Machine.state c.settle.new.machine in
    let stands : IsNet (g.M.Machine.works m) (given s c.args.next) = given_net (g.M.Machine.works m) (g.M.Machine.works m) (g.met.M.Machine.lawful m) s (given s c.args.next) c.args.next refl refl c.requires.stands c.requires.wants c.requires.rises in
    supplied_due (g.M.Machine.works m) (g.met.M.Machine.lawful m) g.M.Machine.reported c.args.draws.now.number s c.args.next c.in_ok-notes.notes c.settle.new.draws.number two following c.requires.stands c.requires.wants stands
    (same_run (g.M.Machine.works one) (g.M.Machine.works m) g.M.Machine.reported g.M.Machine.reported c.args.draws.now.number c.settle.new.draws.number (given s c.args.next) (g.M.Machine.state one) two c.in_ok-notes.notes
    c.give.ensures.works refl c.give.ensures.state c.in_ok-notes.ensures.run)

pub returns-clause-stands : goal.returns-clause-stands
returns-clause-stands g c = subst (λ (w : Works). IsNet w (g.M.Machine.state c.settle.new.machine)) c.give.ensures.works c.in_ok-notes.ensures.stands

pub returns-clause-afterwards : goal.returns-clause-afterwards
returns-clause-afterwards g c =
    let m = c.args.machine.now in
    let one = c.give.new.self in
    run_after (g.M.Machine.works m) g.M.Machine.reported c.args.draws.now.number (g.M.Machine.state m) c.args.next c.in_ok-notes.notes c.settle.new.draws.number (g.M.Machine.state c.settle.new.machine)
    (same_run (g.M.Machine.works one) (g.M.Machine.works m) g.M.Machine.reported g.M.Machine.reported c.args.draws.now.number c.settle.new.draws.number (given (g.M.Machine.state m) c.args.next) (g.M.Machine.state one)
    (g.M.Machine.state c.settle.new.machine) c.in_ok-notes.notes c.give.ensures.works refl c.give.ensures.state c.in_ok-notes.ensures.run)
