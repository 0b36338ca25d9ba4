use Rattle.std.proofs.Common.{ℕ, refl, sym, subst}
use Rattle.sn_gen.specs.Generated.{next_number}
use Rattle.sn_core_drive.specs.Schedules.{Leads}
use Rattle.sn_core_drive.proofs.Owing.{turn_net, turn_work}
use Rattle.sn_core_drive.proofs.Running.{event_leads, same_leads}
use Rattle.sn_core_drive.proofs.driving.turn.Goals as goal

pub returns-clause-notes : goal.returns-clause-notes
returns-clause-notes g c = λ x s leads.
    let m = c.args.machine.now in
    let one = c.happen.new.machine in
    let two = c.gather.new.machine in
    let here = event_leads (g.M.Machine.works m) g.M.Machine.reported x c.args.draws.now.number s (g.M.Machine.state m) (g.M.Machine.state one) c.args.notes.now c.happen.new.notes c.pick-event.result
    leads c.requires.taken c.requires.going c.pick-event.ensures.picked c.in_ok-happen.ensures.after c.in_ok-happen.ensures.notes in
    let there = same_leads (g.M.Machine.works m) (g.M.Machine.works one) g.M.Machine.reported g.M.Machine.reported x (next_number c.args.draws.now.number) s (g.M.Machine.state one) c.happen.new.notes
    (sym c.happen.ensures.works) refl here in
    let back = same_leads (g.M.Machine.works one) (g.M.Machine.works m) g.M.Machine.reported g.M.Machine.reported x (next_number c.args.draws.now.number) s (g.M.Machine.state two) c.gather.new.notes
    c.happen.ensures.works refl (c.in_ok-gather.ensures.notes x (next_number c.args.draws.now.number) s there) in
    subst (λ (y : ℕ). Leads (g.M.Machine.works m) g.M.Machine.reported x s c.gather.new.notes y (g.M.Machine.state two)) (sym c.pick-event.ensures.draws) back

pub returns-clause-work : goal.returns-clause-work
returns-clause-work g c =
    let m = c.args.machine.now in
    turn_work (g.M.Machine.works m) (g.met.M.Machine.lawful m) (g.M.Machine.state m) (g.M.Machine.state c.happen.new.machine) (g.M.Machine.state c.gather.new.machine) c.pick-event.result
    c.requires.stands c.pick-event.ensures.may c.in_ok-happen.ensures.after c.gather.ensures.rest

pub returns-clause-stands : goal.returns-clause-stands
returns-clause-stands g c =
    let m = c.args.machine.now in
    turn_net (g.M.Machine.works m) (g.met.M.Machine.lawful m) (g.M.Machine.state m) (g.M.Machine.state c.happen.new.machine) (g.M.Machine.state c.gather.new.machine) c.pick-event.result
    c.requires.stands c.pick-event.ensures.may c.in_ok-happen.ensures.after c.gather.ensures.rest
