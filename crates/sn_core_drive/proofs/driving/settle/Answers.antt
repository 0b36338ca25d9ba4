use Rattle.std.proofs.Common.{◌∙◌, refl, sym, subst}
use Rattle.sn_core.specs.Standing.{IsNet}
use Rattle.sn_core_net.specs.States.{Works}
use Rattle.sn_core_drive.proofs.Owing.{same_work}
use Rattle.sn_core_drive.proofs.Running.{same_leads, still_run}
use Rattle.sn_core_drive.proofs.driving.settle.Goals as goal

pub turn-requires-clause-stands : goal.turn-requires-clause-stands
turn-requires-clause-stands g c = subst (λ (w : Works). IsNet w (g.M.Machine.state c.events.machine)) (sym c.events.invariant.works) c.events.invariant.stands

pub turn-requires-clause-going : goal.turn-requires-clause-going
turn-requires-clause-going g c = sym c.is_still.ensures ∙ c.if-is_still.false

pub events-preserved : goal.events-preserved
events-preserved g c =
    let m = c.events.machine in
    let next = c.turn.new.machine in
    let start = c.args.machine.now in
    record {
      works = c.turn.ensures.works ∙ c.events.invariant.works;
      stands = subst (λ (w : Works). IsNet w (g.M.Machine.state next)) c.events.invariant.works c.in_ok-turn.ensures.stands;
      taken = c.in_ok-turn.ensures.taken;
      leads = same_leads (g.M.Machine.works m) (g.M.Machine.works start) g.M.Machine.reported g.M.Machine.reported c.args.draws.now.number c.turn.new.draws.number (g.M.Machine.state start) (g.M.Machine.state next) c.turn.new.notes
          c.events.invariant.works refl
          (c.in_ok-turn.ensures.notes c.args.draws.now.number (g.M.Machine.state start)
          (same_leads (g.M.Machine.works start) (g.M.Machine.works m) g.M.Machine.reported g.M.Machine.reported c.args.draws.now.number c.events.draws.number (g.M.Machine.state start) (g.M.Machine.state m) c.events.notes
          (sym c.events.invariant.works) refl c.events.invariant.leads));
    }

pub events-smaller : goal.events-smaller
events-smaller g c = same_work (g.M.Machine.works c.turn.new.machine) (g.M.Machine.works c.events.machine) (g.M.Machine.state c.events.machine) (g.M.Machine.state c.turn.new.machine) c.turn.ensures.works c.in_ok-turn.ensures.work

pub returns-then-is_still-clause-run : goal.returns-then-is_still-clause-run
returns-then-is_still-clause-run g c =
    let start = c.args.machine.now in
    still_run (g.M.Machine.works start) g.M.Machine.reported c.args.draws.now.number c.events.draws.number (g.M.Machine.state start) (g.M.Machine.state c.events.machine) c.events.notes c.events.invariant.leads c.events.invariant.taken
    (sym c.is_still.ensures ∙ c.if-is_still.true)
