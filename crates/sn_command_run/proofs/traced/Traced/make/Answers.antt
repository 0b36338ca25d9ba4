use Rattle.std.proofs.Common.{ap, sym, subst, ◌∙◌}
use Rattle.sn_emit.specs.Plans.{pieces_from}
use Rattle.sn_core_net.specs.PlanWorkings.{AreLanesFor}
use Rattle.sn_command_run.specs.Along.{plan_of}
use Rattle.sn_command_run.specs.Planned.{Planned}
use Rattle.sn_core_drive.proofs.MadeLemmas.{new_plain}
use Rattle.sn_command_run.specs.TraceWording.{works_of}
use Rattle.sn_command_run.proofs.traced.Traced.make.Goals as goal

pub returns-clause-begun : goal.returns-clause-begun
returns-clause-begun g c =
    let a = c.in_ok-along.along in
    let e = c.in_ok-along.ensures in
    let h = e.begun in
    let p : Planned = plan_of a in
    let works = e.works ∙ sym (ap (λ (q : Planned). works_of q) e.plan) in
    record {
      along = record {
        fed = record { typed_for = h.fed.typed_for; typed = h.fed.typed; entries = h.fed.entries; stands = h.fed.stands; taken = h.fed.taken; sound = h.fed.sound; owes = h.fed.owes; emitted = h.fed.emitted };
        used = h.used;
        rising = h.rising;
      };
      works = works;
      watched = record {
        lines_are = c.new-lines.ensures.items;
        number_is = sym c.from.ensures;
        state_is = sym (new_plain 64 p.queries p.tables p.entries (g.M.Machine.works a.machine) (g.M.Machine.state a.machine) works e.new
            (subst (λ (q : Planned). AreLanesFor q.queries q.tables (pieces_from 0 q.entries) (g.M.Machine.state a.machine).lanes) (sym e.plan) e.pipes));
      };
    }
