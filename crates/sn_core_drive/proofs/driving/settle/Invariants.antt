use Rattle.std.proofs.Common.{◌≡◌, [], None}
use Rattle.sn_core.specs.Debt.{work}
use Rattle.sn_core.specs.Standing.{IsNet}
use Rattle.sn_core_drive.specs.Schedules.{Leads}
use Rattle.sn_core_drive.proofs.driving.settle.Given as goal

abbrev pub invariant-events : goal.invariant-events
invariant-events g l = record {
  works : g.M.Machine.works l.machine ≡ g.M.Machine.works l.initial.machine;
  stands : IsNet (g.M.Machine.works l.initial.machine) (g.M.Machine.state l.machine);
  taken : (g.M.Machine.state l.machine).waiting ≡ None;
  leads : Leads (g.M.Machine.works l.initial.machine) g.M.Machine.reported l.initial.draws.number (g.M.Machine.state l.initial.machine) l.notes l.draws.number (g.M.Machine.state l.machine);
}

abbrev pub decreases-events : goal.decreases-events
decreases-events g l = work (g.M.Machine.works l.machine) (g.M.Machine.state l.machine) []
