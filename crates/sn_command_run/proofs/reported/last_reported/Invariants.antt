use Rattle.std.proofs.Common.{◌≡◌, None, length}
use Rattle.sn_core_drive.specs.Schedules.{answers_in}
use Rattle.sn_engine_lockstep.specs.Known.{last_from}
use Rattle.sn_command_run.proofs.reported.last_reported.Given as goal

abbrev pub invariant-notes : goal.invariant-notes
invariant-notes l = last_from None (answers_in l.notes) ≡ last_from None (answers_in l.initial.notes)

abbrev pub decreases-notes : goal.decreases-notes
decreases-notes l = length l.notes
