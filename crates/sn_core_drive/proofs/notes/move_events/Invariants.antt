use Rattle.std.proofs.Common.{◌≡◌, ◌++◌, take, map}
use Rattle.sn_core_drive.specs.declared.note.Note.TheVariants.{Happened}
use Rattle.sn_core_drive.proofs.notes.move_events.Given as goal

abbrev pub invariant-loop-event : goal.invariant-loop-event
invariant-loop-event l = l.notes ≡ l.initial.notes ++ map Happened (take l.event-index l.event-items)
