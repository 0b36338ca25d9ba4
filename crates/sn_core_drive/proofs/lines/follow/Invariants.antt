use Rattle.std.proofs.Common.{◌≡◌, List, length}
use Rattle.sn_core.specs.declared.event.Event.{Event}
use Rattle.sn_core_drive.specs.Lines.{lines_of}
use Rattle.sn_core_drive.specs.Turns.{events_in, parted}
use Rattle.sn_core_drive.proofs.lines.follow.Given as goal

abbrev pub invariant-notes : goal.invariant-notes
invariant-notes l = (since : List Event) → l.fn.lines.items ≡ lines_of since → (more : List Event) × (l.lines.items ≡ lines_of more) × (parted since (events_in l.fn.notes) ≡ parted more (events_in l.rest))

abbrev pub decreases-notes : goal.decreases-notes
decreases-notes l = length l.rest
