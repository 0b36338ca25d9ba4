-- to be believed
-- The lines of events.
use Rattle.std.specs.Prelude.{ℕ, List, [], ◌∷◌, ◌++◌, codes}
use Rattle.std.specs.Fmt.{decimal}
use Rattle.std.specs.List.{flat_map}
use Rattle.sn_core.specs.declared.event.Event.{Event}
use Rattle.sn_core.specs.declared.event.Event.TheVariants.{Packet, ReadOut, Deliver, CloseWindow, Install}
use Rattle.sn_core_drive.specs.declared.note.Note.{Note}
use Rattle.sn_core_drive.specs.Turns.{events_in}

unfoldable pub packet_words : List ℕ
packet_words = codes "event packet"

unfoldable pub read_words : List ℕ
read_words = codes "event read "

unfoldable pub deliver_words : List ℕ
deliver_words = codes "event deliver "

unfoldable pub close_words : List ℕ
close_words = codes "event close"

unfoldable pub install_words : List ℕ
install_words = codes "event install"

-- what an event is called: one of a lane with the lane's number
abbrev pub event_words : Event → List ℕ
event_words Packet = packet_words
event_words (ReadOut lane) = read_words ++ decimal lane
event_words (Deliver lane) = deliver_words ++ decimal lane
event_words CloseWindow = close_words
event_words Install = install_words

-- on a line of its own
abbrev pub event_line : Event → List ℕ
event_line event = event_words event ++ 10 ∷ []

abbrev pub lines_of : List Event → List ℕ
lines_of events = flat_map event_line events

-- the line of a note, which answers don't have
abbrev pub note_lines : Note → List ℕ
note_lines note = lines_of (events_in (note ∷ []))
