-- to be believed
-- The windows of several captures.
use Rattle.std.specs.Prelude.{ℕ, List, Bool, map, take}
use Rattle.std.specs.List.{flat_map, list_all}
use Rattle.sn_command_capture.specs.Capture.{time_of}
use Rattle.sn_command_captures.specs.declared.capture.Capture.{Capture}
use Rattle.sn_pcap.specs.declared.packet.Packet.{Packet}
use Rattle.sn_windows.specs.Blocks.{all_few}
use Rattle.sn_windows_together.specs.Since.{least, numbered_since}

-- the time of a capture's first record, if it has one
abbrev pub first_time : Capture → List ℕ
first_time c = map time_of (take 1 c.packets)

-- when window 0 begins: at the least of the captures' first times
abbrev pub start_of : List Capture → ℕ
start_of captures = least (flat_map first_time captures)

-- the records of a capture, each with its number
abbrev pub records_since : ℕ → ℕ → Capture → List (ℕ × Packet)
records_since window start c = numbered_since time_of window start c.packets

-- whether no window of one capture has too many records
abbrev pub none_full : ℕ → List Capture → Bool
none_full window captures = list_all (λ c. all_few (records_since window (start_of captures) c)) captures
