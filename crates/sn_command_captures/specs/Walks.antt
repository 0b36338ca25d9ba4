-- serves proofs
-- The records of a capture, found in its bytes one after another.
use Rattle.std.specs.Prelude.{◌≡◌, ℕ, List, [], ◌∷◌, Bool, true, ◌&&◌, map, nat_lt}
use Rattle.sn_command_capture.specs.Capture.{time_of}
use Rattle.sn_command_captures.specs.Recorded.{Recorded, Untaken, shown}
use Rattle.sn_pcap.proofs.OneCapture.{records_some}
use Rattle.sn_pcap.specs.Capture.{HasRecord, packet_at}
use Rattle.sn_pcap.specs.declared.header.Header.{Header}
use Rattle.sn_pcap.specs.declared.packet.Packet.{Packet}
use Rattle.sn_pcap.specs.declared.packet.Ending.{Ending}
use Rattle.sn_windows.specs.Blocks.{most_records}
use Rattle.sn_windows.specs.Numbering.{Numbering, next_count, next_number, numbered_from, stepped}

-- the packets of the records from an offset on
abbrev pub packets_from : Header → List ℕ → ℕ → List Packet
packets_from header file at = (records_some header file at).packets

-- how those records end
abbrev pub ending_from : Header → List ℕ → ℕ → Ending
ending_from header file at = (records_some header file at).ending

-- the capture of these bytes, which have this header
abbrev pub recorded : Header → List ℕ → Recorded
recorded header file = record { link = header.link; file = file; packets = packets_from header file 24; ending = ending_from header file 24 }

-- whether none of these packets comes to a window that has as many records as it may
abbrev pub are_few : Numbering → List Packet → Bool
are_few s [] = true
are_few s (p ∷ ps) = nat_lt (next_count s p.time) most_records && are_few (stepped s p.time) ps

-- what is left of a capture from an offset on, after records whose windows stand so
abbrev pub untaken : Header → List ℕ → Numbering → ℕ → Untaken
untaken header file s at = record { records = map (shown header.link file) (numbered_from time_of s (packets_from header file at)); ending = ending_from header file at }

-- the record at an offset is whole; this is its packet, and this the number of its window, after records whose windows stand so
pub record IsNextRecord (header : Header) (file : List ℕ) (at : ℕ) (s : Numbering) (number : ℕ) (packet : Packet) (next : Numbering) : Type 0 where
  pub whole : HasRecord header file at
  pub is : packet ≡ packet_at header file at
  pub number_is : number ≡ next_number s packet.time
  pub next_is : next ≡ stepped s packet.time
