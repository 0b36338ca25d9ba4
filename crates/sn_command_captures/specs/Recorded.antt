-- to be believed
-- What contracts see of a capture that was read whole, and of what a switch saw.
use Rattle.std.specs.Prelude.{ℕ, List}
use Rattle.sn_base.specs.declared.link.Link.{Link}
use Rattle.sn_command_capture.specs.Capture.{packet_tuple}
use Rattle.sn_pcap.specs.declared.packet.Packet.{Packet}
use Rattle.sn_pcap.specs.declared.packet.Ending.{Ending}

-- a capture: what stands at the front of its packets, its bytes, the packets of its whole records, and how they end
pub record Recorded : Type 0 where
  pub link : Link
  pub file : List ℕ
  pub packets : List Packet
  pub ending : Ending

-- a packet with the number of its window, as its tuple
abbrev pub shown : Link → List ℕ → ℕ × Packet → ℕ × List ℕ
shown link file p = (p.0, packet_tuple link file p.1)

-- what is left of a capture: the tuples of the records that weren't taken, each with the number of its window, and how the records end
pub record Untaken : Type 0 where
  pub records : List (ℕ × List ℕ)
  pub ending : Ending
