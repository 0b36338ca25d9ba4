-- serves proofs
-- How many bytes of a file stand from an offset on.
use Rattle.std.specs.Prelude.{◌≡◌, ℕ, ◌<◌, ◌≤◌, ◌+◌, ◌^◌, nat_le, min, if◌then◌else◌, List, [], length}
use Rattle.sn_pcap.specs.declared.header.Header.{Header}
use Rattle.sn_pcap.specs.declared.packet.Ending.{Ending}
use Rattle.sn_pcap.specs.declared.packet.Ending.TheVariants.{Clean, Cut}
use Rattle.sn_pcap.specs.declared.seen.Last.{Last}
use Rattle.sn_pcap.specs.declared.seen.Seen.{Seen}
use Rattle.sn_pcap.specs.Capture.{Records, HasRecord, packet_at, most_captured}
use Rattle.sn_pcap.specs.Reading.{within, last_of, IsSeen}

-- how a file ends of which too few bytes stand from an offset on
abbrev pub short_ending : List ℕ → ℕ → Ending
short_ending file n = if nat_le (length file) n then Clean else Cut n

-- fewer bytes than are needed stand from an offset on in the first 2^40, and the capture ends so
pub record IsShort (file : List ℕ) (n need : ℕ) (last : Last) : Type 0 where
  pub few : length (within file) < n + need
  pub ends : last ≡ last_of file (short_ending (within file) n)

-- the record at an offset is whole, and this is its packet
pub record IsNextPacket (header : Header) (file : List ℕ) (n : ℕ) (seen : Seen) : Type 0 where
  pub whole : HasRecord header (within file) n
  pub is_seen : IsSeen (within file) (packet_at header (within file) n) seen

-- no record is whole from an offset on, and the capture ends so
pub record IsNextEnd (header : Header) (file : List ℕ) (n : ℕ) (last : Last) : Type 0 where
  pub ending : Ending
  pub none : Records header (within file) n [] ending
  pub ends : last ≡ last_of file ending

-- a packet is lawful, and its record ends within the most that are read
pub record IsLawful (n : ℕ) (seen : Seen) : Type 0 where
  pub lawful : seen.cap ≤ most_captured
  pub len : seen.len ≡ min seen.cap 128
  pub most : n + 16 + seen.cap ≤ 2 ^ 40
