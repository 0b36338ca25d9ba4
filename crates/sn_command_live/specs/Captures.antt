-- to be believed
-- Files, and captures as the lists of their windows.
use Rattle.std.specs.Prelude.{◌≡◌, ℕ, ◌≤◌, List, length, Ok, Some}
use Rattle.std.specs.FinMap.{get}
use Rattle.sn_command_capture.specs.Capture.{packet_tuple, time_of, windows_in}
use Rattle.sn_windows.specs.Rising.{Window}
use Rattle.sn_io.specs.Counts.{ByName}
use Rattle.sn_pcap.specs.Capture.{head_of, Records}
use Rattle.sn_pcap.specs.declared.header.Header.{Header}
use Rattle.sn_pcap.specs.declared.packet.Packet.{Packet}
use Rattle.sn_pcap.specs.declared.packet.Ending.{Ending}
use Rattle.sn_pcap.specs.Reading.{within}
use Rattle.sn_windows.specs.Windows.{numbered}

-- A file is a capture with these windows of this many nanoseconds: its header is accepted, its whole records end so, and the windows are those that hold
-- a record, each with the tuples of its packets.
pub record IsCapture (window : ℕ) (file : List ℕ) (windows : List Window) (ending : Ending) : Type 0 where
  pub header : Header
  pub accepted : head_of file ≡ Ok header
  pub packets : List Packet
  pub records : Records header (within file) 24 packets ending
  pub are : windows ≡ windows_in (packet_tuple header.link (within file)) (numbered time_of window packets)

-- a file holds these bytes, at most this many
pub record IsHeld (files : ByName (List ℕ)) (name : List ℕ) (most : ℕ) (bytes : List ℕ) : Type 0 where
  pub is : get files name ≡ Some bytes
  pub few : length bytes ≤ most
