-- to be believed
-- What a training capture is judged to be.
use Rattle.std.specs.Prelude.{◌≡◌, ℕ, List, map, length, nat_lt, Result, Ok, Err, if◌then◌else◌}
use Rattle.sn_base.specs.declared.link.Link.{Link}
use Rattle.sn_pcap.specs.Capture.{head_of, Records}
use Rattle.sn_pcap.specs.declared.header.Header.{Header}
use Rattle.sn_pcap.specs.declared.header.HeadFault.{HeadFault}
use Rattle.sn_pcap.specs.declared.packet.Packet.{Packet}
use Rattle.sn_pcap.specs.declared.packet.Ending.{Ending}
use Rattle.sn_command.specs.declared.fault.Fault.{Fault}
use Rattle.sn_command.specs.declared.fault.Fault.TheVariants as faults
use Rattle.sn_windows.specs.Windows.{number_at, numbered}
use Rattle.sn_command_capture.specs.Capture.{packet_tuple, time_of}
use Rattle.sn_cost_training.specs.Trained.{Training}
use Rattle.sn_windows.specs.Blocks.{most_records}

-- the tuples of packets, in their order
abbrev pub tuples_of : Link → List ℕ → List Packet → List (List ℕ)
tuples_of link file packets = map (packet_tuple link file) packets

-- the tuples of packets, and the numbers of their windows, which have this many nanoseconds
abbrev pub training_of : ℕ → Link → List ℕ → List Packet → Training
training_of window link file packets = record { tuples = tuples_of link file packets; numbers = map number_at (numbered time_of window packets) }

-- the packets, where there are no more than may be
abbrev pub judged_records : ℕ → Link → List ℕ → List Packet → Result Training Fault
judged_records window link file packets = if nat_lt most_records (length packets) then Err faults.TooLarge else Ok (training_of window link file packets)

-- after a header: the whole records count, however they end
pub record JudgedAfter (window : ℕ) (header : Header) (file : List ℕ) (verdict : Result Training Fault) : Type 0 where
  pub packets : List Packet
  pub ending : Ending
  pub are : Records header file 24 packets ending
  pub same : verdict ≡ judged_records window header.link file packets

abbrev pub JudgedAs : ℕ → List ℕ → Result Header HeadFault → Result Training Fault → Type 0
JudgedAs window file (Ok header) verdict = JudgedAfter window header file verdict
JudgedAs window file (Err fault) verdict = verdict ≡ Err (faults.Head fault)

-- A training capture is refused for its header, and else for too many records.
abbrev pub TrainingIn : ℕ → List ℕ → Result Training Fault → Type 0
TrainingIn window file = JudgedAs window file (head_of file)
