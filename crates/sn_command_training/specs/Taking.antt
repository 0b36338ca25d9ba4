-- serves proofs
-- What is kept of a training capture while it is taken piece by piece.
use Rattle.std.specs.Prelude.{◌≡◌, ℕ, ◌<◌, ◌≤◌, ◌-◌, List, [], ◌++◌, length, map, take, drop, Result, Ok, Err}
use Rattle.sn_pcap.specs.Capture.{Records, head_of}
use Rattle.sn_pcap.specs.declared.header.Header.{Header}
use Rattle.sn_pcap.specs.declared.packet.Packet.{Packet}
use Rattle.sn_pcap.specs.declared.packet.Ending.{Ending}
use Rattle.sn_pcap.specs.declared.packet.Ending.TheVariants.{Clean, Cut, Bad}
use Rattle.sn_command.specs.declared.fault.Fault.TheVariants as faults
use Rattle.sn_command.specs.declared.refusal.Refusal.{Refusal}
use Rattle.sn_command.specs.declared.refusal.Refusal.TheVariants.{Memory, Refused}
use Rattle.sn_cost_training.specs.Trained.{Training}
use Rattle.sn_command_training.specs.declared.collected.Collected.{Collected}
use Rattle.sn_command_training.specs.declared.taking.Taking.{Taking}
use Rattle.sn_command_training.specs.declared.taking.Found.{Found}
use Rattle.sn_command_training.specs.declared.taking.Found.TheVariants as found
use Rattle.sn_command_training.specs.Collecting.{HasCollected, IsCollected, shown}
use Rattle.sn_command_training.specs.Training.{TrainingIn}

-- where the whole records of some bytes end
abbrev pub end_at : List ℕ → Ending → ℕ
end_at bytes Clean = length bytes
end_at bytes (Cut n) = n
end_at bytes (Bad n) = n

-- records stand from an offset on, and no packet of them is whole
pub record HasEnd (header : Header) (file : List ℕ) (offset : ℕ) : Type 0 where
  pub ending : Ending
  pub none : Records header file offset [] ending

-- Up to a place of a file the header and some packets were taken, which end at an offset. The header and the bytes from there on are held.
pub record TakesRecords (window : ℕ) (file : List ℕ) (place : ℕ) (header : Header) (held : List ℕ) (collected : Collected) : Type 0 where
  pub within : place ≤ length file
  pub is_header : head_of file ≡ Ok header
  pub packets : List Packet
  pub offset : ℕ
  pub begins : 24 ≤ offset
  pub reaches : offset ≤ place
  pub holds : held ≡ take 24 file ++ take (place - offset) (drop offset file)
  pub front : (rest : List Packet) (ending : Ending) → Records header file offset rest ending → Records header file 24 (packets ++ rest) ending
  pub collects : IsCollected window (map (shown header.link file) packets) collected

-- the packets of a file were taken to their end
pub record TakesAll (window : ℕ) (file : List ℕ) (collected : Collected) : Type 0 where
  pub header : Header
  pub is_header : head_of file ≡ Ok header
  pub packets : List Packet
  pub ending : Ending
  pub are : Records header file 24 packets ending
  pub collects : IsCollected window (map (shown header.link file) packets) collected

-- What was found up to a place of a file. At the end of the file no packet is whole of those that stand there.
abbrev pub IsTakenAs : ℕ → List ℕ → ℕ → Found → List ℕ → Collected → Type 0
IsTakenAs window file place found.Nothing held collected = (place ≤ length file) × (place < 24) × (held ≡ take place file) × IsCollected window [] collected
IsTakenAs window file place (found.Header header) held collected =
    (takes : TakesRecords window file place header held collected) × (length file ≤ place → HasEnd header file takes.offset)
IsTakenAs window file place found.End held collected = TakesAll window file collected
IsTakenAs window file place (found.HeadFault fault) held collected = TrainingIn window file (Err (faults.Head fault))
IsTakenAs window file place found.TooMany held collected = TrainingIn window file (Err faults.TooLarge)

abbrev pub IsTaken : ℕ → List ℕ → ℕ → Taking → Type 0
IsTaken window file place taking = IsTakenAs window file place taking.found taking.held.items taking.collected

-- where a header was found, it is held
abbrev pub HoldsHeader : Found → List ℕ → Type 0
HoldsHeader (found.Header header) held = 24 ≤ length held
HoldsHeader found held = Unit {0}

-- while there aren't too many, some records were collected
abbrev pub MayHaveCollected : Found → Collected → Type 0
MayHaveCollected found.TooMany collected = Unit {0}
MayHaveCollected found collected = HasCollected collected

-- over any file: what is held
pub record MayGoOn (taking : Taking) : Type 0 where
  pub collects : MayHaveCollected taking.found taking.collected
  pub holds : HoldsHeader taking.found taking.held.items

-- over any file: a training, or out of memory, or a refusal of the header or for too many records
abbrev pub IsOfTraining : Result Training Refusal → Type 0
IsOfTraining (Ok training) = Unit {0}
IsOfTraining (Err Memory) = Unit {0}
IsOfTraining (Err (Refused (faults.Head fault))) = Unit {0}
IsOfTraining (Err (Refused faults.TooLarge)) = Unit {0}
IsOfTraining (Err refusal) = ⊥
