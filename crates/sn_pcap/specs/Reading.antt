-- serves proofs
-- A capture that is read from front to back, one record after another.
use Rattle.std.specs.Prelude.{◌≡◌, ℕ, ◌<◌, ◌≤◌, ◌+◌, ◌^◌, ◌⊎◌, true, nat_lt, min, if◌then◌else◌, List, [], ◌∷◌, length, take, drop, Option, None, Some, is_some}
use Rattle.std.specs.Prelude.{Result, Ok, Err}
use Rattle.sn_io.specs.declared.inputs.InputFault.{InputFault}
use Rattle.sn_io.specs.declared.inputs.InputFault.TheVariants as faults
use Rattle.sn_io.specs.declared.inputs.ReadError.{ReadError}
use Rattle.sn_io.specs.declared.inputs.ReadError.TheVariants as errors
use Rattle.sn_pcap.specs.declared.header.Header.{Header}
use Rattle.sn_pcap.specs.declared.packet.Packet.{Packet}
use Rattle.sn_pcap.specs.declared.packet.Ending.{Ending}
use Rattle.sn_pcap.specs.declared.packet.Ending.TheVariants.{Clean, Cut, Bad}
use Rattle.sn_pcap.specs.declared.seen.Seen.{Seen}
use Rattle.sn_pcap.specs.declared.seen.Next.{Next}
use Rattle.sn_pcap.specs.declared.seen.Next.TheVariants as next
use Rattle.sn_pcap.specs.declared.seen.Last.{Last}
use Rattle.sn_pcap.specs.declared.seen.Last.TheVariants as last
use Rattle.sn_pcap.specs.Capture.{Records, HasRecord, packet_at, captured, bytes_of, most_captured}

-- the bytes of a capture that are read: its first 2^40
abbrev pub within : List ℕ → List ℕ
within file = take (2 ^ 40) file

-- How a capture ends whose first 2^40 bytes have records that end so: where there are more bytes it is too large,
-- unless a record's header has too large a captured length.
abbrev pub last_of : List ℕ → Ending → Last
last_of file (Bad n) = last.Ended (Bad n)
last_of file Clean = if nat_lt (2 ^ 40) (length file) then last.TooLarge else last.Ended Clean
last_of file (Cut n) = if nat_lt (2 ^ 40) (length file) then last.TooLarge else last.Ended (Cut n)

-- a packet as a reader gives it: time, length on the wire, captured length, and the first 128 captured bytes
pub record IsSeen (file : List ℕ) (packet : Packet) (seen : Seen) : Type 0 where
  pub time : seen.time ≡ packet.time
  pub wire : seen.wire ≡ packet.wire
  pub cap : seen.cap ≡ packet.cap
  pub len : seen.len ≡ min packet.cap 128
  pub front : take seen.len seen.front ≡ take seen.len (bytes_of file packet)

-- a reader: the capture's header, the offset after the records that it gave, the bytes from there on that it holds,
-- and what it answered once no further record came
pub record ReaderState : Type 0 where
  pub header : Header
  pub offset : ℕ
  pub held : List ℕ
  pub last : Option Last

-- a reader as it is made
abbrev pub made : Header → ReaderState
made header = record { header = header; offset = 24; held = []; last = None }

-- this many bytes of the file from an offset on
abbrev pub HoldsAt : List ℕ → ℕ → List ℕ → Type 0
HoldsAt file offset held = held ≡ take (length held) (drop offset file)

-- what the reader holds are the file's bytes from its offset on
abbrev pub Follows : List ℕ → ReaderState → Type 0
Follows file reader = HoldsAt file reader.offset reader.held

-- it holds bytes of a file, or has answered how its records end
abbrev pub HasRead : ReaderState → Type 0
HasRead reader = (0 < length reader.held) ⊎ (is_some reader.last ≡ true)

-- the answer to a failed read
abbrev pub error_of : InputFault → ReadError
error_of faults.Failed = errors.ReadFault
error_of faults.Missing = errors.Missing

-- the answer once no further record comes
abbrev pub answer_of : Last → Result Next ReadError
answer_of (last.Ended ending) = Ok (next.End ending)
answer_of last.TooLarge = Err errors.TooLarge

-- One call, where no read fails: the record at the reader's offset is given, and the offset is then after it;
pub record TellsPacket (file : List ℕ) (before : ReaderState) (answer : Result Next ReadError) (seen : Seen) (now : ReaderState) : Type 0 where
  pub goes_on : before.last ≡ None
  pub whole : HasRecord before.header (within file) before.offset
  pub is_seen : IsSeen (within file) (packet_at before.header (within file) before.offset) seen
  pub answered : answer ≡ Ok next.Packet
  pub same_header : now.header ≡ before.header
  pub moved : now.offset ≡ before.offset + 16 + captured before.header (within file) before.offset
  pub still : now.last ≡ None

-- or no record is whole there, and it is said how they end;
pub record TellsEnd (file : List ℕ) (before : ReaderState) (answer : Result Next ReadError) (now : ReaderState) : Type 0 where
  pub goes_on : before.last ≡ None
  pub ending : Ending
  pub none : Records before.header (within file) before.offset [] ending
  pub answered : answer ≡ answer_of (last_of file ending)
  pub same_header : now.header ≡ before.header
  pub same_offset : now.offset ≡ before.offset
  pub noted : now.last ≡ Some (last_of file ending)

-- or that was said before, and is said again.
pub record TellsAgain (before : ReaderState) (answer : Result Next ReadError) (now : ReaderState) : Type 0 where
  pub last : Last
  pub reported : before.last ≡ Some last
  pub answered : answer ≡ answer_of last
  pub kept : now ≡ before

abbrev pub IsStep : List ℕ → ReaderState → Result Next ReadError → Seen → ReaderState → Type 0
IsStep file before answer seen now = TellsPacket file before answer seen now ⊎ (TellsEnd file before answer now ⊎ TellsAgain before answer now)

-- The records that are left for a reader of a file: their packets, and what it answers after them.
pub data Left (file : List ℕ) (reader : ReaderState) : List Packet → Last → Type 0 where
  -- those from its offset on in the first 2^40 bytes
  records : (packets : List Packet) (ending : Ending) (last : Last) → reader.last ≡ None → Records reader.header (within file) reader.offset packets ending
      → last ≡ last_of file ending → Left file reader packets last
  -- none, where it has answered how they end
  none : (last : Last) → reader.last ≡ Some last → Left file reader [] last

-- there are such records
pub record HasLeft (file : List ℕ) (reader : ReaderState) : Type 0 where
  pub packets : List Packet
  pub last : Last
  pub are : Left file reader packets last

-- one call takes the first of what is left: its packet is given and the others are left; or none is left, and the end is said
pub record TakesPacket (file : List ℕ) (packet : Packet) (packets : List Packet) (last : Last) (answer : Result Next ReadError) (seen : Seen)
    (now : ReaderState) : Type 0 where
  pub is_seen : IsSeen (within file) packet seen
  pub answered : answer ≡ Ok next.Packet
  pub left : Left file now packets last

abbrev pub Takes : List ℕ → List Packet → Last → Result Next ReadError → Seen → ReaderState → Type 0
Takes file [] last answer seen now = (answer ≡ answer_of last) × Left file now [] last
Takes file (packet ∷ packets) last answer seen now = TakesPacket file packet packets last answer seen now

-- over any file: a lawful packet is given, and the offset is after its record, within the first 2^40 bytes
pub record MovesOn (before : ReaderState) (seen : Seen) (now : ReaderState) : Type 0 where
  pub lawful : seen.cap ≤ most_captured
  pub len : seen.len ≡ min seen.cap 128
  pub offset : now.offset ≡ before.offset + 16 + seen.cap
  pub most : now.offset ≤ 2 ^ 40
  pub goes_on : now.last ≡ None

-- the answers of a run of calls up to the first that says how the records end
pub data Run (file : List ℕ) : ReaderState → List Seen → Last → Type 0 where
  more : {reader after : ReaderState} {seens : List Seen} {last : Last} (seen : Seen) → IsStep file reader (Ok next.Packet) seen after
      → Run file after seens last → Run file reader (seen ∷ seens) last
  ends : {reader after : ReaderState} {seen : Seen} (last : Last) → IsStep file reader (answer_of last) seen after → Run file reader [] last

-- each of the packets, in order
pub data AllSeen (file : List ℕ) : List Packet → List Seen → Type 0 where
  nothing : AllSeen file [] []
  also : {packet : Packet} {packets : List Packet} {seen : Seen} {seens : List Seen} → IsSeen file packet seen → AllSeen file packets seens
      → AllSeen file (packet ∷ packets) (seen ∷ seens)
