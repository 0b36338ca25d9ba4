-- to be believed
-- The stages of an answered capture.
use Rattle.std.specs.Prelude.{◌≡◌, ℕ, nat_lt, List, [], ◌∷◌, ◌++◌, Bool, true, false, ◌||◌, length, take, map, filter, Result, Ok, Err, Option, Some, None}
use Rattle.std.specs.Prelude.{is_none, if◌then◌else◌}
use Rattle.std.specs.FinMap.{get}
use Rattle.std.specs.List.{flat_map}
use Rattle.std.specs.Option.{option_or}
use Rattle.sn_base.specs.declared.link.Link.{Link}
use Rattle.sn_fields.specs.Tuples.{tuple}
use Rattle.sn_pcap.specs.Capture.{bytes_of, head_of, Records}
use Rattle.sn_pcap.specs.declared.header.Header.{Header}
use Rattle.sn_pcap.specs.declared.packet.Packet.{Packet}
use Rattle.sn_pcap.specs.declared.packet.Ending.{Ending}
use Rattle.sn_pcap.specs.declared.packet.Ending.TheVariants as endings
use Rattle.sn_pcap.specs.declared.seen.Last.{Last}
use Rattle.sn_pcap.specs.declared.seen.Last.TheVariants as last
use Rattle.sn_pcap.specs.Reading.{within, last_of}
use Rattle.sn_command.specs.declared.fault.Fault.{Fault}
use Rattle.sn_command.specs.declared.fault.Fault.TheVariants as faults
use Rattle.sn_command.specs.declared.refusal.Refusal.{Refusal}
use Rattle.sn_command.specs.declared.refusal.Refusal.TheVariants.{Missing, Refused}
use Rattle.sn_command.specs.Outcomes.{Outcome, silent, Stage}
use Rattle.sn_command.specs.Stages.{Does, Adds, Gives, Judges, named, Then}
use Rattle.sn_windows.specs.Windows.{in_window, numbered, windows_of}
use Rattle.sn_windows.specs.Blocks.{answered, blocks, all_few, most_records, while_holds}
use Rattle.sn_command_capture.specs.Wording.{Wording}
use Rattle.sn_windows.specs.Rising.{Window}

-- the bytes of a file, if its name is known
abbrev pub known_bytes : Option (List ℕ) → Result (List ℕ) Refusal
known_bytes None = Err Missing
known_bytes (Some bytes) = Ok bytes

-- a stage that gives the bytes of a file, however many: it refuses where the name isn't known
abbrev pub Whole : List ℕ → Stage (List ℕ)
Whole name files outcome = outcome ≡ silent (known_bytes (get files name))

-- the header of a capture
abbrev pub Head : List ℕ → Stage Header
Head capture = Then (Whole capture) (λ file. Gives (named faults.Head (head_of file)))

-- whole records, and how they end
pub record Found : Type 0 where
  pub packets : List Packet
  pub ending : Ending

-- the records of a capture: this refuses nothing
abbrev pub RecordsIn : Header → List ℕ → Result Found Fault → Type 0
RecordsIn header file (Ok found) = Records header file 24 found.packets found.ending
RecordsIn header file (Err fault) = ⊥

-- packets have times
abbrev pub time_of : Packet → ℕ
time_of p = p.time

-- the tuple of a captured packet
abbrev pub packet_tuple : Link → List ℕ → Packet → List ℕ
packet_tuple link file packet = tuple link packet.wire (bytes_of file packet)

-- the number of the last packet's window, or this one where there is none
abbrev pub last_from : ℕ → List (ℕ × Packet) → ℕ
last_from number [] = number
last_from number (p ∷ ps) = last_from p.0 ps

abbrev pub last_number : List (ℕ × Packet) → ℕ
last_number packets = last_from 0 packets

-- the packets of the windows below the last packet's
abbrev pub before_last : List (ℕ × Packet) → List (ℕ × Packet)
before_last packets = filter (λ p. nat_lt p.0 (last_number packets)) packets

-- the windows that hold a packet, each with its tuples
abbrev pub window_in : (Packet → List ℕ) → List (ℕ × Packet) → ℕ → Window
window_in shown packets w = (w, map shown (in_window w packets))

abbrev pub windows_in : (Packet → List ℕ) → List (ℕ × Packet) → List Window
windows_in shown packets = map (window_in shown packets) (windows_of packets)

-- the block of a window with these packets, in a capture that has these windows
abbrev pub block_in : Wording → (Packet → List ℕ) → List Window → ℕ → List Packet → List ℕ
block_in wording shown windows number packets = wording.block windows number (map shown packets)

-- the blocks of the windows of these packets, up to the first one with too many records
abbrev pub blocks_in : Wording → (Packet → List ℕ) → List (ℕ × Packet) → List ℕ
blocks_in wording shown packets = blocks (block_in wording shown (windows_in shown packets)) packets

-- why the block of a window with these packets can't be made, in a capture that has these windows
abbrev pub stop_in : Wording → (Packet → List ℕ) → List Window → ℕ → List Packet → Option Fault
stop_in wording shown windows number packets = wording.stops windows number (map shown packets)

-- the first reason, if one of these windows has one
abbrev pub first_stop : (ℕ → Option Fault) → List ℕ → Option Fault
first_stop stop [] = None
first_stop stop (w ∷ ws) = option_or (stop w) (first_stop stop ws)

-- the blocks of the windows below the first one that has a reason
abbrev pub blocks_below : (ℕ → Option Fault) → (ℕ → List ℕ) → List ℕ → List ℕ
blocks_below stop block windows = flat_map block (while_holds (λ w. is_none (stop w)) windows)

-- Of the windows of these packets, up to the first one with too many records: why the first one that stops does, and the blocks of
-- those below it.
abbrev pub stop_of : Wording → (Packet → List ℕ) → List (ℕ × Packet) → Option Fault
stop_of wording shown packets = first_stop (λ w. stop_in wording shown (windows_in shown packets) w (in_window w packets)) (answered packets)

abbrev pub blocks_before : Wording → (Packet → List ℕ) → List (ℕ × Packet) → List ℕ
blocks_before wording shown packets =
    blocks_below (λ w. stop_in wording shown (windows_in shown packets) w (in_window w packets))
    (λ w. block_in wording shown (windows_in shown packets) w (in_window w packets)) (answered packets)

-- Where a window stops, its reason ends the capture after the blocks below it; else the capture comes to this.
abbrev pub stopped : {A : Type 0} → Option Fault → List ℕ → Outcome A → Outcome A
stopped None text whole = whole
stopped (Some fault) text whole = record { text = text; end = Err (Refused fault) }

-- the capture has too many bytes, and no window comes after these
abbrev pub ends_large : Last → List Window → Bool
ends_large (last.Ended ending) windows = false
ends_large last.TooLarge [] = true
ends_large last.TooLarge (w ∷ ws) = false

-- What stands of the current window where the capture is refused, after some windows that were closed: it's the first of
-- the others with too many records, of which as many came as it may have. Where none has, and the capture has too many bytes, it's
-- the last one.
abbrev pub unfinished_in : Wording → Last → List Window → List Window → List ℕ
unfinished_in wording end closed [] = []
unfinished_in wording end closed (w ∷ ws) =
    if ends_large end ws || nat_lt most_records (length w.1) then wording.unfinished closed w.0 (take most_records w.1)
    else unfinished_in wording end (closed ++ w ∷ []) ws

-- a capture with these windows is refused, after these blocks
abbrev pub windows_refused : Wording → Last → List ℕ → List Window → Outcome (List Window × Ending)
windows_refused wording end text windows = record { text = text ++ unfinished_in wording end [] windows; end = Err (Refused faults.TooLarge) }

-- the packets whose windows are closed: of a capture with too many bytes these are only the windows below the last whole record's
abbrev pub closed_packets : Last → List (ℕ × Packet) → List (ℕ × Packet)
closed_packets (last.Ended ending) packets = packets
closed_packets last.TooLarge packets = before_last packets

-- Where no window stops: the blocks of the windows that are closed, up to the first one with too many records; and which windows
-- there are, with how the records end.
abbrev pub windows_whole : Wording → (Packet → List ℕ) → List (ℕ × Packet) → Last → Outcome (List Window × Ending)
windows_whole wording shown packets (last.Ended ending) =
    if all_few packets then record { text = blocks_in wording shown packets; end = Ok (windows_in shown packets, ending) }
    else windows_refused wording (last.Ended ending) (blocks_in wording shown packets) (windows_in shown packets)
windows_whole wording shown packets last.TooLarge =
    windows_refused wording last.TooLarge (blocks_in wording shown (before_last packets)) (windows_in shown packets)

-- The same, up to the first window that stops. One with too many records isn't closed, so it doesn't stop.
abbrev pub windows_outcome : Wording → (Packet → List ℕ) → List (ℕ × Packet) → Last → Outcome (List Window × Ending)
windows_outcome wording shown packets end =
    stopped (stop_of wording shown (closed_packets end packets)) (blocks_before wording shown (closed_packets end packets))
    (windows_whole wording shown packets end)

-- the windows of a capture's first 2^40 bytes, each of this many nanoseconds
abbrev pub WindowsIn : Wording → ℕ → Header → List ℕ → Stage (List Window × Ending)
WindowsIn wording window header file =
    Then (Judges (RecordsIn header (within file))) (λ found.
    Does (windows_outcome wording (packet_tuple header.link (within file)) (numbered time_of window found.packets) (last_of file found.ending)))

abbrev pub WindowsOf : Wording → ℕ → List ℕ → Header → Stage (List Window × Ending)
WindowsOf wording window capture header = Then (Whole capture) (WindowsIn wording window header)

-- a capture that ends in a damaged record is refused after its whole records
abbrev pub ending_verdict : Ending → Result (Unit {0}) Fault
ending_verdict endings.Clean = Ok tt
ending_verdict (endings.Cut at) = Err (faults.Cut at)
ending_verdict (endings.Bad at) = Err (faults.Bad at)

-- what stands after the blocks
abbrev pub LastLines : Wording → List Window → Ending → Stage (Unit {0})
LastLines wording windows ending = Then (Adds (wording.last windows ending)) (λ _. Gives (ending_verdict ending))

-- a capture after its header: what stands first, the blocks of its windows, and the last lines where no limit is passed
abbrev pub AfterHead : Wording → ℕ → List ℕ → Header → Stage (Unit {0})
AfterHead wording window capture header =
    Then (Adds wording.first) (λ _.
    Then (WindowsOf wording window capture header) (λ closed.
    LastLines wording closed.0 closed.1))

-- a capture is answered, in windows of this many nanoseconds
abbrev pub Answered : Wording → ℕ → List ℕ → Stage (Unit {0})
Answered wording window capture = Then (Head capture) (AfterHead wording window capture)
