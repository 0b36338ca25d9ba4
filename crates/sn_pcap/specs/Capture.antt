-- to be believed
-- The file format of classic pcap, version 2.4: a header of 24 bytes, and after it records, each of a header of
-- 16 bytes and the captured bytes of a packet.
use Rattle.std.specs.Prelude.{◌≡◌, ℕ, ◌≤◌, ◌<◌, ◌+◌, ◌*◌, ◌%◌, Bool, true, false, ◌&&◌, ◌==◌, nat_lt, find, if◌then◌else◌, List, [], ◌∷◌, length, take, drop}
use Rattle.std.specs.Prelude.{Option, None, Some, Result, Ok, Err}
use Rattle.byteorder.specs.Endian.{big_number, little_number}
use Rattle.sn_base.specs.declared.link.Link.{Link}
use Rattle.sn_base.specs.declared.link.Link.TheVariants.{Ethernet, RawIp, Cooked, Cooked2}
use Rattle.sn_pcap.specs.declared.header.Header.{Header}
use Rattle.sn_pcap.specs.declared.header.HeadFault.{HeadFault}
use Rattle.sn_pcap.specs.declared.header.HeadFault.TheVariants as faults
use Rattle.sn_pcap.specs.declared.packet.Packet.{Packet}
use Rattle.sn_pcap.specs.declared.packet.Ending.{Ending}
use Rattle.sn_pcap.specs.declared.packet.Ending.TheVariants.{Clean, Cut, Bad}

-- the number in this many bytes of a file from a place on, its highest byte first where big
abbrev pub number_at : Bool → ℕ → List ℕ → ℕ → ℕ
number_at big count file place = if big then big_number count (drop place file) else little_number count (drop place file)

-- The header: magic number 4 bytes, version 2 and 2, time zone 4, accuracy 4, snapshot length 4, link type 4.

-- the magic numbers: of captures with fractions in nanoseconds, and in microseconds
abbrev pub magic_of : Bool → ℕ
magic_of true = 0xa1b23c4d
magic_of false = 0xa1b2c3d4

-- the version is 2.4
abbrev pub has_version : Bool → List ℕ → Bool
has_version big file = (number_at big 2 file 4 == 2) && (number_at big 2 file 6 == 4)

-- the link type, in the low 16 bits of its field
abbrev pub link_type : Bool → List ℕ → ℕ
link_type big file = number_at big 4 file 20 % 65536

-- the link types: Ethernet, raw IP, Linux cooked, and its version 2
abbrev pub link_number : Link → ℕ
link_number Ethernet = 1
link_number RawIp = 101
link_number Cooked = 113
link_number Cooked2 = 276

-- the byte order (high byte first) and the time unit (nanoseconds) in which the first four bytes are a magic number
abbrev pub form_of : List ℕ → Option (Bool × Bool)
form_of file =
    if number_at false 4 file 0 == magic_of false then Some (false, false)
    else (if number_at false 4 file 0 == magic_of true then Some (false, true)
    else (if number_at true 4 file 0 == magic_of false then Some (true, false)
    else (if number_at true 4 file 0 == magic_of true then Some (true, true) else None)))

-- the link of a link type
abbrev pub link_of : ℕ → Option Link
link_of number = find (λ link. link_number link == number) (Ethernet ∷ RawIp ∷ Cooked ∷ Cooked2 ∷ [])

abbrev pub with_link : Bool × Bool → Option Link → Result Header HeadFault
with_link form None = Err faults.Link
with_link form (Some link) = Ok (record { big = form.0; nanos = form.1; link = link })

abbrev pub with_form : List ℕ → Option (Bool × Bool) → Result Header HeadFault
with_form file None = Err faults.Magic
with_form file (Some form) = if has_version form.0 file then with_link form (link_of (link_type form.0 file)) else Err faults.Version

-- the header of a file, or the first that is wrong of its length, its magic number, its version and its link type
abbrev pub head_of : List ℕ → Result Header HeadFault
head_of file = if nat_lt (length file) 24 then Err faults.Short else with_form file (form_of file)

-- the header is the file's: 24 bytes stand, the first four are, in its byte order, the magic number of its time unit,
-- the version is 2.4, and the link type is its link's
pub record Accepts (file : List ℕ) (header : Header) : Type 0 where
  pub long : 24 ≤ length file
  pub magic : number_at header.big 4 file 0 ≡ magic_of header.nanos
  pub version : has_version header.big file ≡ true
  pub link_is : link_type header.big file ≡ link_number header.link

-- A record at an offset n: seconds 4 bytes, fraction 4, captured length 4, wire length 4, and the captured bytes.

-- the most bytes that a record may have captured
abbrev pub most_captured : ℕ
most_captured = 262144

-- the captured length
abbrev pub captured : Header → List ℕ → ℕ → ℕ
captured header file n = number_at header.big 4 file (n + 8)

-- the time in nanoseconds
abbrev pub time_at : Header → List ℕ → ℕ → ℕ
time_at header file n = number_at header.big 4 file n * 1000000000 + number_at header.big 4 file (n + 4) * (if header.nanos then 1 else 1000)

-- the packet
abbrev pub packet_at : Header → List ℕ → ℕ → Packet
packet_at header file n = record { time = time_at header file n; wire = number_at header.big 4 file (n + 12); at = n + 16; cap = captured header file n }

-- a record's header stands whole
abbrev pub HasHeader : List ℕ → ℕ → Type 0
HasHeader file n = n + 16 ≤ length file

-- a record stands whole, with a lawful captured length
pub record HasRecord (header : Header) (file : List ℕ) (n : ℕ) : Type 0 where
  pub lawful : captured header file n ≤ most_captured
  pub stands : n + 16 + captured header file n ≤ length file

-- the records of a file from offset n on: their packets, and how they end
pub data Records (header : Header) (file : List ℕ) : ℕ → List Packet → Ending → Type 0 where
  -- no byte stands at n
  no_byte : (n : ℕ) → length file ≤ n → Records header file n [] Clean
  -- some bytes, but fewer than a record's header has
  short_header : (n : ℕ) → n < length file → length file < n + 16 → Records header file n [] (Cut n)
  -- a record's header with too large a captured length
  too_large : (n : ℕ) → HasHeader file n → most_captured < captured header file n → Records header file n [] (Bad n)
  -- a record's header with a lawful captured length, but fewer bytes after it
  short_packet : (n : ℕ) → HasHeader file n → captured header file n ≤ most_captured → length file < n + 16 + captured header file n
      → Records header file n [] (Cut n)
  -- a whole record: its packet, and then the records after it
  whole : (n : ℕ) (packets : List Packet) (ending : Ending) → HasRecord header file n → Records header file (n + 16 + captured header file n) packets ending
      → Records header file n (packet_at header file n ∷ packets) ending

-- the file has records from offset n on
pub record HasRecords (header : Header) (file : List ℕ) (n : ℕ) : Type 0 where
  pub packets : List Packet
  pub ending : Ending
  pub are : Records header file n packets ending

-- a packet's bytes stand within the file, and are no more than a record may have
pub record IsWithin (file : List ℕ) (packet : Packet) : Type 0 where
  pub stands : packet.at + packet.cap ≤ length file
  pub most : packet.cap ≤ most_captured

-- the captured bytes of a packet
abbrev pub bytes_of : List ℕ → Packet → List ℕ
bytes_of file packet = take packet.cap (drop packet.at file)
