-- to be believed
-- The generated capture of a number: its packets, and the bytes of its file.
use Rattle.std.specs.Prelude.{ℕ, zero, suc, ◌+◌, ◌*◌, ◌/◌, ◌%◌, ◌^◌, List, [], ◌∷◌, ◌++◌, map, ◌==◌, if◌then◌else◌}
use Rattle.std.specs.List.{flat_map, range_with_len}
use Rattle.std.specs.Int.{w16, w32, from_be_bytes, to_be_bytes, to_le_bytes}
use Rattle.sn_gen.specs.declared.packet.Packet.{Packet}
use Rattle.sn_gen.specs.declared.segment.Segment.{Segment}

-- ---- draws

-- the number that follows x
abbrev pub next_number : ℕ → ℕ
next_number x = (x * 6364136223846793005 + 1442695040888963407) % 2 ^ 64

-- x after this many draws
abbrev pub number_after : ℕ → ℕ → ℕ
number_after x zero = x
number_after x (suc draws) = next_number (number_after x draws)

-- what is drawn where x follows
abbrev pub drawn : ℕ → ℕ
drawn x = x / 2 ^ 33

-- how many draws packet i takes: two, but none for the first two of ten packets
abbrev pub draws_of : ℕ → ℕ
draws_of i = if i % 5000 % 10 == 0 then 0 else (if i % 5000 % 10 == 1 then 0 else 2)

-- how many draws the packets before packet i take
abbrev pub draws_before : ℕ → ℕ
draws_before zero = 0
draws_before (suc i) = draws_before i + draws_of i

-- ---- segments

-- the address a.b.c.d
abbrev pub address : ℕ → ℕ → ℕ → ℕ → ℕ
address a b c d = from_be_bytes w32 (a ∷ b ∷ c ∷ d ∷ [])

-- connection c of many sources to 10.1.2.3: its SYN, with 20 bytes after the headers
abbrev pub opening : ℕ → Segment
opening c = record {
  source = address 172 16 (c / 256)
      (c % 256);
  destination = address 10 1 2 3;
  source_port = 1024 + c;
  destination_port = 80;
  flags = 2;
  length = 60;
}

-- connection c of four sources to 10.9.8.7: an ACK, with nothing after the headers
abbrev pub idling : ℕ → Segment
idling c = record {
  source = address 192 168 0
      (c % 4 + 1);
  destination = address 10 9 8 7;
  source_port = 2048 + c;
  destination_port = 80;
  flags = 16;
  length = 40;
}

-- a segment full of bytes, by two numbers that were drawn
abbrev pub loaded : ℕ → ℕ → Segment
loaded u v = record {
  source = address 30 0 0 (v % 16 + 1);
  destination = address 20 0 (u % 8)
      (u / 8 % 8);
  source_port = 4096 + v / 16 % 1024;
  destination_port = 443;
  flags = 16;
  length = 1040;
}

-- the segment of packet i, where x stands before its draws: u is drawn, and then v
abbrev pub segment_at : ℕ → ℕ → Segment
segment_at x i =
    if i % 5000 % 10 == 0 then opening (i % 5000 / 10)
    else (if i % 5000 % 10 == 1 then idling (i % 5000 / 10)
    else loaded (drawn (next_number x)) (drawn (next_number (next_number x))))

-- ---- packets

-- packet i, where x stands before its draws: 5000 packets a second from second 1 on, 200 microseconds apart
abbrev pub packet_at : ℕ → ℕ → Packet
packet_at x i = record { second = 1 + i / 5000; microsecond = i % 5000 * 200; segment = segment_at x i }

-- packet i of the capture of a number: the packets before it have made their draws
abbrev pub packet_of : ℕ → ℕ → Packet
packet_of number i = packet_at (number_after number (draws_before i)) i

-- the first n packets of the capture of a number
abbrev pub first_packets : ℕ → ℕ → List Packet
first_packets number count = map (packet_of number) (range_with_len 0 count)

-- how many packets the capture has
unfoldable pub packet_count : ℕ
packet_count = 20000

-- ---- bytes

-- Ethernet from 02:00:00:00:00:01 to 02:00:00:00:00:02, IPv4
abbrev pub ethernet_bytes : List ℕ
ethernet_bytes = 2 ∷ 0 ∷ 0 ∷ 0 ∷ 0 ∷ 2 ∷ 2 ∷ 0 ∷ 0 ∷ 0 ∷ 0 ∷ 1 ∷ 8 ∷ 0 ∷ []

-- IPv4 without options: the length, no fragment, 64 hops, TCP, no checksum, the two addresses
abbrev pub ip_bytes : Segment → List ℕ
ip_bytes s = 69 ∷ 0 ∷ [] ++ to_be_bytes w16 s.length ++ 0 ∷ 0 ∷ 0 ∷ 0 ∷ 64 ∷ 6 ∷ 0 ∷ 0 ∷ [] ++ to_be_bytes w32 s.source ++ to_be_bytes w32 s.destination

-- TCP without options: the two ports, number and acknowledgement 0, the flags, and no window, checksum or urgent byte
abbrev pub tcp_bytes : Segment → List ℕ
tcp_bytes s = to_be_bytes w16 s.source_port ++ to_be_bytes w16 s.destination_port ++ 0 ∷ 0 ∷ 0 ∷ 0 ∷ 0 ∷ 0 ∷ 0 ∷ 0 ∷ 80 ∷ s.flags ∷ 0 ∷ 0 ∷ 0 ∷ 0 ∷ 0 ∷ 0 ∷ []

-- the 54 bytes that are captured of a segment
abbrev pub frame_bytes : Segment → List ℕ
frame_bytes s = ethernet_bytes ++ ip_bytes s ++ tcp_bytes s

-- a record's header: time, 54 captured bytes, and the length on the wire
abbrev pub record_head : Packet → List ℕ
record_head p = to_le_bytes w32 p.second ++ to_le_bytes w32 p.microsecond ++ 54 ∷ 0 ∷ 0 ∷ 0 ∷ [] ++ to_le_bytes w32 (14 + p.segment.length)

abbrev pub record_bytes : Packet → List ℕ
record_bytes p = record_head p ++ frame_bytes p.segment

-- the file's header: little-endian, microseconds, version 2.4, at most 262144 bytes of a packet, Ethernet
abbrev pub head_bytes : List ℕ
head_bytes = 212 ∷ 195 ∷ 178 ∷ 161 ∷ 2 ∷ 0 ∷ 4 ∷ 0 ∷ 0 ∷ 0 ∷ 0 ∷ 0 ∷ 0 ∷ 0 ∷ 0 ∷ 0 ∷ 0 ∷ 0 ∷ 4 ∷ 0 ∷ 1 ∷ 0 ∷ 0 ∷ 0 ∷ []

-- the capture of a number
abbrev pub capture_bytes : ℕ → List ℕ
capture_bytes number = head_bytes ++ flat_map record_bytes (first_packets number packet_count)
