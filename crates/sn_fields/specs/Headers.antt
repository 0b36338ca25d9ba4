-- to be believed
-- Which headers a packet has, and where they stand. Numbers have their highest byte first (RFC 791, appendix B). A
-- header is present exactly where its bytes were captured and the headers before it are present.
use Rattle.std.specs.Prelude.{ℕ, ◌+◌, ◌*◌, ◌/◌, ◌%◌, Bool, false, ◌&&◌, ◌||◌, ◌==◌, nat_le, if◌then◌else◌, List, length, drop, slice_index}
use Rattle.byteorder.specs.Endian.{big_number}
use Rattle.sn_base.specs.declared.link.Link.{Link}
use Rattle.sn_base.specs.declared.link.Link.TheVariants.{Ethernet, RawIp, Cooked, Cooked2}

-- the number in this many bytes from a place on
unfoldable pub number_at : ℕ → List ℕ → ℕ → ℕ
number_at count bytes place = big_number count (drop place bytes)

-- the bytes before a place were captured
abbrev pub has_bytes : List ℕ → ℕ → Bool
has_bytes bytes count = nat_le count (length bytes)

-- a tag stands at a place (IEEE 802.1Q): its type, and the 4 bytes after it
unfoldable pub has_tag : List ℕ → ℕ → Bool
has_tag bytes place =
    has_bytes bytes (place + 6) && ((number_at 2 bytes place == 0x8100) || (number_at 2 bytes place == 0x88a8))

-- how many tags there are: at most two, right after the addresses of Ethernet
unfoldable pub tags : Link → List ℕ → ℕ
tags Ethernet bytes = if has_tag bytes 12 then (if has_tag bytes 16 then 2 else 1) else 0
tags RawIp bytes = 0
tags Cooked bytes = 0
tags Cooked2 bytes = 0

-- the bytes of the link header, without tags
abbrev pub link_length : Link → ℕ
link_length Ethernet = 14
link_length RawIp = 0
link_length Cooked = 16
link_length Cooked2 = 20

-- the link header is one of Ethernet (IEEE 802.3)
unfoldable pub has_ethernet : Link → List ℕ → Bool
has_ethernet Ethernet bytes = has_bytes bytes 14
has_ethernet RawIp bytes = false
has_ethernet Cooked bytes = false
has_ethernet Cooked2 bytes = false

-- the type that the version of an IP header stands for, in the high half of its first byte
abbrev pub type_of_version : ℕ → ℕ
type_of_version version = if version == 4 then 0x0800 else (if version == 6 then 0x86dd else 0)

-- the type of what the link header carries: the last type read, after the tags; without a link header, as the first
-- half byte says; 0 where it wasn't captured
unfoldable pub ether_type : Link → List ℕ → ℕ
ether_type Ethernet bytes = if has_bytes bytes 14 then number_at 2 bytes (12 + 4 * tags Ethernet bytes) else 0
ether_type RawIp bytes = if has_bytes bytes 1 then type_of_version (slice_index bytes 0 / 16) else 0
ether_type Cooked bytes = if has_bytes bytes 16 then number_at 2 bytes 14 else 0
ether_type Cooked2 bytes = if has_bytes bytes 20 then number_at 2 bytes 0 else 0

-- where the header of IP stands
unfoldable pub ip_place : Link → List ℕ → ℕ
ip_place link bytes = link_length link + 4 * tags link bytes

-- the length of a header of IPv4 that stands at a place, in 32-bit words (RFC 791, section 3.1: IHL)
abbrev pub ip_words : List ℕ → ℕ → ℕ
ip_words bytes place = slice_index bytes place % 16

-- after a type, a header of IPv4 stands at a place: 20 bytes, version 4, at least 5 words, and all its words
unfoldable pub is_ip : ℕ → List ℕ → ℕ → Bool
is_ip type bytes place =
    (type == 0x0800) && has_bytes bytes (place + 20) && (slice_index bytes place / 16 == 4) && nat_le 5 (ip_words bytes place)
    && has_bytes bytes (place + 4 * ip_words bytes place)

abbrev pub has_ip : Link → List ℕ → Bool
has_ip link bytes = is_ip (ether_type link bytes) bytes (ip_place link bytes)

-- where the header of the transport stands, right after a header of IPv4 at a place
unfoldable pub after_ip : List ℕ → ℕ → ℕ
after_ip bytes place = place + 4 * ip_words bytes place

-- a header of IPv4 at a place is that of a first fragment: its fragment offset is 0
unfoldable pub is_first : List ℕ → ℕ → Bool
is_first bytes place = number_at 2 bytes (place + 6) % 8192 == 0

-- this many bytes of a protocol stand right after a header of IPv4 at a place
unfoldable pub carries : List ℕ → ℕ → ℕ → ℕ → Bool
carries bytes place protocol count =
    is_first bytes place && (slice_index bytes (place + 9) == protocol) && has_bytes bytes (after_ip bytes place + count)

-- after a type, a header of IPv6 stands at a place (RFC 8200, section 3): its 40 bytes, and version 6
unfoldable pub is_ip6 : ℕ → List ℕ → ℕ → Bool
is_ip6 type bytes place = (type == 0x86dd) && has_bytes bytes (place + 40) && (slice_index bytes place / 16 == 6)

abbrev pub has_ip6 : Link → List ℕ → Bool
has_ip6 link bytes = is_ip6 (ether_type link bytes) bytes (ip_place link bytes)

-- this many bytes of a protocol stand right after a header of IPv6 at a place: it is the next header
unfoldable pub carries_6 : List ℕ → ℕ → ℕ → ℕ → Bool
carries_6 bytes place protocol count = (slice_index bytes (place + 6) == protocol) && has_bytes bytes (place + 40 + count)

-- this many bytes of a protocol stand right after a header of IPv4 or of IPv6
abbrev pub has_transport : Link → List ℕ → ℕ → ℕ → Bool
has_transport link bytes protocol count =
    (has_ip link bytes && carries bytes (ip_place link bytes) protocol count) || (has_ip6 link bytes && carries_6 bytes (ip_place link bytes) protocol count)

-- TCP (RFC 9293) and UDP (RFC 768), and after IPv4 alone ICMP (RFC 792)
abbrev pub has_tcp : Link → List ℕ → Bool
has_tcp link bytes = has_transport link bytes 6 20

abbrev pub has_udp : Link → List ℕ → Bool
has_udp link bytes = has_transport link bytes 17 8

abbrev pub has_icmp : Link → List ℕ → Bool
has_icmp link bytes = has_ip link bytes && carries bytes (ip_place link bytes) 1 4

-- where their header stands
abbrev pub transport_place : Link → List ℕ → ℕ
transport_place link bytes = if has_ip6 link bytes then ip_place link bytes + 40 else after_ip bytes (ip_place link bytes)
