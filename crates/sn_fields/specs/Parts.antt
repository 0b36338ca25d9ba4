-- serves proofs
-- What the walk over the headers finds, header by header.
use Rattle.std.specs.Prelude.{◌≡◌, ℕ, ◌≤◌, ◌<◌, ◌+◌, ◌%◌, ◌^◌, ◌&&◌, ◌==◌, Bool, true, false, nat_le, nat_lt, if◌then◌else◌, List, [], ◌∷◌, length, slice_index}
use Rattle.sn_base.specs.declared.link.Link.{Link}
use Rattle.sn_fields.specs.declared.headers.LinkHeader.{LinkHeader}
use Rattle.sn_fields.specs.declared.headers.LinkPart.{LinkPart}
use Rattle.sn_fields.specs.declared.headers.IpHeader.{IpHeader}
use Rattle.sn_fields.specs.declared.headers.IpPart.{IpPart}
use Rattle.sn_fields.specs.declared.headers.Ip6Header.{Ip6Header}
use Rattle.sn_fields.specs.declared.headers.Carried.{Carried}
use Rattle.sn_fields.specs.declared.transport.TcpHeader.{TcpHeader}
use Rattle.sn_fields.specs.declared.transport.UdpHeader.{UdpHeader}
use Rattle.sn_fields.specs.declared.transport.IcmpHeader.{IcmpHeader}
use Rattle.sn_fields.specs.Headers.{number_at, has_ethernet, tags, ether_type, ip_place, is_ip, is_ip6, after_ip, is_first}
use Rattle.sn_fields.specs.Tuples.{where_present}

-- the link header of a packet
pub record IsLinkPart (link : Link) (bytes : List ℕ) (part : LinkPart) : Type 0 where
  pub destination_is : part.header.destination ≡ where_present (has_ethernet link bytes) (number_at 6 bytes 0)
  pub source_is : part.header.source ≡ where_present (has_ethernet link bytes) (number_at 6 bytes 6)
  pub kind_is : part.header.kind ≡ ether_type link bytes
  pub vlan_is : part.header.vlan ≡ where_present (nat_lt 0 (tags link bytes)) (number_at 2 bytes 14 % 4096)
  pub end_is : part.end ≡ ip_place link bytes
  pub destination_fits : part.header.destination < 2 ^ 48
  pub source_fits : part.header.source < 2 ^ 48
  pub vlan_fits : part.header.vlan < 2 ^ 12
  pub near : part.end ≤ 22

-- the header of IPv4 that stands at a place after a type, if one does
pub record IsIpPart (type : ℕ) (bytes : List ℕ) (place : ℕ) (part : IpPart) : Type 0 where
  pub valid_is : part.header.valid ≡ is_ip type bytes place
  pub length_is : part.header.length ≡ where_present (is_ip type bytes place) (number_at 2 bytes (place + 2))
  pub ttl_is : part.header.ttl ≡ where_present (is_ip type bytes place) (slice_index bytes (place + 8))
  pub protocol_is : part.header.protocol ≡ where_present (is_ip type bytes place) (slice_index bytes (place + 9))
  pub source_is : part.header.source ≡ where_present (is_ip type bytes place) (number_at 4 bytes (place + 12))
  pub destination_is : part.header.destination ≡ where_present (is_ip type bytes place) (number_at 4 bytes (place + 16))
  pub first_is : part.first ≡ is_ip type bytes place && is_first bytes place
  pub end_is : part.end ≡ where_present (is_ip type bytes place) (after_ip bytes place)
  pub within : part.end ≤ length bytes

-- the header of IPv6 that stands at a place after a type, if one does
pub record IsIp6 (type : ℕ) (bytes : List ℕ) (place : ℕ) (header : Ip6Header) : Type 0 where
  pub valid_is : header.valid ≡ is_ip6 type bytes place
  pub length_is : header.length ≡ where_present (is_ip6 type bytes place) (number_at 2 bytes (place + 4))
  pub next_is : header.next ≡ where_present (is_ip6 type bytes place) (slice_index bytes (place + 6))
  pub hops_is : header.hops ≡ where_present (is_ip6 type bytes place) (slice_index bytes (place + 7))
  pub source_is : header.source ≡ where_present (is_ip6 type bytes place) (number_at 16 bytes (place + 8))
  pub destination_is : header.destination ≡ where_present (is_ip6 type bytes place) (number_at 16 bytes (place + 24))

-- what a header of IPv4 carries
abbrev pub of_ip : IpPart → Carried
of_ip ip = record { first = ip.first; protocol = ip.header.protocol; end = ip.end }

-- what the header of the network layer carries: that of IPv6 at a place, where one is present, and else that of IPv4
abbrev pub carried_of : IpPart → Ip6Header → ℕ → Carried
carried_of ip header place = if header.valid then record { first = true; protocol = header.next; end = place + 40 } else of_ip ip

-- this many bytes of a protocol stand right after a header of the network layer
abbrev pub part_carries : Carried → List ℕ → ℕ → ℕ → Bool
part_carries c bytes protocol count = c.first && (c.protocol == protocol) && nat_le (c.end + count) (length bytes)

-- no header of IPv4
abbrev pub no_ip : IpHeader
no_ip = record { source = 0; destination = 0; length = 0; ttl = 0; protocol = 0; valid = false }

-- nor of IPv6
abbrev pub no_ip6 : Ip6Header
no_ip6 = record { source = 0; destination = 0; length = 0; next = 0; hops = 0; valid = false }

-- what stands for a header of IPv4 and what it carries, where there is none
abbrev pub no_ip_part : IpPart
no_ip_part = record { header = no_ip; first = false; end = 0 }

-- the headers of the network layer, of which one is present at most
pub record NetworkParts : Type 0 where
  pub ip : IpHeader
  pub ip6 : Ip6Header

-- the header of TCP that stands at a place, where it is present
pub record IsTcp (present : Bool) (bytes : List ℕ) (place : ℕ) (header : TcpHeader) : Type 0 where
  pub valid_is : header.valid ≡ present
  pub source_is : header.source ≡ where_present present (number_at 2 bytes place)
  pub destination_is : header.destination ≡ where_present present (number_at 2 bytes (place + 2))
  pub sequence_is : header.sequence ≡ where_present present (number_at 4 bytes (place + 4))
  pub acknowledgment_is : header.acknowledgment ≡ where_present present (number_at 4 bytes (place + 8))
  pub flags_is : header.flags ≡ where_present present (slice_index bytes (place + 13))

-- that of UDP
pub record IsUdp (present : Bool) (bytes : List ℕ) (place : ℕ) (header : UdpHeader) : Type 0 where
  pub valid_is : header.valid ≡ present
  pub source_is : header.source ≡ where_present present (number_at 2 bytes place)
  pub destination_is : header.destination ≡ where_present present (number_at 2 bytes (place + 2))
  pub length_is : header.length ≡ where_present present (number_at 2 bytes (place + 4))

-- that of ICMP
pub record IsIcmp (present : Bool) (bytes : List ℕ) (place : ℕ) (header : IcmpHeader) : Type 0 where
  pub valid_is : header.valid ≡ present
  pub kind_is : header.kind ≡ where_present present (slice_index bytes place)
  pub code_is : header.code ≡ where_present present (slice_index bytes (place + 1))

-- no header of TCP
abbrev pub no_tcp : TcpHeader
no_tcp = record { sequence = 0; acknowledgment = 0; source = 0; destination = 0; flags = 0; valid = false }

-- nor of UDP
abbrev pub no_udp : UdpHeader
no_udp = record { source = 0; destination = 0; length = 0; valid = false }

-- nor of ICMP
abbrev pub no_icmp : IcmpHeader
no_icmp = record { kind = 0; code = 0; valid = false }

-- the headers of the transport, of which one is present at most
pub record TransportParts : Type 0 where
  pub tcp : TcpHeader
  pub udp : UdpHeader
  pub icmp : IcmpHeader

-- all headers after the link header
pub record LayerParts : Type 0 where
  pub network : NetworkParts
  pub transport : TransportParts

-- the transport after a header of the network layer; after one of IPv4 it may be ICMP
pub record IsTransport (c : Carried) (over_ip : Bool) (bytes : List ℕ) (parts : TransportParts) : Type 0 where
  pub is_tcp : IsTcp (part_carries c bytes 6 20) bytes c.end parts.tcp
  pub is_udp : IsUdp (part_carries c bytes 17 8) bytes c.end parts.udp
  pub is_icmp : IsIcmp (over_ip && part_carries c bytes 1 4) bytes c.end parts.icmp

-- the numbers of these headers, in the order of the fields
abbrev pub numbers_in : ℕ → LinkHeader → IpHeader → TcpHeader → UdpHeader → IcmpHeader → Ip6Header → List ℕ
numbers_in wire link ip tcp udp icmp ip6 =
    wire ∷ link.destination ∷ link.source ∷ link.kind ∷ link.vlan
    ∷ where_present ip.valid 1 ∷ ip.length ∷ ip.ttl ∷ ip.protocol ∷ ip.source ∷ ip.destination
    ∷ where_present tcp.valid 1 ∷ tcp.source ∷ tcp.destination ∷ tcp.sequence ∷ tcp.acknowledgment ∷ tcp.flags
    ∷ where_present udp.valid 1 ∷ udp.source ∷ udp.destination ∷ udp.length
    ∷ where_present icmp.valid 1 ∷ icmp.kind ∷ icmp.code
    ∷ where_present ip6.valid 1 ∷ ip6.length ∷ ip6.next ∷ ip6.hops ∷ ip6.source ∷ ip6.destination ∷ []
