-- to be believed
-- The tuple of a packet: each field by itself is the number of its bytes, or 0 where its header isn't present.
use Rattle.std.specs.Prelude.{◌≡◌, ℕ, ◌+◌, ◌%◌, Bool, true, false, ◌==◌, nat_lt, refl, if◌then◌else◌, List, map, slice_index}
use Rattle.sn_base.specs.declared.link.Link.{Link}
use Rattle.sn_fields.specs.declared.field.Field.{Field}
use Rattle.sn_fields.specs.declared.field.Field.TheVariants.{PacketLength, EthernetDestination, EthernetSource, EthernetType, VlanId, IpValid, IpLength}
use Rattle.sn_fields.specs.declared.field.Field.TheVariants.{IpTimeToLive, IpProtocol, IpSource, IpDestination, TcpValid, TcpSourcePort, TcpDestinationPort}
use Rattle.sn_fields.specs.declared.field.Field.TheVariants.{TcpSequence, TcpAcknowledgment, TcpFlags, UdpValid, UdpSourcePort, UdpDestinationPort, UdpLength}
use Rattle.sn_fields.specs.declared.field.Field.TheVariants.{IcmpValid, IcmpType, IcmpCode}
use Rattle.sn_fields.specs.declared.field.Field.TheVariants.{Ip6Valid, Ip6PayloadLength, Ip6NextHeader, Ip6HopLimit, Ip6Source, Ip6Destination}
use Rattle.sn_fields.specs.Fields.{fields}
use Rattle.sn_fields.specs.Headers.{number_at, has_ethernet, tags, ether_type, ip_place, has_ip, has_ip6, transport_place, has_tcp, has_udp, has_icmp}

-- a number where its header is present
abbrev pub where_present : Bool → ℕ → ℕ
where_present present number = if present then number else 0

-- from the number of a validity back to it
pub valid_back : (present : Bool) → (where_present present 1 == 1) ≡ present
valid_back true = refl
valid_back false = refl

-- the number of a field in a packet: of its link, its length on the wire, and its captured bytes
abbrev pub field_of : Link → ℕ → List ℕ → Field → ℕ
field_of link wire bytes PacketLength = wire
-- Ethernet (IEEE 802.3)
field_of link wire bytes EthernetDestination = where_present (has_ethernet link bytes) (number_at 6 bytes 0)
field_of link wire bytes EthernetSource = where_present (has_ethernet link bytes) (number_at 6 bytes 6)
field_of link wire bytes EthernetType = ether_type link bytes
-- the low 12 bits of the first tag (IEEE 802.1Q: VID)
field_of link wire bytes VlanId = where_present (nat_lt 0 (tags link bytes)) (number_at 2 bytes 14 % 4096)
-- IPv4 (RFC 791, section 3.1)
field_of link wire bytes IpValid = where_present (has_ip link bytes) 1
field_of link wire bytes IpLength = where_present (has_ip link bytes) (number_at 2 bytes (ip_place link bytes + 2))
field_of link wire bytes IpTimeToLive = where_present (has_ip link bytes) (slice_index bytes (ip_place link bytes + 8))
field_of link wire bytes IpProtocol = where_present (has_ip link bytes) (slice_index bytes (ip_place link bytes + 9))
field_of link wire bytes IpSource = where_present (has_ip link bytes) (number_at 4 bytes (ip_place link bytes + 12))
field_of link wire bytes IpDestination = where_present (has_ip link bytes) (number_at 4 bytes (ip_place link bytes + 16))
-- TCP (RFC 9293, section 3.1)
field_of link wire bytes TcpValid = where_present (has_tcp link bytes) 1
field_of link wire bytes TcpSourcePort = where_present (has_tcp link bytes) (number_at 2 bytes (transport_place link bytes))
field_of link wire bytes TcpDestinationPort = where_present (has_tcp link bytes) (number_at 2 bytes (transport_place link bytes + 2))
field_of link wire bytes TcpSequence = where_present (has_tcp link bytes) (number_at 4 bytes (transport_place link bytes + 4))
field_of link wire bytes TcpAcknowledgment = where_present (has_tcp link bytes) (number_at 4 bytes (transport_place link bytes + 8))
field_of link wire bytes TcpFlags = where_present (has_tcp link bytes) (slice_index bytes (transport_place link bytes + 13))
-- UDP (RFC 768)
field_of link wire bytes UdpValid = where_present (has_udp link bytes) 1
field_of link wire bytes UdpSourcePort = where_present (has_udp link bytes) (number_at 2 bytes (transport_place link bytes))
field_of link wire bytes UdpDestinationPort = where_present (has_udp link bytes) (number_at 2 bytes (transport_place link bytes + 2))
field_of link wire bytes UdpLength = where_present (has_udp link bytes) (number_at 2 bytes (transport_place link bytes + 4))
-- ICMP (RFC 792)
field_of link wire bytes IcmpValid = where_present (has_icmp link bytes) 1
field_of link wire bytes IcmpType = where_present (has_icmp link bytes) (slice_index bytes (transport_place link bytes))
field_of link wire bytes IcmpCode = where_present (has_icmp link bytes) (slice_index bytes (transport_place link bytes + 1))
-- IPv6 (RFC 8200, section 3)
field_of link wire bytes Ip6Valid = where_present (has_ip6 link bytes) 1
field_of link wire bytes Ip6PayloadLength = where_present (has_ip6 link bytes) (number_at 2 bytes (ip_place link bytes + 4))
field_of link wire bytes Ip6NextHeader = where_present (has_ip6 link bytes) (slice_index bytes (ip_place link bytes + 6))
field_of link wire bytes Ip6HopLimit = where_present (has_ip6 link bytes) (slice_index bytes (ip_place link bytes + 7))
field_of link wire bytes Ip6Source = where_present (has_ip6 link bytes) (number_at 16 bytes (ip_place link bytes + 8))
field_of link wire bytes Ip6Destination = where_present (has_ip6 link bytes) (number_at 16 bytes (ip_place link bytes + 24))

-- the tuple of a packet: the numbers of all fields, by field number
unfoldable pub tuple : Link → ℕ → List ℕ → List ℕ
tuple link wire bytes = map (field_of link wire bytes) fields
