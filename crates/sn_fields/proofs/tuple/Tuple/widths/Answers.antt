use Rattle.std.proofs.Common.{rules, ◌≡◌, ◌<◌, ◌^◌, ℕ, List, slice_index, subst, Bool, true, false, arith}
use Rattle.sn_fields.specs.Fields.{number_of, row_of, width_of}
use Rattle.sn_fields.specs.Tuples.{where_present}
use Rattle.sn_fields.specs.declared.field.Field.{Field}
use Rattle.sn_fields.specs.declared.field.Field.TheVariants.{PacketLength, EthernetDestination, EthernetSource, EthernetType, VlanId, IpValid, IpLength, IpTimeToLive, IpProtocol, IpSource, IpDestination, TcpValid, TcpSourcePort, TcpDestinationPort, TcpSequence, TcpAcknowledgment, TcpFlags, UdpValid, UdpSourcePort, UdpDestinationPort, UdpLength, IcmpValid, IcmpType, IcmpCode, Ip6Valid, Ip6PayloadLength, Ip6NextHeader, Ip6HopLimit, Ip6Source, Ip6Destination}
use Rattle.sn_fields.proofs.tuple.Tuple.widths.Goals as goal

valid_below : (valid : Bool) → where_present valid 1 < 2
valid_below true = omega arith
valid_below false = omega arith

as_seen : {xs ys : List ℕ} → xs ≡ ys → (field : Field) → slice_index xs (number_of field) < 2 ^ width_of field → slice_index ys (number_of field) < 2 ^ width_of field
as_seen e field h = subst (λ (numbers : List ℕ). slice_index numbers (number_of field) < 2 ^ width_of field) e h

pub returns : goal.returns
unfolding row_of
returns c PacketLength = search rules
returns c EthernetDestination = as_seen c.self.view_is EthernetDestination c.link_fits.ensures.0
returns c EthernetSource = as_seen c.self.view_is EthernetSource c.link_fits.ensures.1
returns c EthernetType = as_seen c.self.view_is EthernetType c.link_fits.ensures.2
returns c VlanId = as_seen c.self.view_is VlanId c.self.invariant
returns c IpValid = as_seen c.self.view_is IpValid (valid_below c.self.inside.layers.network.ip.valid)
returns c IpLength = as_seen c.self.view_is IpLength c.ip_fits.ensures.0
returns c IpTimeToLive = as_seen c.self.view_is IpTimeToLive c.ip_fits.ensures.1
returns c IpProtocol = as_seen c.self.view_is IpProtocol c.ip_fits.ensures.2
returns c IpSource = as_seen c.self.view_is IpSource c.ip_fits.ensures.3
returns c IpDestination = as_seen c.self.view_is IpDestination c.ip_fits.ensures.4
returns c TcpValid = as_seen c.self.view_is TcpValid (valid_below c.self.inside.layers.transport.tcp.valid)
returns c TcpSourcePort = as_seen c.self.view_is TcpSourcePort c.tcp_fits.ensures.0
returns c TcpDestinationPort = as_seen c.self.view_is TcpDestinationPort c.tcp_fits.ensures.1
returns c TcpSequence = as_seen c.self.view_is TcpSequence c.tcp_fits.ensures.2
returns c TcpAcknowledgment = as_seen c.self.view_is TcpAcknowledgment c.tcp_fits.ensures.3
returns c TcpFlags = as_seen c.self.view_is TcpFlags c.tcp_fits.ensures.4
returns c UdpValid = as_seen c.self.view_is UdpValid (valid_below c.self.inside.layers.transport.udp.valid)
returns c UdpSourcePort = as_seen c.self.view_is UdpSourcePort c.udp_fits.ensures.0
returns c UdpDestinationPort = as_seen c.self.view_is UdpDestinationPort c.udp_fits.ensures.1
returns c UdpLength = as_seen c.self.view_is UdpLength c.udp_fits.ensures.2
returns c IcmpValid = as_seen c.self.view_is IcmpValid (valid_below c.self.inside.layers.transport.icmp.valid)
returns c IcmpType = as_seen c.self.view_is IcmpType c.icmp_fits.ensures.0
returns c IcmpCode = as_seen c.self.view_is IcmpCode c.icmp_fits.ensures.1
returns c Ip6Valid = as_seen c.self.view_is Ip6Valid (valid_below c.self.inside.layers.network.ip6.valid)
returns c Ip6PayloadLength = as_seen c.self.view_is Ip6PayloadLength c.ip6_fits.ensures.0
returns c Ip6NextHeader = as_seen c.self.view_is Ip6NextHeader c.ip6_fits.ensures.1
returns c Ip6HopLimit = as_seen c.self.view_is Ip6HopLimit c.ip6_fits.ensures.2
returns c Ip6Source = as_seen c.self.view_is Ip6Source c.ip6_fits.ensures.3
returns c Ip6Destination = as_seen c.self.view_is Ip6Destination c.ip6_fits.ensures.4
