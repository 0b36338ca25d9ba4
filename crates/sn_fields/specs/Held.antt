-- serves proofs
-- How a tuple holds the headers of the network layer and of the transport: it holds those that are present.
use Rattle.std.specs.Prelude.{◌≡◌, ℕ, true, false, if◌then◌else◌, refl}
use Rattle.sn_fields.specs.declared.layers.HeldNetwork.{HeldNetwork}
use Rattle.sn_fields.specs.declared.layers.HeldNetwork.TheVariants as network
use Rattle.sn_fields.specs.declared.transport.HeldTransport.{HeldTransport}
use Rattle.sn_fields.specs.declared.transport.HeldTransport.TheVariants as transport
use Rattle.sn_fields.specs.Parts.{NetworkParts, TransportParts, no_ip, no_ip6, no_tcp, no_udp, no_icmp}

-- the headers of the network layer, with the protocol of IPv4 or the hop limit of IPv6, which is held apart; where there
-- is no header that is 0
abbrev pub network_in : HeldNetwork → ℕ → NetworkParts
network_in network.Absent last = record { ip = no_ip; ip6 = record { source = 0; destination = 0; length = 0; next = 0; hops = last; valid = false } }
network_in (network.Ip ttl length source destination) last =
    record { ip = record { source = source; destination = destination; length = length; ttl = ttl; protocol = last; valid = true }; ip6 = no_ip6 }
network_in (network.Ip6 next length source destination) last =
    record { ip = no_ip; ip6 = record { source = source; destination = destination; length = length; next = next; hops = last; valid = true } }

-- and how they are held
abbrev pub network_of : NetworkParts → HeldNetwork
network_of parts =
    if parts.ip.valid then network.Ip parts.ip.ttl parts.ip.length parts.ip.source parts.ip.destination
    else (if parts.ip6.valid then network.Ip6 parts.ip6.next parts.ip6.length parts.ip6.source parts.ip6.destination else network.Absent)

abbrev pub last_of : NetworkParts → ℕ
last_of parts = if parts.ip.valid then parts.ip.protocol else parts.ip6.hops

pub network_back : (held : HeldNetwork) (last : ℕ) → network_of (network_in held last) ≡ held
network_back network.Absent last = refl
network_back (network.Ip ttl length source destination) last = refl
network_back (network.Ip6 next length source destination) last = refl

pub last_back : (held : HeldNetwork) (last : ℕ) → last_of (network_in held last) ≡ last
last_back network.Absent last = refl
last_back (network.Ip ttl length source destination) last = refl
last_back (network.Ip6 next length source destination) last = refl

-- the headers of the transport
abbrev pub transport_in : HeldTransport → TransportParts
transport_in transport.Absent = record { tcp = no_tcp; udp = no_udp; icmp = no_icmp }
transport_in (transport.Tcp flags source destination sequence acknowledgment) =
    record {
      tcp = record { sequence = sequence; acknowledgment = acknowledgment; source = source; destination = destination; flags = flags; valid = true };
      udp = no_udp;
      icmp = no_icmp;
    }
transport_in (transport.Udp source destination length) =
    record { tcp = no_tcp; udp = record { source = source; destination = destination; length = length; valid = true }; icmp = no_icmp }
transport_in (transport.Icmp kind code) = record { tcp = no_tcp; udp = no_udp; icmp = record { kind = kind; code = code; valid = true } }

-- and how they are held
abbrev pub transport_of : TransportParts → HeldTransport
transport_of parts =
    if parts.tcp.valid then transport.Tcp parts.tcp.flags parts.tcp.source parts.tcp.destination parts.tcp.sequence parts.tcp.acknowledgment
    else (if parts.udp.valid then transport.Udp parts.udp.source parts.udp.destination parts.udp.length
    else (if parts.icmp.valid then transport.Icmp parts.icmp.kind parts.icmp.code else transport.Absent))

pub transport_back : (held : HeldTransport) → transport_of (transport_in held) ≡ held
transport_back transport.Absent = refl
transport_back (transport.Tcp flags source destination sequence acknowledgment) = refl
transport_back (transport.Udp source destination length) = refl
transport_back (transport.Icmp kind code) = refl
