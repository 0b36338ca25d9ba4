use Rattle.std.proofs.Common.{ap, ◌∙◌, subst, false}
use Rattle.sn_fields.specs.declared.headers.Carried.{Carried}
use Rattle.sn_fields.specs.declared.headers.IpPart.{IpPart}
use Rattle.sn_fields.specs.Parts.{LayerParts, IsTransport, carried_of, no_ip_part, numbers_in}
use Rattle.sn_fields.proofs.Walked.{ip6_absent, no_ip_after, tuple_is}
use Rattle.sn_fields.proofs.tuple.over_ip6.Goals as goal

pub of_ip6-requires : goal.of_ip6-requires
of_ip6-requires c = ip6_absent c.args.frame.header.kind c.args.bytes.now c.args.frame.end c.ip6_header-ip6.result c.ip6_header-ip6.ensures.header

pub returns : goal.returns
returns c link is_link =
    let parts = c.transport_part-transport.result in
    let six = c.ip6_header-ip6.result in
    let found = c.what_is_carried-found.ensures.carried ∙ ap (λ (ip : IpPart). carried_of ip six c.args.frame.end) c.no_ip.ensures in
    ap (λ (layers : LayerParts). numbers_in c.args.wire c.args.frame.header layers.network.ip
    layers.transport.tcp layers.transport.udp layers.transport.icmp layers.network.ip6) c.of_ip6.ensures
    ∙ tuple_is link c.args.wire c.args.bytes.now c.args.frame no_ip_part six parts
    is_link (no_ip_after c.args.frame.header.kind c.args.bytes.now c.args.frame.end c.requires.kind) c.ip6_header-ip6.ensures.header
    (subst (λ (x : Carried). IsTransport x false c.args.bytes.now parts) found c.transport_part-transport.ensures)
