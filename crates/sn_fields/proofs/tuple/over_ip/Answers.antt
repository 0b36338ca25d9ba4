use Rattle.std.proofs.Common.{ap, ◌∙◌, subst}
use Rattle.sn_fields.specs.declared.headers.Carried.{Carried}
use Rattle.sn_fields.specs.Parts.{LayerParts, IsTransport, no_ip6, numbers_in}
use Rattle.sn_fields.proofs.Walked.{ip_absent, no_ip6_after, tuple_is}
use Rattle.sn_fields.proofs.tuple.over_ip.Goals as goal

pub of_ip-requires-2 : goal.of_ip-requires-2
of_ip-requires-2 c = ip_absent c.args.frame.header.kind c.args.bytes.now c.args.frame.end c.ip_part-ip.result c.ip_part-ip.ensures

pub returns : goal.returns
returns c link is_link =
    let parts = c.transport_part-transport.result in
    ap (λ (layers : LayerParts). numbers_in c.args.wire c.args.frame.header layers.network.ip
    layers.transport.tcp layers.transport.udp layers.transport.icmp layers.network.ip6) c.of_ip-2.ensures
    ∙ tuple_is link c.args.wire c.args.bytes.now c.args.frame c.ip_part-ip.result no_ip6 parts
    is_link c.ip_part-ip.ensures (no_ip6_after c.args.frame.header.kind c.args.bytes.now c.args.frame.end c.requires.kind)
    (subst (λ (x : Carried). IsTransport x c.ip_part-ip.result.header.valid c.args.bytes.now parts) c.of_ip.ensures c.transport_part-transport.ensures)
