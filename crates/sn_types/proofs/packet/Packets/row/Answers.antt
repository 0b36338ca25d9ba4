use Rattle.sn_types.proofs.RowsAfter.{packet_of}
use Rattle.sn_types.proofs.packet.Packets.row.Goals as goal

pub returns-clause-columns : goal.returns-clause-columns
returns-clause-columns g c =
    let packets = c.args.self.now in
    packet_of packets.refined packets.masking packets.fields.now c.args.tuple.now c.widths.ensures
