use Rattle.std.proofs.Common.{◌+◌, arith, refl}
use Rattle.sn_command_captures.proofs.WalkLemmas.{no_packets, packets_next, room_here}
use Rattle.sn_command_captures.specs.Walks.{packets_from}
use Rattle.sn_windows.specs.NumberingOf.{numbering}
use Rattle.sn_command_captures.proofs.share.next_record.Goals as goal

pub returns-in_default-clause-none : goal.returns-in_default-clause-none
returns-in_default-clause-none c _ = no_packets c.args.header.now c.args.file.now c.args.at c.in_default.field-0 c.in_default.ensures.ending

pub unreachable-requires : goal.unreachable-requires
unreachable-requires c =
    let header = c.args.header.now in
    let file = c.args.file.now in
    let packet = c.in-Ok.packet in
    let after = c.args.at + (16 + packet.cap) in
    let parts = packets_next header file c.args.at after packet c.in-Ok.ensures.whole c.in-Ok.ensures.packet refl in
    let room = room_here (numbering c.args.windows.now) (packets_from header file c.args.at) packet (packets_from header file after) parts c.requires in
    let full = c.in-Err.ensures.too_many.0 refl in
    omega (arith, room, full)
