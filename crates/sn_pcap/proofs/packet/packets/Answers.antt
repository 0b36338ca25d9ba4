use Rattle.std.proofs.Common.{arith}
use Rattle.sn_pcap.proofs.OneCapture.{records_once, front_more, front_ends, within_more}
use Rattle.sn_pcap.proofs.packet.packets.Goals as goal

pub records-preserved : goal.records-preserved
records-preserved c = record {
  front = front_more c.args.head.now c.args.file.now c.records.at _ c.records.found c.push.new.self c.in-Ok.packet
      c.records.invariant.front c.in-Ok.ensures.whole c.in-Ok.ensures.packet (omega arith) c.in_ok-push-in-Ok.ensures.ok;
  within = within_more c.args.head.now c.args.file.now c.records.at c.records.found c.push.new.self c.in-Ok.packet
      c.records.invariant.within c.in-Ok.ensures.whole c.in-Ok.ensures.packet c.in_ok-push-in-Ok.ensures.ok;
}

pub returns-in-Err-clause-only : goal.returns-in-Err-clause-only
returns-in-Err-clause-only c packets ending given =
    records_once given (front_ends c.args.head.now c.args.file.now c.records.at c.records.found c.in-Err.ending c.records.invariant.front c.in-Err.ensures.ending)
