use Rattle.std.proofs.Common.{◌≡◌, ◌∙◌, ◌++◌, ap, arith}
use Rattle.std.specs.List.{flat_map}
use Rattle.sn_gen.specs.Generated.{first_packets, number_after, draws_of, record_bytes}
use Rattle.sn_gen.proofs.DrawLemmas.{draws_before_more, records_more}
use Rattle.sn_gen.proofs.capture.push_packets.Goals as goal

pub loop-i-preserved : goal.loop-i-preserved
loop-i-preserved c = record {
  file_now = records_more c.args.number c.loop-i.i c.loop-i.draws.number c.next_packet.result c.args.file.now.items c.loop-i.file.items c.push_record.new.file.items
      c.loop-i.invariant.file_now c.loop-i.invariant.draws_now c.next_packet.ensures.value c.in_ok-push_record.ensures;
  draws_now = c.next_packet.ensures.after ∙ ap (λ x. number_after x (draws_of c.loop-i.i)) c.loop-i.invariant.draws_now ∙ draws_before_more c.args.number c.loop-i.i;
}

pub returns : goal.returns
returns c =
    let ended : c.loop-i.i ≡ c.args.count = omega arith in
    c.loop-i.invariant.file_now ∙ ap (λ i. c.args.file.now.items ++ flat_map record_bytes (first_packets c.args.number i)) ended
