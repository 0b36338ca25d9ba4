use Rattle.std.proofs.Common.{◌<◌, length, drop, arith, length-drop}
use Rattle.sn_pcap.proofs.Pieces.{moved_more, rest_more}
use Rattle.sn_pcap.proofs.buffer.move_front.Goals as goal

pub loop-place-preserved : goal.loop-place-preserved
loop-place-preserved c =
    let old = c.args.bytes.now in
    let now = c.loop-place.bytes in
    let i = c.loop-place.place in
    let stands : i < length (drop c.args.start old) = omega (arith, length-drop c.args.start old) in
    let room : i < length now = omega arith in
    record {
      moved = moved_more old now c.args.start i room stands c.loop-place.invariant.moved c.loop-place.invariant.rest;
      rest = rest_more old now i _ c.loop-place.invariant.rest;
    }
