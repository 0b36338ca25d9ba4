use Rattle.std.proofs.Common.{◌<◌, bit_and, get_or, length, refl, arith}
use Rattle.sn_lanes_narrow.proofs.MarkLemmas.{anded_more}
use Rattle.sn_lanes_narrow.proofs.both.both.Goals as goal

pub loop-place-preserved : goal.loop-place-preserved
loop-place-preserved c =
    let l = c.loop-place in
    let i = l.place in
    let within : i < length c.args.marks.now = omega arith in
    let here : i < length l.out = omega arith in
    let before : i < length c.args.out.now = omega arith in
    let more = anded_more bit_and l.out c.args.out.now c.args.marks.now i (bit_and (get_or l.out i 0) (get_or c.args.marks.now i 0)) here before within refl l.invariant.done l.invariant.rest in
    record { done = more.done; rest = more.rest }
