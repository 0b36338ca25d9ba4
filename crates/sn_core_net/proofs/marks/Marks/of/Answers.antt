use Rattle.std.proofs.Common.{◌<◌, List, arith}
use Rattle.sn_core_net.specs.declared.holder.Holder.{Holder}
use Rattle.sn_core_net.proofs.MarkLemmas.{marks_more, marks_none}
use Rattle.sn_core_net.proofs.marks.Marks.of.Goals as goal

pub loop-place-init : goal.loop-place-init
loop-place-init c = marks_none c.args.room

pub loop-place-preserved : goal.loop-place-preserved
loop-place-preserved c =
    let at = c.loop-place in
    let place = at.place in
    let lanes : List Holder = c.args.lanes.now in
    let few : place < 64 = omega (arith, c.requires, c.loop-place-test.true) in
    marks_more c.args.room place lanes c.index-lanes-place.result at.marks c.see.new.self c.loop-place-test.true few c.see.ensures c.index-lanes-place.is at.invariant
