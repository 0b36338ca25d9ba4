use Rattle.std.proofs.Common.{◌<◌, ◌&&◌, ◌∙◌, Bool, List, ap, cond, length, arith}
use Rattle.std.specs.List.{list_all}
use Rattle.sn_lanes_narrow.specs.Marks.{asks_all}
use Rattle.sn_types.specs.Typed.{packet_row}
use Rattle.sn_types.specs.Values.{holds}
use Rattle.sn_types.specs.declared.typed_op.TCond.{TCond}
use Rattle.sn_ops_stream.proofs.FrontLemmas.{front_more}
use Rattle.sn_ops_stream.proofs.front.front_into.Goals as goal

pub loop-place-preserved : goal.loop-place-preserved
loop-place-preserved c =
    let l = c.loop-place in
    let packets = c.args.packets.now in
    let conditions = l.conditions.items in
    let within : l.place < length c.args.ops.now = omega (arith, c.loop-place-test.true) in
    front_more packets.refined packets.level packets.fields.now c.args.ops.now l.place c.index-ops-place.result c.in-Filter.conds conditions c.add_filter.new.conditions.items within c.index-ops-place.is c.in-Filter.is
    (λ tuple.
    let passes : List TCond → Bool = λ conds. list_all (λ c. holds packets.level c (packet_row packets.refined packets.level packets.fields.now tuple)) conds in
    c.in_ok-add_filter.ensures tuple
    ∙ ap (λ (added : Bool). cond added (asks_all conditions tuple && passes c.as_slice.result.now) (asks_all conditions tuple)) c.if-not-branch.false
    ∙ ap (λ (conds : List TCond). asks_all conditions tuple && passes conds) c.as_slice.ensures)
    l.invariant
