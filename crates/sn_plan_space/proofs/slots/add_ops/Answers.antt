use Rattle.std.proofs.Common.{◌++◌, map}
use Rattle.sn_plan_choices.specs.Options.{op_slots}
use Rattle.sn_plan_space.specs.Known.{known_slot}
use Rattle.sn_plan_space.proofs.Tables.{ops_more}
use Rattle.sn_plan_space.proofs.slots.add_ops.Goals as goal

pub loop-n-preserved : goal.loop-n-preserved
loop-n-preserved c =
    ops_more c.args.depth c.args.schemas.now c.loop-n.n c.index-ops-n.result c.args.ops.now c.loop-n.left.now c.following-left.result.now c.columns_at.result c.first.result
    c.loop-n.slots c.add_op.new.slots (c.args.slots.now ++ map known_slot (op_slots c.args.depth c.args.schemas.now 0 c.args.ops.now c.args.sizes.now))
    c.loop-n-test.true c.index-ops-n.is c.columns_at.ensures c.first.ensures c.following-left.ensures c.in_ok-add_op.ensures c.loop-n.invariant
