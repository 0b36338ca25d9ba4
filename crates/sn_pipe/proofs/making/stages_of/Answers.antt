use Rattle.std.proofs.Common.{◌+◌, ap, arith}
use Rattle.sn_pipe.proofs.Makings.{count_few, count_front, count_more, one_stage_more}
use Rattle.sn_pipe.proofs.making.stages_of.Goals as goal

pub overflow_add-used : goal.overflow_add-used
overflow_add-used g c =
    let ops = c.args.ops.now in
    let i = c.loop-op.op-index in
    omega (arith, c.loop-op.invariant.count, c.sizes_of.ensures, count_more ops i c.op-item.result c.loop-op-test.true c.op-item.is, count_front ops (i + 1), count_few ops, c.requires.few)

pub loop-op-preserved : goal.loop-op-preserved
loop-op-preserved g c =
    one_stage_more c.args.ops.now c.args.depth c.args.sizes.now c.loop-op.op-index c.loop-op.stages c.push.new.self c.loop-op.used (c.loop-op.used + c.sizes_of.result) c.op-item.result
    c.in_ok-stage_of.field-0 c.size_in.result c.loop-op.invariant c.loop-op-test.true c.op-item.is c.requires.enough c.in_ok-stage_of.ensures c.size_in.ensures.size c.in_ok-push.ensures.ok
    (ap (λ n. c.loop-op.used + n) c.sizes_of.ensures)
