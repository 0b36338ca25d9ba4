use Rattle.std.proofs.Common.{ℕ, ◌∙◌, ap, take, drop}
use Rattle.sn_plan_fit.proofs.LoadLaws.{op_more, ops_end}
use Rattle.sn_plan_fit.proofs.loads.add_piece.Goals as goal

pub loop-n-preserved : goal.loop-n-preserved
loop-n-preserved c =
    op_more c.args.depth c.as_slice-schemas.result.now c.loop-n.n c.prefix-ops.result.now c.index-ops-n.result c.loop-n.sizes.now c.loop-n.stages.now
    c.first.result c.schema_at-columns.result c.split.result.0.now c.split-in-loop-n.result.1.now c.split.result.1.now
    c.loop-n-test.true c.index-ops-n.is c.first.ensures c.schema_at-columns.ensures
    (c.split.ensures.front ∙ ap (λ (k : ℕ). take k c.loop-n.stages.now) c.taken.ensures)
    (c.split-in-loop-n.ensures.following ∙ ap (λ (k : ℕ). drop k c.loop-n.sizes.now) c.taken-in-loop-n.ensures)
    (c.split.ensures.following ∙ ap (λ (k : ℕ). drop k c.loop-n.stages.now) c.taken.ensures)
    c.loop-n.invariant c.add_op.ensures

pub returns : goal.returns
returns c = ops_end c.args.depth c.as_slice-schemas.result.now c.loop-n.n c.prefix-ops.result.now c.loop-n.sizes.now c.loop-n.stages.now c.loop-n-test.false c.loop-n.invariant
