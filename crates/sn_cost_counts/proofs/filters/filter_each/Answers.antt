use Rattle.std.proofs.Common.{set, ap, sym, ◌∙◌}
use Rattle.std.proofs.lemmas.List.Edits.{map_over_more}
use Rattle.sn_types.specs.declared.typed_op.TOp.TheVariants as ops
use Rattle.sn_types.specs.Values.{op_at}
use Rattle.sn_cost_counts.specs.AnyFlow.{Flow}
use Rattle.sn_cost_counts.specs.Flows.{stepped}
use Rattle.sn_cost_counts.proofs.filters.filter_each.Goals as goal

pub loop-flow-preserved : goal.loop-flow-preserved
loop-flow-preserved g c =
    let flows = c.loop-flow.flows in
    let i = c.loop-flow.flow-index in
    let f = stepped 0 0 (op_at c.args.level (ops.Filter c.args.conds.now)) in
    ap (λ (x : Flow). set flows i x) c.in_ok-filter_one.ensures
    ∙ ap (λ (x : Flow). set flows i (f x)) (sym c.flow-item.is)
    ∙ map_over_more f c.args.flows.now flows i c.flow-item.result c.loop-flow-test.true c.loop-flow.invariant c.flow-item.is
