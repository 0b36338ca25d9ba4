use Rattle.std.proofs.Common.{◌≡◌, List, map, ap, sym, ◌∙◌}
use Rattle.sn_types.specs.declared.typed_op.TOp.{TOp}
use Rattle.sn_types.specs.declared.typed_op.TOp.TheVariants as ops
use Rattle.sn_types.specs.Values.{op_at}
use Rattle.std.specs.Option.{option_copied}
use Rattle.sn_cost_tally.specs.Weighed.{weighed}
use Rattle.sn_cost_counts.specs.AnyFlow.{Flow}
use Rattle.sn_cost_counts.specs.Flows.{starting, stepped}
use Rattle.sn_cost_counts.specs.Shared.{flows_in}
use Rattle.sn_cost_counts.proofs.Going.{if_ok}
use Rattle.sn_cost_counts.proofs.sizes.first.Goals as goal

pub returns-in-Distinct-clause-flows : goal.returns-in-Distinct-clause-flows
returns-in-Distinct-clause-flows g c =
    let each : TOp → List Flow = λ op. map (λ size. stepped c.args.depth size (op_at 0 op) (starting (weighed c.args.rows.now (option_copied c.args.weights)))) c.args.slots.now in
    if_ok c.distinct.result (λ shared. flows_in shared ≡ each ops.Distinct) _ (λ shared is. is ∙ ap each (sym c.in-Distinct.is)) c.distinct.ensures.flows

pub returns-in-Reduce-clause-flows : goal.returns-in-Reduce-clause-flows
returns-in-Reduce-clause-flows g c =
    let each : TOp → List Flow = λ op. map (λ size. stepped c.args.depth size (op_at 0 op) (starting (weighed c.args.rows.now (option_copied c.args.weights)))) c.args.slots.now in
    if_ok c.reduce.result (λ shared. flows_in shared ≡ each (ops.Reduce c.in-Reduce.r)) _ (λ shared is. is ∙ ap each (sym c.in-Reduce.is)) c.reduce.ensures.flows
