use Rattle.std.proofs.Common.{◌≡◌, ◌≤◌, ◌∷◌, List, length, map, ap, sym, subst, ◌∙◌}
use Rattle.sn_types.specs.Cuts.{filters_ahead}
use Rattle.sn_types.specs.declared.typed_op.TOp.{TOp}
use Rattle.sn_types.specs.Values.{op_at}
use Rattle.sn_cost_counts.specs.AnyFlow.{Flow}
use Rattle.sn_cost_counts.specs.Flows.{stepped, wider}
use Rattle.sn_cost_counts.specs.Passing.{CanFollow, flows_of}
use Rattle.sn_cost_counts.proofs.Going.{if_ok, wide_one}
use Rattle.sn_cost_counts.proofs.Shapes.{no_registers}
use Rattle.sn_cost_counts.proofs.passing.Passing+RowSeq+R.after.Goals as goal

pub returns-in-Apart-clause-flows : goal.returns-in-Apart-clause-flows
returns-in-Apart-clause-flows g c =
    let a = c.args in
    let flows : List Flow = c.in-Apart.flows.items in
    let ahead : List TOp = c.requires.shape.0 in
    let last : length (a.op.now ∷ ahead) ≤ filters_ahead (a.op.now ∷ ahead) = subst (λ p. CanFollow p (a.op.now ∷ ahead)) c.in-Apart.is c.requires.shape.1 in
    if_ok c.after_apart.result (λ next. flows_of next ≡ map (stepped 0 0 (op_at a.level a.op.now)) flows) _
    (λ next is. is ∙ wide_one a.depth a.level a.slots.now a.op.now flows (no_registers a.op.now ahead last) ∙ ap (λ p. wider a.depth a.level a.slots.now a.op.now (flows_of p)) (sym c.in-Apart.is))
    c.after_apart.ensures.flows
