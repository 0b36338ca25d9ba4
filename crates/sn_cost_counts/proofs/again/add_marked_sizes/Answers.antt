use Rattle.std.proofs.Common.{◌≡◌, List, Bool, ◌++◌, true, map, refl, ap, ◌∙◌}
use Rattle.sn_cost_seats.specs.Tallies.{marked}
use Rattle.sn_cost_counts.specs.AnyFlow.{Flow}
use Rattle.sn_types.specs.declared.typed_op.TOp.TheVariants as ops
use Rattle.sn_types.specs.Values.{op_at}
use Rattle.sn_cost_counts.specs.Flows.{starting, stepped}
use Rattle.sn_cost_counts.specs.Shared.{flows_in, following, over_and_marks, staying}
use Rattle.sn_cost_counts.proofs.Remaking.{following_same}
use Rattle.sn_cost_counts.proofs.Sharing.{each_few, steps_following}
use Rattle.sn_cost_counts.proofs.Together.{on_ok}
use Rattle.sn_cost_counts.proofs.again.add_marked_sizes.Goals as goal

pub add_after-requires-clause-over : goal.add_after-requires-clause-over
add_after-requires-clause-over g c =
    let a = c.args in
    let next = c.in_ok-next.next in
    let each : List Bool → List Flow = λ marks. map (λ size. stepped a.depth size (op_at 0 (ops.Reduce a.r.now)) (starting (marked marks a.rows.now))) a.slots.now in
    each_few a.depth a.slots.now (ops.Reduce a.r.now) (marked a.homes.now.marks.items a.rows.now) next.rows next.distinct next.homes.items refl c.requires.few (c.in_ok-next.ensures ∙ ap each c.as_slice.ensures.value)

pub returns : goal.returns
returns g c =
    let a = c.args in
    let next = c.in_ok-next.next in
    let old : List Flow = a.out.now.items in
    let f : Flow = staying true a.rows.now (over_and_marks a.homes.now) in
    let before : Flow = c.sent_before-before.result in
    let each : List Bool → List Flow = λ marks. map (λ size. stepped a.depth size (op_at 0 (ops.Reduce a.r.now)) (starting (marked marks a.rows.now))) a.slots.now in
    on_ok c.add_after.result (c.add_after.new.out.items ≡ old ++ map (following before) (flows_in next)) _
    (λ is.
    is ∙ ap (λ (fs : List Flow). old ++ fs)
    (following_same before f (flows_in next) c.sent_before-before.ensures.sent c.sent_before-before.ensures.spilled
    ∙ steps_following a.depth a.slots.now a.r.now f (flows_in next) (c.in_ok-next.ensures ∙ ap each c.as_slice.ensures.value)))
    c.add_after.ensures
