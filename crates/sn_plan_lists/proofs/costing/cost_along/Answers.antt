use Rattle.std.proofs.Common.{length, refl, sym, subst, ap, arith}
use Rattle.std.specs.List.{AllByRecursion}
use Rattle.sn_types.proofs.Facts.{few_queries}
use Rattle.sn_plan_choices.specs.Costs.{entry_in}
use Rattle.sn_plan_lists.specs.Bounds.{HasBounds}
use Rattle.sn_plan_lists.specs.Costs.{plan_cost}
use Rattle.sn_plan_lists.proofs.Counts.{HavePieces, have_pieces, here_pieces}
use Rattle.sn_plan_lists.proofs.TypedBounds.{typed_bounds}
use Rattle.sn_plan_lists.proofs.costing.cost_along.Goals as goal
use Rattle.sn_types.proofs.Items.{of_item as all_get}

pub loop-query-init : goal.loop-query-init
loop-query-init c =
    let queries = c.args.t.now.queries in
    let cost = ap (plan_cost c.args.s.now (entry_in c.args.c.now) 0 queries) c.as_slice-rest.ensures in (
      refl,
      omega (arith, cost),
      omega arith,
      subst (HavePieces queries) (sym c.as_slice-rest.ensures)
          (have_pieces c.args.s.now queries c.args.plan.now.entries (typed_bounds c.args.t.now.window_us queries c.args.t.now.typed) c.requires.fits.paths c.requires.fits.pieces),
    )

pub entry_cost-cost-requires-clause-bounds : goal.entry_cost-cost-requires-clause-bounds
entry_cost-cost-requires-clause-bounds c =
    all_get HasBounds c.as_slice-query-items.result.now c.loop-query.query-index c.query-item.result
    (subst (AllByRecursion HasBounds) (sym c.as_slice-query-items.ensures) (typed_bounds c.args.t.now.window_us c.args.t.now.queries c.args.t.now.typed)) c.loop-query-test.true c.query-item.is

pub entry_cost-cost-requires-clause-known : goal.entry_cost-cost-requires-clause-known
entry_cost-cost-requires-clause-known c =
    (here_pieces c.as_slice-query-items.result.now c.args.t.now.queries c.loop-query.rest.now c.in-Some.after.now c.loop-query.query-index c.query-item.result c.in-Some.entry.now
    c.as_slice-query-items.ensures c.loop-query-test.true c.query-item.is c.in-Some.ensures.cases.0 c.loop-query.invariant.3).known

pub entry_cost-cost-requires-clause-few : goal.entry_cost-cost-requires-clause-few
entry_cost-cost-requires-clause-few c =
    (here_pieces c.as_slice-query-items.result.now c.args.t.now.queries c.loop-query.rest.now c.in-Some.after.now c.loop-query.query-index c.query-item.result c.in-Some.entry.now
    c.as_slice-query-items.ensures c.loop-query-test.true c.query-item.is c.in-Some.ensures.cases.0 c.loop-query.invariant.3).few

pub overflow_add-cost : goal.overflow_add-cost
overflow_add-cost c =
    let few = few_queries c.args.t.now.window_us c.args.t.now.queries c.args.t.now.typed in
    let same = ap length c.as_slice-query-items.ensures in
    omega (arith, few, same, c.loop-query-test.true, c.loop-query.invariant.2, c.entry_cost-cost.ensures.small)

pub overflow_add-number : goal.overflow_add-number
overflow_add-number c =
    let few = few_queries c.args.t.now.window_us c.args.t.now.queries c.args.t.now.typed in
    let same = ap length c.as_slice-query-items.ensures in
    omega (arith, few, same, c.loop-query-test.true, c.loop-query.invariant.0)
