use Rattle.std.proofs.Common.{sym, subst}
use Rattle.std.specs.List.{AllByRecursion}
use Rattle.sn_plan_lists.specs.Bounds.{HasBounds}
use Rattle.sn_plan_lists.proofs.TypedBounds.{typed_bounds}
use Rattle.sn_plan_lists.proofs.naming.entries_at.Goals as goal
use Rattle.sn_types.proofs.Items.{of_item as all_get}

pub entry_at-requires-clause-bounds : goal.entry_at-requires-clause-bounds
entry_at-requires-clause-bounds c =
    all_get HasBounds c.as_slice-query-items.result.now c.loop-query.query-index c.query-item.result
    (subst (AllByRecursion HasBounds) (sym c.as_slice-query-items.ensures) (typed_bounds c.args.t.now.window_us c.args.t.now.queries c.args.t.now.typed)) c.loop-query-test.true c.query-item.is
