use Rattle.std.proofs.Common.{◌∙◌, ◌++◌, sym, subst, ap}
use Rattle.std.specs.List.{AllByRecursion}
use Rattle.sn_plan_lists.specs.Bounds.{HasBounds}
use Rattle.sn_plan_lists.specs.Chosen.{plan_choices}
use Rattle.sn_plan_lists.proofs.Counts.{HavePieces, have_pieces, here_pieces}
use Rattle.sn_plan_lists.proofs.TypedBounds.{typed_bounds}
use Rattle.sn_plan_lists.proofs.choosing.choices_along.Goals as goal
use Rattle.sn_types.proofs.Items.{of_item as all_get}

pub loop-query-init : goal.loop-query-init
loop-query-init c =
    let queries = c.args.t.now.queries in (
      ap (λ l. l ++ plan_choices c.args.s.now queries c.as_slice-rest.result.now) c.new-choices.ensures ∙ ap (plan_choices c.args.s.now queries) c.as_slice-rest.ensures,
      subst (HavePieces queries) (sym c.as_slice-rest.ensures)
          (have_pieces c.args.s.now queries c.args.plan.now.entries (typed_bounds c.args.t.now.window_us queries c.args.t.now.typed) c.requires.fits.paths c.requires.fits.pieces),
    )

pub add_entry-requires-clause-bounds : goal.add_entry-requires-clause-bounds
add_entry-requires-clause-bounds c =
    all_get HasBounds c.as_slice-query-items.result.now c.loop-query.query-index c.query-item.result
    (subst (AllByRecursion HasBounds) (sym c.as_slice-query-items.ensures) (typed_bounds c.args.t.now.window_us c.args.t.now.queries c.args.t.now.typed)) c.loop-query-test.true c.query-item.is

pub add_entry-requires-clause-known : goal.add_entry-requires-clause-known
add_entry-requires-clause-known c =
    (here_pieces c.as_slice-query-items.result.now c.args.t.now.queries c.loop-query.rest.now c.in-Some.after.now c.loop-query.query-index c.query-item.result c.in-Some.entry.now
    c.as_slice-query-items.ensures c.loop-query-test.true c.query-item.is c.in-Some.ensures.cases.0 c.loop-query.invariant.1).known
