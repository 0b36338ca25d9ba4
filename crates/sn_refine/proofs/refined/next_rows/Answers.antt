use Rattle.std.proofs.Common.{◌≡◌, List, filter, Some, ap, ◌∙◌}
use Rattle.sn_base.specs.Groups.{Row}
use Rattle.sn_base.specs.RowLists.{rows_in}
use Rattle.sn_base.specs.Sorted.{sorted_rows}
use Rattle.sn_ops.proofs.Steps.{ok_weaker}
use Rattle.sn_types.specs.Typed.{query_at}
use Rattle.sn_refine.specs.Refined.{level_rows}
use Rattle.sn_refine.specs.Steps.{is_held}
use Rattle.sn_refine.proofs.Held.{query_held}
use Rattle.sn_refine.proofs.refined.next_rows.Goals as goal

pub returns : goal.returns
returns c =
    let query = query_at c.args.t.now.queries c.args.q in
    let kept = c.args.kept in
    let tuples = c.args.tuples.now in
    ok_weaker (λ (out : List Row). out ≡ sorted_rows (rows_in c.in_ok-rows.rows)) (λ (out : List Row). out ≡ level_rows query c.args.level (Some (filter (is_held query.field kept.bits kept.members.now) tuples)))
    (λ out h. h ∙ ap sorted_rows (c.in_ok-rows.ensures.rows ∙ query_held query c.args.level kept tuples)) c.sorted.result c.sorted.ensures
