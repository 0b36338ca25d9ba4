use Rattle.std.proofs.Common.{◌≡◌, ℕ, ◌-◌, List, filter, slice_index, Some, ap, ◌∙◌}
use Rattle.sn_base.specs.Groups.{Row}
use Rattle.sn_ops.proofs.Steps.{ok_weaker}
use Rattle.sn_types.specs.Typed.{query_at}
use Rattle.sn_refine.specs.Refined.{level_rows}
use Rattle.sn_refine.specs.Steps.{Set, is_held, kept_at, rows_at}
use Rattle.sn_refine.proofs.Levels.{next_place}
use Rattle.sn_refine.proofs.refined.Refined.rows_at.Goals as goal

pub returns : goal.returns
returns c =
    let s = c.args.self.now in
    let query = query_at c.args.t.now.queries s.query in
    let place = c.args.place in
    let tuples = c.args.tuples.now in
    let kept : ℕ → Set = kept_at s.last s.kept c.args.w in
    let at : List ℕ → Set → List Row = λ path held. level_rows query (slice_index path place) (Some (filter (is_held query.field (slice_index path (place - 1)) held) tuples)) in
    ok_weaker (λ (out : List Row). out ≡ at c.as_slice-path.result.now c.kept_at.result.now) (λ (out : List Row). out ≡ rows_at query s.path kept tuples place)
    (λ out h. h ∙ ap (λ path. at path c.kept_at.result.now) c.as_slice-path.ensures ∙ ap (λ held. at s.path held) c.kept_at.ensures ∙ next_place query s.path kept tuples place c.if-place-eq0.false)
    c.next_rows.result c.next_rows.ensures
