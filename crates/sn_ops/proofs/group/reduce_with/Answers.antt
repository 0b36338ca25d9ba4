use Rattle.std.proofs.Common.{◌≡◌, ℕ, ◌<◌, ◌≤◌, List, [], ◌∷◌, ◌++◌, map, take, length, slice_index, ap, sym, ◌∙◌, append-nil, arith}
use Rattle.std.proofs.lemmas.List.Elements.{All-take}
use Rattle.sn_base.specs.AnyFold.{any_has}
use Rattle.sn_base.specs.Groups.{Row}
use Rattle.sn_base.specs.Operators.{Grouping, grouped, pair_of, parted}
use Rattle.sn_ops.specs.Flow.{grouping_of}
use Rattle.sn_ops.proofs.Steps.{item_at, ok_weaker}
use Rattle.sn_ops.proofs.GroupSteps.{groups_of, one_pair, pairs_to, pair_step, so_far_had, both_had, part_more, groups_are_short, rows_of_all}
use Rattle.sn_ops.proofs.group.reduce_with.Goals as goal

pub loop-place-init : goal.loop-place-init
loop-place-init g c =
    let by : Grouping = grouping_of c.args.r.now in
    c.in_ok-groups.ensures ∙ ap (groups_of by) (sym (append-nil (map (pair_of by) c.args.rows.now)))

pub add-requires-clause-so_far : goal.add-requires-clause-so_far
add-requires-clause-so_far g c =
    let by : Grouping = grouping_of c.args.r.now in
    let parts = take c.loop-place.place c.args.parts.now in
    so_far_had by (pairs_to by c.args.rows.now parts) c.loop-place.groups.entries (g.R.Columns.columns c.front_of.result) c.loop-place.invariant
    (both_had by c.args.rows.now parts c.requires.rows.had (All-take (λ (row : Row). any_has by.by (slice_index row (length by.places))) c.loop-place.place c.args.parts.now c.requires.parts.had))

pub loop-place-preserved : goal.loop-place-preserved
loop-place-preserved g c =
    let r = c.args.r.now in
    let by : Grouping = grouping_of r in
    let parts = c.args.parts.now in
    let i = c.loop-place.place in
    let part : Row = g.R.Columns.columns c.at-part.result.now in
    let is = item_at parts i part c.at-part.ensures in
    let within : i < length parts = omega (arith, c.len-place-end.ensures, c.loop-place-test.true) in
    let keys = c.as_slice-count.result.now in
    let pairs = pairs_to by c.args.rows.now (take i parts) in
    let v : ℕ = c.folded_at-value.result in
    c.in_ok-add.ensures.ok ∙ pair_step by pairs c.loop-place.groups.entries (g.R.Columns.columns c.front_of.result) v c.loop-place.invariant
    ∙ ap (λ (k : Row). groups_of by (pairs ++ one_pair k v)) (c.front_of.ensures ∙ ap (λ (ks : List ℕ). take (length ks) part) c.as_slice-count.ensures)
    ∙ ap (λ (n : ℕ). groups_of by (pairs ++ one_pair (take (length r.keys) part) n)) (c.folded_at-value.ensures ∙ ap (λ (ks : List ℕ). slice_index part (length ks)) c.as_slice-count.ensures)
    ∙ ap (groups_of by) (part_more by c.args.rows.now parts i part within is)

pub rows_of-requires : goal.rows_of-requires
rows_of-requires g c =
    let by : Grouping = grouping_of c.args.r.now in
    groups_are_short by c.args.rows.now (take c.loop-place.place c.args.parts.now) c.loop-place.groups.entries c.requires.rows.few
    (All-take (λ (row : Row). length by.places < length row) c.loop-place.place c.args.parts.now c.requires.parts.long) c.loop-place.invariant

pub returns : goal.returns
returns g c =
    let by : Grouping = grouping_of c.args.r.now in
    let rows = c.args.rows.now in
    let parts = c.args.parts.now in
    let all : length parts ≤ c.loop-place.place = omega (arith, c.len-place-end.ensures, c.loop-place-test.false) in
    ok_weaker (λ (out : List Row). out ≡ map (λ (e : Row × ℕ). e.0 ++ e.1 ∷ []) c.loop-place.groups.entries) (λ (out : List Row). out ≡ grouped by (map (pair_of by) rows ++ map (parted by) parts))
    (λ out h. h ∙ rows_of_all by rows parts c.loop-place.place c.loop-place.groups.entries all c.loop-place.invariant) c.rows_of.result c.rows_of.ensures
