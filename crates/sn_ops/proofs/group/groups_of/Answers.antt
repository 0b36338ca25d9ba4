use Rattle.std.proofs.Common.{ℕ, ◌<◌, ◌≤◌, List, ◌++◌, map, take, length, slice_index, ap, ◌∙◌, arith}
use Rattle.std.proofs.lemmas.List.{take_all}
use Rattle.std.proofs.lemmas.List.Elements.{All-take}
use Rattle.sn_base.specs.AnyFold.{any_has}
use Rattle.sn_base.specs.Groups.{Row, columns_at}
use Rattle.sn_base.specs.Operators.{Grouping, pair_of}
use Rattle.sn_ops.specs.Flow.{grouping_of}
use Rattle.sn_ops.proofs.Steps.{holds_at, item_at}
use Rattle.sn_ops.proofs.GroupSteps.{groups_of, one_pair, pair_step, so_far_had, pairs_had, row_more}
use Rattle.sn_ops.proofs.group.groups_of.Goals as goal

pub folded_at-value-requires-clause-place : goal.folded_at-value-requires-clause-place
folded_at-value-requires-clause-place g c =
    let rows = c.args.rows.now in
    let i = c.loop-place.place in
    let row : Row = g.R.Columns.columns c.at-row.result.now in
    let is = item_at rows i row c.at-row.ensures in
    let within : i < length rows = omega (arith, c.len-place-end.ensures, c.loop-place-test.true) in
    holds_at (λ (x : Row). c.args.r.now.value < length x) rows i row c.requires.value within is

pub folded_at-value-requires-clause-had : goal.folded_at-value-requires-clause-had
folded_at-value-requires-clause-had g c =
    let rows = c.args.rows.now in
    let i = c.loop-place.place in
    let row : Row = g.R.Columns.columns c.at-row.result.now in
    let is = item_at rows i row c.at-row.ensures in
    let within : i < length rows = omega (arith, c.len-place-end.ensures, c.loop-place-test.true) in
    holds_at (λ (x : Row). any_has c.args.r.now.fold (slice_index x c.args.r.now.value)) rows i row c.requires.had within is

pub add_at-requires-clause-so_far : goal.add_at-requires-clause-so_far
add_at-requires-clause-so_far g c =
    let by : Grouping = grouping_of c.args.r.now in
    let rows = take c.loop-place.place c.args.rows.now in
    so_far_had by (map (pair_of by) rows) c.loop-place.groups.entries (columns_at c.as_slice.result.now (g.R.Columns.columns c.at-row.result.now)) c.loop-place.invariant
    (pairs_had by rows (All-take (λ (row : Row). any_has by.by (slice_index row by.value)) c.loop-place.place c.args.rows.now c.requires.had))

pub loop-place-preserved : goal.loop-place-preserved
loop-place-preserved g c =
    let r = c.args.r.now in
    let by : Grouping = grouping_of r in
    let rows = c.args.rows.now in
    let i = c.loop-place.place in
    let row : Row = g.R.Columns.columns c.at-row.result.now in
    let is = item_at rows i row c.at-row.ensures in
    let within : i < length rows = omega (arith, c.len-place-end.ensures, c.loop-place-test.true) in
    let pairs = map (pair_of by) (take i rows) in
    let v : ℕ = c.folded_at-value.result in
    c.in_ok-add_at.ensures.ok ∙ pair_step by pairs c.loop-place.groups.entries (columns_at c.as_slice.result.now row) v c.loop-place.invariant
    ∙ ap (λ (ps : List ℕ). groups_of by (pairs ++ one_pair (columns_at ps row) v)) c.as_slice.ensures
    ∙ ap (λ (n : ℕ). groups_of by (pairs ++ one_pair (columns_at r.keys row) n)) c.folded_at-value.ensures
    ∙ ap (groups_of by) (row_more by rows i row within is)

pub returns : goal.returns
returns g c =
    let by : Grouping = grouping_of c.args.r.now in
    let rows = c.args.rows.now in
    let all : length rows ≤ c.loop-place.place = omega (arith, c.len-place-end.ensures, c.loop-place-test.false) in
    c.loop-place.invariant ∙ ap (λ (rs : List Row). groups_of by (map (pair_of by) rs)) (take_all c.loop-place.place rows all)
