use Rattle.std.proofs.Common.{ℕ, ◌<◌, ◌≤◌, List, [], ◌∷◌, ◌++◌, map, length, slice_index, ap, ◌∙◌, arith}
use Rattle.std.proofs.lemmas.List.{take_all}
use Rattle.sn_ops.proofs.Steps.{map_step}
use Rattle.sn_detect.proofs.detect.numbers_of.Goals as goal

pub loop-row-preserved : goal.loop-row-preserved
loop-row-preserved g c =
    let rows = c.args.rows.now in
    let i = c.loop-row.row-index in
    let row = c.row-item.result in
    let within : i < length rows = omega arith in
    let f = λ (r : g.row.R.Denot). slice_index (g.R.Columns.columns r) c.place_of-place.result in
    c.in_ok-push.ensures.ok
    ∙ ap (λ (n : ℕ). c.loop-row.numbers ++ n ∷ []) (c.whole.ensures.value ∙ c.column.ensures)
    ∙ ap (λ (ns : List ℕ). ns ++ f row ∷ []) c.loop-row.invariant
    ∙ map_step f rows i row within c.row-item.is

pub returns : goal.returns
returns g c =
    let rows = c.args.rows.now in
    let all : length rows ≤ c.loop-row.row-index = omega arith in
    c.loop-row.invariant
    ∙ ap (λ (rs : List g.row.R.Denot). map (λ (r : g.row.R.Denot). slice_index (g.R.Columns.columns r) c.place_of-place.result) rs) (take_all c.loop-row.row-index rows all)
    ∙ ap (λ (place : ℕ). map (λ (r : g.row.R.Denot). slice_index (g.R.Columns.columns r) place) rows) c.place_of-place.ensures
