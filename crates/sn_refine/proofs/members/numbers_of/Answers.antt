use Rattle.std.proofs.Common.{◌≡◌, ℕ, ◌<◌, ◌≤◌, List, map, take, length, slice_index, ap, sym, ◌∙◌, arith}
use Rattle.std.proofs.lemmas.Cmp.{nat_cmp_total}
use Rattle.std.specs.FinSet as set
use Rattle.std.proofs.lemmas.List.{take_all}
use Rattle.sn_ops.proofs.Steps.{map_step}
use Rattle.sn_refine.proofs.members.numbers_of.Goals as goal

pub loop-row-preserved : goal.loop-row-preserved
loop-row-preserved g c =
    let rows = c.args.rows.now in
    let i = c.loop-row.row-index in
    let row = c.row-item.result in
    let within : i < length rows = omega arith in
    let f = λ (r : g.row.R.Denot). slice_index (g.R.Columns.columns r) c.place_of-place.result in
    c.in_ok-add.ensures.ok
    ∙ ap (λ s. set.insert s c.whole.result) c.loop-row.invariant
    ∙ ap (λ (n : ℕ). set.insert (set.from_list (map f (take i rows))) n) (c.whole.ensures.value ∙ c.column.ensures)
    ∙ sym (set.from_list_push nat_cmp_total set.nat_cmp-IsAntisymmetric (map f (take i rows)) (f row))
    ∙ ap set.from_list (map_step f rows i row within c.row-item.is)

pub returns : goal.returns
returns g c =
    let rows = c.args.rows.now in
    let all : length rows ≤ c.loop-row.row-index = omega arith in
    c.loop-row.invariant
    ∙ ap (λ (rs : List g.row.R.Denot). set.from_list (map (λ (r : g.row.R.Denot). slice_index (g.R.Columns.columns r) c.place_of-place.result) rs)) (take_all c.loop-row.row-index rows all)
    ∙ ap (λ (place : ℕ). set.from_list (map (λ (r : g.row.R.Denot). slice_index (g.R.Columns.columns r) place) rows)) c.place_of-place.ensures
