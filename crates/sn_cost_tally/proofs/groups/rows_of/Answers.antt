use Rattle.std.proofs.Common.{ℕ, List, ◌∷◌, ◌++◌, [], map, slice_index, ap, sym, ◌∙◌, arith}
use Rattle.std.proofs.lemmas.List.{take_all}
use Rattle.sn_base.specs.Groups.{Row}
use Rattle.sn_base.proofs.Lists.{map_one}
use Rattle.sn_cost_tally.specs.Numbered.{zipped}
use Rattle.sn_cost_tally.proofs.Folding.{number_at, zip_at, zip_long}
use Rattle.sn_cost_tally.proofs.groups.rows_of.Goals as goal

abbrev row_of : Row × ℕ → Row
row_of e = e.0 ++ e.1 ∷ []

pub loop-place-preserved : goal.loop-place-preserved
loop-place-preserved g c =
    let i = c.loop-place.place in
    let keys : List Row = c.args.keys.now in
    let numbers : List ℕ = c.args.numbers.now in
    let key : Row = g.R.Columns.columns c.at.result.now in
    c.in_ok-push.ensures.ok
    ∙ ap (λ (row : Row). c.loop-place.out ++ row ∷ []) (c.push.ensures ∙ ap (λ (n : ℕ). key ++ n ∷ []) c.of_word.ensures)
    ∙ ap (λ (rows : List Row). rows ++ row_of (key, slice_index numbers i) ∷ []) c.loop-place.invariant
    ∙ sym (map_one row_of (zipped keys numbers) i (key, slice_index numbers i) (zip_at keys numbers i key (slice_index numbers i) c.at.ensures (number_at numbers i (omega (arith, c.loop-place-test.true, c.len-place-end.ensures, c.requires.long)))))

pub returns : goal.returns
returns g c =
    let keys : List Row = c.args.keys.now in
    let numbers : List ℕ = c.args.numbers.now in
    let long = zip_long keys numbers c.requires.long in
    c.loop-place.invariant ∙ ap (map row_of) (take_all c.loop-place.place (zipped keys numbers) (omega (arith, long, c.loop-place-test.false, c.len-place-end.ensures)))
