use Rattle.std.proofs.Common.{List, ◌∷◌, ◌++◌, [], map, take, ap, sym, subst, ◌∙◌}
use Rattle.sn_base.specs.Groups.{Row, columns_at}
use Rattle.sn_base.proofs.Lists.{map_one}
use Rattle.sn_cost_tally.specs.Renumbered.{AreNumbered}
use Rattle.sn_cost_tally.proofs.numbered.number_keys.Goals as goal

pub loop-place-preserved : goal.loop-place-preserved
loop-place-preserved g c =
    let f : Row → Row = columns_at c.args.places.now in
    let rows : List Row = c.args.rows.now in
    let i = c.loop-place.place in
    let row : Row = g.R.Columns.columns c.at.result.now in
    subst (λ (rs : List Row). AreNumbered c.add_number.new.numbers.keys rs c.add_number.new.of_rows.items)
    (ap (λ (key : Row). map f (take i rows) ++ key ∷ []) c.columns_into.ensures ∙ sym (map_one f rows i row c.at.ensures))
    (c.in_ok-add_number.ensures (map f (take i rows)) c.loop-place.invariant)
