use Rattle.std.proofs.Common.{List, Bool, ◌++◌, ◌∷◌, [], map, take, ap, sym, ◌∙◌}
use Rattle.std.specs.List.{list_all}
use Rattle.sn_base.specs.Groups.{Row}
use Rattle.sn_base.proofs.Lists.{map_one}
use Rattle.sn_types.specs.Values.{holds}
use Rattle.sn_cost_counts.proofs.shared.passing.Goals as goal

pub loop-place-preserved : goal.loop-place-preserved
loop-place-preserved g c =
    let t : Row → Bool = λ row. list_all (λ x. holds c.args.level x row) c.args.conds.now in
    let rows : List Row = c.args.rows.now in
    let i = c.loop-place.place in
    let row : Row = g.R.Columns.columns c.at.result.now in
    c.in_ok-push.ensures.items ∙ ap (λ (bs : List Bool). bs ++ c.passes-passed.result ∷ []) c.loop-place.invariant
    ∙ ap (λ (b : Bool). map t (take i rows) ++ b ∷ []) c.passes-passed.ensures ∙ sym (map_one t rows i row c.at.ensures)
