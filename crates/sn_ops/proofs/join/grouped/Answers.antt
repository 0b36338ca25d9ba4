use Rattle.std.proofs.Common.{◌<◌, Bool, List, [], ◌∷◌, ◌++◌, take, filter, length, cond, unwrap_or, ap, sym, ◌∙◌, arith}
use Rattle.std.specs.Map.{lookup}
use Rattle.sn_base.specs.Groups.{Row, same_row, columns_at}
use Rattle.sn_ops.proofs.Adding.{one_added}
use Rattle.sn_ops.proofs.Steps.{filter_more, item_at}
use Rattle.sn_ops.proofs.join.grouped.Goals as goal

pub loop-place-preserved : goal.loop-place-preserved
loop-place-preserved g c k =
    let rows = c.args.rows.now in
    let i = c.loop-place.place in
    let row : Row = g.R.Columns.columns c.at-row.result.now in
    let is = item_at rows i row c.at-row.ensures in
    let within : i < length rows = omega (arith, c.len-place-end.ensures, c.loop-place-test.true) in
    let key = c.columns_of.result in
    let t : Row → Bool = λ row. same_row (g.R.Columns.columns k) (columns_at c.args.places.now row) in
    ap (λ (es : List (g.row.R.Denot × List Row)). unwrap_or (lookup (g.R.PartialEq.eq k) es) []) c.in_ok-put_row.ensures
    ∙ one_added g.R.PartialEq.eq g.R.Columns.columns g.met.R.AnyRow.same c.loop-place.groups.entries key k row
    ∙ ap (λ (rs : List Row). rs ++ cond (g.R.PartialEq.eq k key) (row ∷ []) []) (c.loop-place.invariant k)
    ∙ ap (λ b. filter t (take i rows) ++ cond b (row ∷ []) []) (g.met.R.AnyRow.same k key ∙ ap (same_row (g.R.Columns.columns k)) c.columns_of.ensures)
    ∙ sym (filter_more t rows i row within is)
