use Rattle.std.proofs.Common.{ℕ, List, map, ap, ap₂, sym, subst, ◌<◌, ◌∙◌}
use Rattle.indexmap.specs.IndexSet.{insert_key}
use Rattle.sn_base.specs.Groups.{Row, same_row}
use Rattle.sn_table.specs.Narrow.{columns_of}
use Rattle.sn_table.proofs.NarrowKeys.{short_at}
use Rattle.sn_table.proofs.NarrowRows.{one_row_widened}
use Rattle.sn_table.proofs.RowKeys.{put_key_by_row}
use Rattle.sn_table.proofs.keys.rows_of.Goals as goal

pub columns_into-requires-clause-single : goal.columns_into-requires-clause-single
columns_into-requires-clause-single g c =
    let n : ℕ = c.in-Some.number.now in
    let at = sym c.in-Some.ensures.key in
    λ one. subst (λ m. m < g.R.Number.Number.limit) (sym c.get.ensures) ((short_at g.R.Number.Number.limit c.args.columns c.args.numbers.now.keys c.loop-place.place n c.requires at).single one)

pub loop-place-preserved : goal.loop-place-preserved
loop-place-preserved g c =
    let ns = c.args.numbers.now.keys in
    let n : ℕ = c.in-Some.number.now in
    ap (map g.R.Columns.columns) c.in_ok-insert_row.ensures.keys
    ∙ put_key_by_row g.R.PartialEq.eq g.R.Columns.columns g.met.R.AnyRow.same c.columns_into.new.row c.loop-place.rows.keys
    ∙ ap₂ (λ (rows : List Row) (row : Row). insert_key same_row rows row) c.loop-place.invariant (c.columns_into.ensures ∙ ap (columns_of c.args.columns) c.get.ensures)
    ∙ one_row_widened g.R.Number.Number.limit c.args.columns ns c.loop-place.place n c.requires c.len-place-end.ensures.unique (sym c.in-Some.ensures.key)
