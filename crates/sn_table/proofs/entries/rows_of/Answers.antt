use Rattle.std.proofs.Common.{ℕ, List, map, ap, ap₂, sym, subst, ◌<◌, ◌∙◌}
use Rattle.indexmap.specs.IndexMap.{insert_entry}
use Rattle.sn_base.specs.Groups.{Row, same_row}
use Rattle.sn_table.specs.Narrow.{columns_of}
use Rattle.sn_table.proofs.Decoded.{keys}
use Rattle.sn_table.proofs.NarrowKeys.{key_at, one_widened, short_at}
use Rattle.sn_table.proofs.RowKeys.{put_by_row}
use Rattle.sn_table.proofs.entries.rows_of.Goals as goal

pub columns_into-requires-clause-single : goal.columns_into-requires-clause-single
columns_into-requires-clause-single g c =
    let es = c.args.numbers.now.entries in
    let n : ℕ = c.in-Some.number.now in
    let at = key_at es c.loop-place.place (n, c.in-Some.value.now) (sym c.in-Some.ensures.entry) in
    λ one. subst (λ m. m < g.R.Number.Number.limit) (sym c.get.ensures) ((short_at g.R.Number.Number.limit c.args.columns (keys es) c.loop-place.place n c.requires at).single one)

pub loop-place-preserved : goal.loop-place-preserved
loop-place-preserved g c =
    let es = c.args.numbers.now.entries in
    let n : ℕ = c.in-Some.number.now in
    let v : ℕ = c.in-Some.value.now in
    ap (map (λ e. (g.R.Columns.columns e.0, e.1))) c.in_default-insert.ensures.entries
    ∙ put_by_row g.R.PartialEq.eq g.R.Columns.columns g.met.R.AnyRow.same c.columns_into.new.row v c.loop-place.rows.entries
    ∙ ap₂ (λ (rows : List (Row × ℕ)) (key : Row). insert_entry same_row rows key v) c.loop-place.invariant (c.columns_into.ensures ∙ ap (columns_of c.args.columns) c.get.ensures)
    ∙ one_widened g.R.Number.Number.limit c.args.columns es c.loop-place.place (n, v) c.requires c.len-place-end.ensures.unique (sym c.in-Some.ensures.entry)
