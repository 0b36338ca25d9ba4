use Rattle.sn_out.proofs.RowLemmas.{filled_up}
use Rattle.sn_out.proofs.csv_rows.with_columns.Goals as goal

pub returns : goal.returns
returns g c =
    filled_up c.with_empty_fields.result c.args.fields c.in_ok-longer.longer c.args.columns.now (g.R.Columns.columns c.args.row.now) c.len.result
    c.requires c.len.ensures.value c.in_ok-longer.ensures c.with_empty_fields.ensures
