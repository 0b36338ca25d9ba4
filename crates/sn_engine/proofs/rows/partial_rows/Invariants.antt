use Rattle.std.proofs.Common.{◌≡◌, map, take}
use Rattle.sn_pipe_items.specs.Value.{is_partial, rows_with}
use Rattle.sn_report.specs.Items.{item_by}
use Rattle.sn_engine.proofs.rows.partial_rows.Given as goal

abbrev pub invariant-loop-item : goal.invariant-loop-item
invariant-loop-item g l = l.rows ≡ rows_with (is_partial l.operator) (map (item_by g.R.Columns.columns) (take l.item-index l.items))
