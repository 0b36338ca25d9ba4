use Rattle.std.proofs.Common.{map, take}
use Rattle.sn_engine.specs.Spans.{Covers}
use Rattle.sn_report.specs.Items.{item_by}
use Rattle.sn_engine.proofs.rows.span_of.Given as goal

abbrev pub invariant-loop-item : goal.invariant-loop-item
invariant-loop-item g l = Covers l.span (take l.item-index (map (item_by g.R.Columns.columns) l.items))
