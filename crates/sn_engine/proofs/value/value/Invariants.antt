use Rattle.std.proofs.Common.{drop, map}
use Rattle.sn_report.specs.Items.{item_by}
use Rattle.sn_engine.proofs.Turns.{Finishes}
use Rattle.sn_engine.proofs.value.value.Given as goal

abbrev pub invariant-loop-op : goal.invariant-loop-op
invariant-loop-op g l = Finishes l.level l.operator l.op-index (drop l.op-index l.ops) l.ops (map (item_by g.R.Columns.columns) l.items) l.rows
