use Rattle.std.proofs.Common.{◌≡◌, ◌++◌, map, take, Some}
use Rattle.sn_engine_split.specs.Opened.{keeps_in}
use Rattle.sn_pipe_items.specs.Left.{left_of}
use Rattle.sn_report.specs.Items.{item_by}
use Rattle.sn_engine.proofs.left.push_left.Given as goal

abbrev pub invariant-loop-item : goal.invariant-loop-item
invariant-loop-item g l = map (item_by g.R.Columns.columns) l.found.items
    ≡ map (item_by g.R.Columns.columns) l.initial.found.items ++ left_of (keeps_in (Some l.field) l.branch (Some (l.bits, l.members))) (map (item_by g.R.Columns.columns) (take l.item-index l.items))
