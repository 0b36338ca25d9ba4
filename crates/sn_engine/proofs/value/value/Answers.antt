use Rattle.std.proofs.Common.{◌+◌, ◌<◌, List, ◌++◌, length, map, ap, ◌∙◌, arith}
use Rattle.sn_base.specs.Groups.{Row}
use Rattle.sn_pipe_items.specs.Value.{is_at, rows_with}
use Rattle.sn_report.specs.Items.{Item, item_by}
use Rattle.sn_engine.proofs.Turns.{turn}
use Rattle.sn_engine.proofs.value.value.Goals as goal

pub loop-op-preserved : goal.loop-op-preserved
loop-op-preserved g c =
    let level = c.args.level in
    let n = c.loop-op.operator in
    let op = c.op-item.result in
    let items : List Item = map (item_by g.R.Columns.columns) c.args.items.now in
    let within : c.loop-op.op-index < length c.args.ops.now = omega arith in
    let more : List Row = rows_with (is_at (n + 1)) items in
    turn level n c.loop-op.op-index c.args.ops.now op items c.loop-op.rows c.push_rows_at-in-loop-op.new.rows within c.op-item.is c.loop-op.invariant
    (c.in_ok-push_rows_at-2.ensures ∙ ap (λ (out : List Row). out ++ more) c.in_ok-rows-2.ensures)
