use Rattle.std.proofs.Common.{◌≡◌, take}
use Rattle.sn_engine.proofs.lane_row.all_widened.Given as goal

abbrev pub invariant-loop-item : goal.invariant-loop-item
invariant-loop-item l = l.wide.items ≡ take l.item-index l.items
