use Rattle.std.proofs.Common.{◌≡◌, take}
use Rattle.sn_engine.proofs.lane_row.narrow.Given as goal

abbrev pub invariant-loop-column : goal.invariant-loop-column
invariant-loop-column l = l.short ≡ take l.column-index l.column-items
