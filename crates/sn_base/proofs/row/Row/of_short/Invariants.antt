use Rattle.std.proofs.Common.{◌≡◌, take}
use Rattle.sn_base.proofs.row.Row.of_short.Given as goal

abbrev pub invariant-loop-column : goal.invariant-loop-column
invariant-loop-column l = l.row ≡ take l.column-index l.column-items
