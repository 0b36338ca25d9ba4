use Rattle.std.proofs.Common.{◌≡◌, ◌≤◌, ◌+◌, ◌*◌, ◌^◌, drop}
use Rattle.sn_plan_fit.specs.Registers.{row_width}
use Rattle.sn_plan_fit.proofs.width.row_width.Given as goal

abbrev pub invariant-loop-column : goal.invariant-loop-column
invariant-loop-column l = record { value : l.width + row_width (drop l.column-index l.columns) ≡ row_width l.columns; most : l.width ≤ l.column-index * 2 ^ 32 }
