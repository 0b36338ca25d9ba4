use Rattle.std.proofs.Common.{◌≡◌, drop}
use Rattle.sn_types_faults.specs.Columns.{copy_name}
use Rattle.sn_types_faults.proofs.carried.copy_name.Given as goal

abbrev pub invariant-loop-col : goal.invariant-loop-col
invariant-loop-col l = copy_name l.name (drop l.col-index l.cols) ≡ copy_name l.name l.cols
