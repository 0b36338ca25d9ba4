use Rattle.std.proofs.Common.{◌≡◌, take, map}
use Rattle.sn_types_faults.specs.Columns.{column_named}
use Rattle.sn_types_faults.proofs.columns.columns_named.Given as goal

abbrev pub invariant-loop-name : goal.invariant-loop-name
invariant-loop-name l = l.named ≡ map (column_named l.columns) (take l.name-index l.names)
