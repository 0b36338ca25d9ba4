use Rattle.std.proofs.Common.{◌≡◌, take, map}
use Rattle.sn_types_faults.specs.Columns.{mapped_column}
use Rattle.sn_types_faults.proofs.columns.mapped_columns.Given as goal

abbrev pub invariant-loop-col : goal.invariant-loop-col
invariant-loop-col l = l.made ≡ map (mapped_column l.columns) (take l.col-index l.cols)
