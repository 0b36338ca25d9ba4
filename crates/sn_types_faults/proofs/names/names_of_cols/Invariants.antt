use Rattle.std.proofs.Common.{◌≡◌, take}
use Rattle.std.specs.List.{flat_map}
use Rattle.sn_types_faults.specs.Names.{names_in}
use Rattle.sn_types_faults.proofs.names.names_of_cols.Given as goal

abbrev pub invariant-loop-col : goal.invariant-loop-col
invariant-loop-col l = l.names ≡ flat_map (λ c. names_in c.expr) (take l.col-index l.cols)
