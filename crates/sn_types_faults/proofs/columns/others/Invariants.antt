use Rattle.std.proofs.Common.{◌≡◌, take, filter, not}
use Rattle.sn_types_faults.specs.Names.{is_in}
use Rattle.sn_types_faults.proofs.columns.others.Given as goal

abbrev pub invariant-loop-column : goal.invariant-loop-column
invariant-loop-column l = l.left ≡ filter (λ c. not (is_in c.name l.keys)) (take l.column-index l.columns)
