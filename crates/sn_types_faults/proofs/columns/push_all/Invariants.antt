use Rattle.std.proofs.Common.{◌≡◌, ◌++◌, take}
use Rattle.sn_types_faults.proofs.columns.push_all.Given as goal

abbrev pub invariant-loop-column : goal.invariant-loop-column
invariant-loop-column l = l.columns ≡ l.initial.columns ++ take l.column-index l.more
