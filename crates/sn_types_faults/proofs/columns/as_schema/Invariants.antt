use Rattle.std.proofs.Common.{◌≡◌, take}
use Rattle.sn_types_faults.proofs.columns.as_schema.Given as goal

abbrev pub invariant-loop-column : goal.invariant-loop-column
invariant-loop-column l = l.schema ≡ take l.column-index l.columns
