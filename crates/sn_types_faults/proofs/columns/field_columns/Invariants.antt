use Rattle.std.proofs.Common.{◌≡◌, take, map}
use Rattle.sn_types_faults.specs.Columns.{field_column}
use Rattle.sn_types_faults.proofs.columns.field_columns.Given as goal

abbrev pub invariant-loop-field : goal.invariant-loop-field
invariant-loop-field l = l.columns ≡ map field_column (take l.field-index l.fields)
