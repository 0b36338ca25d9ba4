use Rattle.std.proofs.Common.{◌≡◌, ◌++◌, drop}
use Rattle.sn_out.specs.Records.{number_fields}
use Rattle.sn_out.proofs.fields.with_values.Given as goal

abbrev pub invariant-loop-place : goal.invariant-loop-place
invariant-loop-place g l =
    l.longer ++ number_fields (drop l.place l.columns) (drop l.place (g.R.Columns.columns l.row)) ≡ l.fn.fields ++ number_fields l.columns (g.R.Columns.columns l.row)
