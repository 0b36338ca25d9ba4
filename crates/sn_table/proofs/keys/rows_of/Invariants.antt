use Rattle.std.proofs.Common.{◌≡◌, map, take}
use Rattle.sn_table.specs.Narrow.{columns_of}
use Rattle.sn_table.proofs.keys.rows_of.Given as goal

abbrev pub invariant-loop-place : goal.invariant-loop-place
invariant-loop-place g l = map g.R.Columns.columns l.rows.keys ≡ map (columns_of l.columns) (take l.place l.numbers.keys)
