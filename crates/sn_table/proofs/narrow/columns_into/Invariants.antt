use Rattle.sn_table.proofs.Digits.{Unpacks}
use Rattle.sn_table.proofs.narrow.columns_into.Given as goal

abbrev pub invariant-loop-place : goal.invariant-loop-place
invariant-loop-place g l = Unpacks l.columns l._place l.number l.rest (g.R.Columns.columns l.row)
