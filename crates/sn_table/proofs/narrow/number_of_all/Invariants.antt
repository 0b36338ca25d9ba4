use Rattle.sn_table.proofs.Digits.{Packs}
use Rattle.sn_table.proofs.narrow.number_of_all.Given as goal

abbrev pub invariant-loop-place : goal.invariant-loop-place
invariant-loop-place g l = Packs l.columns l.place (g.R.Columns.columns l.key) l.number
