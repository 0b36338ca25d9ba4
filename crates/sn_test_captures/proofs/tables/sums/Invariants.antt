use Rattle.sn_test_captures.proofs.SmallSums.{AreSmall}
use Rattle.sn_test_captures.proofs.tables.sums.Given as goal

abbrev pub invariant-loop-pair : goal.invariant-loop-pair
invariant-loop-pair g l = AreSmall l.table.entries
