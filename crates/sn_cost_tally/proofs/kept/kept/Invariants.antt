use Rattle.sn_cost_tally.proofs.Keeping.{Kept}
use Rattle.sn_cost_tally.proofs.kept.kept.Given as goal

abbrev pub invariant-loop-place : goal.invariant-loop-place
invariant-loop-place g l = Kept l.marks l.rows l.place l.out
