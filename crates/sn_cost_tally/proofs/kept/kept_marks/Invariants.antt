use Rattle.sn_cost_tally.proofs.Keeping.{Kept}
use Rattle.sn_cost_tally.proofs.kept.kept_marks.Given as goal

abbrev pub invariant-loop-place : goal.invariant-loop-place
invariant-loop-place l = Kept l.stay l.marks l.place l.out.items
