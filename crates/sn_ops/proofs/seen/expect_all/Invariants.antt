use Rattle.std.proofs.Common.{◌≡◌}
use Rattle.sn_ops.proofs.seen.expect_all.Given as goal

abbrev pub invariant-loop-place : goal.invariant-loop-place
invariant-loop-place g l = l.seen ≡ l.initial.seen
