use Rattle.std.proofs.Common.{◌≡◌}
use Rattle.sn_ops_stream.proofs.queries.expect_all.Given as goal

abbrev pub invariant-loop-place : goal.invariant-loop-place
invariant-loop-place l = l.streams ≡ l.initial.streams
