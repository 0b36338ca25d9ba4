use Rattle.std.proofs.Common.{length}
use Rattle.sn_test_queries.proofs.blocks.+is_of.Given as goal

abbrev pub decreases-is_of : goal.decreases-is_of
decreases-is_of l = length l.columns.now
