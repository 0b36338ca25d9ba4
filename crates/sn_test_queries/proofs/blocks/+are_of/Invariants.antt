use Rattle.std.proofs.Common.{length}
use Rattle.sn_test_queries.proofs.blocks.+are_of.Given as goal

abbrev pub decreases-are_of : goal.decreases-are_of
decreases-are_of l = length l.rows.now
