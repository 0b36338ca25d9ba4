use Rattle.std.proofs.Common.{length}
use Rattle.sn_test_queries.proofs.blocks.+are_parts_of.Given as goal

abbrev pub decreases-are_parts_of : goal.decreases-are_parts_of
decreases-are_parts_of l = length l.parts.now
