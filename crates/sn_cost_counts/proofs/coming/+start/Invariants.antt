use Rattle.std.proofs.Common.{length}
use Rattle.sn_cost_counts.proofs.coming.+start.Given as goal

abbrev pub decreases-start : goal.decreases-start
decreases-start g l = length l.ops.now
