use Rattle.std.proofs.Common.{length}
use Rattle.sn_cost_counts.proofs.coming.+go.Given as goal

abbrev pub decreases-go : goal.decreases-go
decreases-go g l = length l.ops.now
