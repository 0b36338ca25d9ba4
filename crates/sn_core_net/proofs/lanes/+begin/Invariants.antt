use Rattle.std.proofs.Common.{length}
use Rattle.sn_core_net.proofs.lanes.+begin.Given as goal

abbrev pub decreases-begin : goal.decreases-begin
decreases-begin l = length l.lanes.now
