use Rattle.std.proofs.Common.{length}
use Rattle.sn_core_net.proofs.lanes.+begin_bare.Given as goal

abbrev pub decreases-begin_bare : goal.decreases-begin_bare
decreases-begin_bare l = length l.lanes.now
