use Rattle.std.proofs.Common.{length}
use Rattle.sn_core_net.proofs.lanes.+take_tuple.Given as goal

abbrev pub decreases-take_tuple : goal.decreases-take_tuple
decreases-take_tuple l = length l.lanes.now
