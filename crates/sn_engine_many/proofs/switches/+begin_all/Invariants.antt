use Rattle.std.proofs.Common.{length}
use Rattle.sn_engine_many.proofs.switches.+begin_all.Given as goal

abbrev pub decreases-begin_all : goal.decreases-begin_all
decreases-begin_all l = length l.switches.now
