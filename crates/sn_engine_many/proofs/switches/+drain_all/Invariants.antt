use Rattle.std.proofs.Common.{length}
use Rattle.sn_engine_many.proofs.switches.+drain_all.Given as goal

abbrev pub decreases-drain_all : goal.decreases-drain_all
decreases-drain_all l = length l.switches.now
