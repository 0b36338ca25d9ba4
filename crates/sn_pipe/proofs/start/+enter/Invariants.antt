use Rattle.std.proofs.Common.{length}
use Rattle.sn_pipe.proofs.start.+enter.Given as goal

abbrev pub decreases-enter : goal.decreases-enter
decreases-enter g l = length l.stages.now
