use Rattle.std.proofs.Common.{length}
use Rattle.sn_ops.proofs.start.+start.Given as goal

-- proposed from what the function passes where it calls itself
abbrev pub decreases-start : goal.decreases-start
decreases-start g l = length l.ops.now
