use Rattle.std.proofs.Common.{length}
use Rattle.sn_command_detect.proofs.giving.+give.Given as goal

abbrev pub decreases-give : goal.decreases-give
decreases-give l = length l.detects.now
