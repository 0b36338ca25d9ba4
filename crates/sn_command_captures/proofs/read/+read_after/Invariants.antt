use Rattle.std.proofs.Common.{length}
use Rattle.sn_command_captures.proofs.read.+read_after.Given as goal

abbrev pub decreases-read_after : goal.decreases-read_after
decreases-read_after g l = length l.names.now
