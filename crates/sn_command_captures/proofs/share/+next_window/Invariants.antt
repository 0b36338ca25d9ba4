use Rattle.std.proofs.Common.{length}
use Rattle.sn_command_captures.proofs.share.+next_window.Given as goal

abbrev pub decreases-next_window : goal.decreases-next_window
decreases-next_window l = length l.shares.now
