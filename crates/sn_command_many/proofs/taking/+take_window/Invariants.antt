use Rattle.std.proofs.Common.{length}
use Rattle.sn_command_many.proofs.taking.+take_window.Given as goal

abbrev pub decreases-take_window : goal.decreases-take_window
decreases-take_window l = length l.shares.now
