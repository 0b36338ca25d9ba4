use Rattle.std.proofs.Common.{◌≡◌, take}
use Rattle.std.specs.List.{flat_map}
use Rattle.sn_command_captures.proofs.CountLemmas.{some_least}
use Rattle.sn_command_captures.specs.Windows.{first_time}
use Rattle.sn_command_captures.proofs.count.start.Given as goal

abbrev pub invariant-loop-capture : goal.invariant-loop-capture
invariant-loop-capture l = l.least ≡ some_least (flat_map first_time (take l.capture-index l.captures))
