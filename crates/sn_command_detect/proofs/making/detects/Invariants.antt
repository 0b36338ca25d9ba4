use Rattle.std.proofs.Common.{[], take}
use Rattle.sn_command_detect.specs.Detected.{watched_from}
use Rattle.sn_command_detect.specs.Watching.{AreAfter}
use Rattle.sn_command_detect.proofs.making.detects.Given as goal

abbrev pub invariant-loop-q : goal.invariant-loop-q
invariant-loop-q l = AreAfter l.typed.queries [] (watched_from l.typed.queries 0 (take l.q l.entries)) l.made.items
