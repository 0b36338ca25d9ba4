use Rattle.std.proofs.Common.{ℕ, List, ◌++◌, map, take}
use Rattle.sn_command_training.specs.Collecting.{IsCollected, Seen, shown}
use Rattle.sn_command_training.proofs.collected.Collected.take_all.Given as goal

abbrev pub invariant-loop-packet : goal.invariant-loop-packet
invariant-loop-packet l = (window : ℕ) (seen : List Seen) → IsCollected window seen l.fn.self → IsCollected window (seen ++ map (shown l.link l.file) (take l.packet-index l.packets)) l.self
