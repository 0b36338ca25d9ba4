use Rattle.std.proofs.Common.{◌≡◌, ◌-◌, length}
use Rattle.sn_command_captures.specs.Walks.{ending_from}
use Rattle.sn_command_captures.proofs.record.ending_from.Given as goal

abbrev pub invariant-records : goal.invariant-records
invariant-records l = ending_from l.header l.file l.from ≡ ending_from l.header l.file l.at

abbrev pub decreases-records : goal.decreases-records
decreases-records l = length l.file - l.at
