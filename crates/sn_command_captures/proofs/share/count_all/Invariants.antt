use Rattle.std.proofs.Common.{◌≡◌, ◌-◌, length}
use Rattle.sn_command_captures.specs.Walks.{are_few, packets_from}
use Rattle.sn_windows.specs.NumberingOf.{numbering}
use Rattle.sn_command_captures.proofs.share.count_all.Given as goal

-- what is known of all packets is known of those that are left
abbrev pub invariant-records : goal.invariant-records
invariant-records l = are_few (numbering l.fn.begun) (packets_from l.header l.file 24) ≡ are_few (numbering l.windows) (packets_from l.header l.file l.at)

abbrev pub decreases-records : goal.decreases-records
decreases-records l = length l.file - l.at
