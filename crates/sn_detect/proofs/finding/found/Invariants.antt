use Rattle.std.proofs.Common.{◌≡◌, [], length, reverse}
use Rattle.sn_detect.specs.Finding.{found_on}
use Rattle.sn_detect.proofs.finding.found.Given as goal

abbrev pub invariant-events : goal.invariant-events
invariant-events l = found_on l.events (reverse l.stays) ≡ found_on l.initial.events []

abbrev pub decreases-events : goal.decreases-events
decreases-events l = length l.events
