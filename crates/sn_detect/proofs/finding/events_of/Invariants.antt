use Rattle.std.proofs.Common.{◌≡◌, take}
use Rattle.std.specs.List.{flat_map}
use Rattle.sn_detect.specs.Finding.{look_events}
use Rattle.sn_detect.proofs.finding.events_of.Given as goal

abbrev pub invariant-loop-look : goal.invariant-loop-look
invariant-loop-look l = l.events ≡ flat_map look_events (take l.look-index l.looks)
