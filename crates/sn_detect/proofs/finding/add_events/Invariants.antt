use Rattle.std.proofs.Common.{◌≡◌, ◌++◌, map, take}
use Rattle.sn_detect.specs.Finding.{event}
use Rattle.sn_detect.proofs.finding.add_events.Given as goal

abbrev pub invariant-loop-address : goal.invariant-loop-address
invariant-loop-address l = l.events ≡ l.fn.events ++ map (event l.window l.kind) (take l.address-index l.addresses)
