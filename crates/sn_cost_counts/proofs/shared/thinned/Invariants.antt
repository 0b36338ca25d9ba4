use Rattle.std.proofs.Common.{◌≡◌, map, take}
use Rattle.sn_cost_seats.specs.Tallies.{marked}
use Rattle.sn_cost_counts.specs.Shared.{over_and_marks}
use Rattle.sn_cost_counts.proofs.shared.thinned.Given as goal

abbrev pub invariant-loop-each : goal.invariant-loop-each
invariant-loop-each l = map over_and_marks l.out.items ≡ map (λ h. (h.over, marked l.stay h.marks.items)) (take l.each-index l.homes)
