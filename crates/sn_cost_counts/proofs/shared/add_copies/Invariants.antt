use Rattle.std.proofs.Common.{◌≡◌, ◌++◌, map, take}
use Rattle.sn_cost_counts.specs.Shared.{over_and_marks}
use Rattle.sn_cost_counts.proofs.shared.add_copies.Given as goal

abbrev pub invariant-loop-each : goal.invariant-loop-each
invariant-loop-each l = map over_and_marks l.out.items ≡ map over_and_marks l.fn.out.items ++ map over_and_marks (take l.each-index l.homes)
