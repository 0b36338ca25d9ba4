use Rattle.std.proofs.Common.{◌≡◌, ◌+◌, ◌++◌, length, map, take}
use Rattle.sn_cost_seats.specs.Tallies.{marked}
use Rattle.sn_cost_counts.proofs.shared.add_marked.Given as goal

abbrev pub invariant-loop-each : goal.invariant-loop-each
invariant-loop-each g l = l.counts ≡ l.fn.counts ++ map (λ h. h.over + length (marked h.marks.items l.rows)) (take l.each-index l.homes)
