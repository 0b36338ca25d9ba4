use Rattle.std.proofs.Common.{◌≡◌, map, take}
use Rattle.sn_cost_counts.specs.Shared.{homes_at, over_and_marks}
use Rattle.sn_cost_counts.proofs.shared.homes_of.Given as goal

abbrev pub invariant-loop-size : goal.invariant-loop-size
invariant-loop-size g l = map over_and_marks l.all.items ≡ map (homes_at l.depth l.tally.keys l.tally.times.items) (take l.size-index l.slots)
