use Rattle.std.proofs.Common.{◌≡◌, ◌++◌, map, take}
use Rattle.sn_cost_counts.specs.Flows.{counted}
use Rattle.sn_cost_counts.proofs.passing.add_each.Given as goal

abbrev pub invariant-loop-flow : goal.invariant-loop-flow
invariant-loop-flow g l = l.counts ≡ l.fn.counts ++ map counted (take l.flow-index l.flows)
