use Rattle.std.proofs.Common.{◌≡◌, ◌++◌, replicate}
use Rattle.sn_cost_counts.proofs.passing.add_repeated_count.Given as goal

abbrev pub invariant-loop : goal.invariant-loop
invariant-loop l = l.counts ≡ l.fn.counts ++ replicate l.counter l.count
