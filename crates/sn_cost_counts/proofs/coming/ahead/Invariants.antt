use Rattle.std.proofs.Common.{◌≡◌, ◌+◌, length}
use Rattle.sn_cost_counts.specs.Coming.{ahead}
use Rattle.sn_cost_counts.proofs.coming.ahead.Given as goal

abbrev pub invariant-loop-op : goal.invariant-loop-op
invariant-loop-op l = record {
  value : l.count + ahead l.rest ≡ ahead l.ops;
  most : l.count + length l.rest ≡ length l.ops;
}

abbrev pub decreases-loop-op : goal.decreases-loop-op
decreases-loop-op l = length l.rest
