use Rattle.std.proofs.Common.{◌≡◌, length, ◌≤◌, ◌+◌}
use Rattle.sn_types.specs.Cuts.{greatest_cut}
use Rattle.sn_types.proofs.cuts.greatest_cut.Given as goal

abbrev pub invariant-loop-op : goal.invariant-loop-op
invariant-loop-op l = record { value : l.count + greatest_cut l.rest ≡ greatest_cut l.ops; most : l.count + length l.rest ≤ length l.ops }

abbrev pub decreases-loop-op : goal.decreases-loop-op
decreases-loop-op l = length l.rest
