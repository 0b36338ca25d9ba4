use Rattle.std.proofs.Common.{◌≡◌, length, ◌≤◌, ◌+◌}
use Rattle.sn_types.specs.Cuts.{cut_after_distinct}
use Rattle.sn_types.proofs.cuts.cut_after_distinct.Given as goal

abbrev pub invariant-loop-op : goal.invariant-loop-op
invariant-loop-op l = record { value : l.count + cut_after_distinct l.rest ≡ cut_after_distinct l.ops; most : l.count + length l.rest ≤ length l.ops }

abbrev pub decreases-loop-op : goal.decreases-loop-op
decreases-loop-op l = length l.rest
