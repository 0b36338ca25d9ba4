use Rattle.std.proofs.Common.{◌≡◌, take, map}
use Rattle.sn_base.specs.Operators.{pair_of}
use Rattle.sn_ops.specs.Flow.{grouping_of}
use Rattle.sn_ops.proofs.GroupSteps.{groups_of}
use Rattle.sn_ops.proofs.group.groups_of.Given as goal

abbrev pub invariant-loop-place : goal.invariant-loop-place
invariant-loop-place g l = l.groups.entries ≡ groups_of (grouping_of l.r) (map (pair_of (grouping_of l.r)) (take l.place l.rows))
