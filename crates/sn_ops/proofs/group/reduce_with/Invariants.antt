use Rattle.std.proofs.Common.{◌≡◌, take}
use Rattle.sn_ops.specs.Flow.{grouping_of}
use Rattle.sn_ops.proofs.GroupSteps.{groups_of, pairs_to}
use Rattle.sn_ops.proofs.group.reduce_with.Given as goal

abbrev pub invariant-loop-place : goal.invariant-loop-place
invariant-loop-place g l = l.groups.entries ≡ groups_of (grouping_of l.r) (pairs_to (grouping_of l.r) l.rows (take l.place l.parts))
