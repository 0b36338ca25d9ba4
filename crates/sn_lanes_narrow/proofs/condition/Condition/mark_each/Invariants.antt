use Rattle.std.proofs.Common.{◌≡◌, take}
use Rattle.sn_lanes_narrow.specs.Marks.{marks_of}
use Rattle.sn_lanes_narrow.proofs.condition.Condition.mark_each.Given as goal

abbrev pub invariant-loop-place : goal.invariant-loop-place
invariant-loop-place l = take l.place l.out ≡ marks_of l.self (take l.place l.tuples)
