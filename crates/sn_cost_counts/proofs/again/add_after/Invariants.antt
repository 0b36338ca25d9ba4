use Rattle.std.proofs.Common.{◌≡◌, ◌++◌, map, take}
use Rattle.sn_cost_counts.specs.Shared.{following, over_and_marks, staying}
use Rattle.sn_cost_counts.proofs.again.add_after.Given as goal

abbrev pub invariant-loop-homes : goal.invariant-loop-homes
invariant-loop-homes g l = l.out.items ≡ l.fn.out.items ++ map (λ h. following l.before (staying l.shared.distinct l.shared.rows (over_and_marks h))) (take l.homes-index l.shared.homes.items)
