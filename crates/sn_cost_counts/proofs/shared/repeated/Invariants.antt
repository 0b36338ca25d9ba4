use Rattle.std.proofs.Common.{◌≡◌, suc, map, replicate}
use Rattle.std.specs.List.{flat_map}
use Rattle.sn_cost_counts.specs.Shared.{over_and_marks}
use Rattle.sn_cost_counts.proofs.shared.repeated.Given as goal

abbrev pub invariant-loop : goal.invariant-loop
invariant-loop l = map over_and_marks l.out.items ≡ flat_map (λ h. h) (replicate (suc l.counter) (map over_and_marks l.homes.items))
