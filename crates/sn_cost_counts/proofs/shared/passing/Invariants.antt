use Rattle.std.proofs.Common.{◌≡◌, map, take}
use Rattle.std.specs.List.{list_all}
use Rattle.sn_types.specs.Values.{holds}
use Rattle.sn_cost_counts.proofs.shared.passing.Given as goal

abbrev pub invariant-loop-place : goal.invariant-loop-place
invariant-loop-place g l = l.stay.items ≡ map (λ row. list_all (λ c. holds l.level c row) l.conds) (take l.place l.rows)
