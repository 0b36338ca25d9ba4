use Rattle.std.proofs.Common.{◌≡◌, ◌≤◌, ◌^◌, ◌-◌, ◌+◌, drop}
use Rattle.std.specs.List.{sum_by}
use Rattle.sn_plan_fit.specs.Registers.{width_at}
use Rattle.sn_plan_fit.specs.Capped.{capped}
use Rattle.sn_plan_fit.proofs.width.width_of.Given as goal

abbrev pub invariant-loop-place : goal.invariant-loop-place
invariant-loop-place l = record { value : capped (l.width + sum_by (width_at l.columns) (drop l.place-index l.places)) ≡ capped (sum_by (width_at l.columns) l.places); most : l.width ≤ 2 ^ 64 - 1 }
