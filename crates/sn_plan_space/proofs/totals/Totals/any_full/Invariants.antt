use Rattle.std.proofs.Common.{◌≡◌, ◌-◌, List}
use Rattle.std.specs.List.{list_any, range_with_len}
use Rattle.sn_plan_choices.specs.Planning.{Taken, is_full}
use Rattle.sn_plan_space.specs.Totals.{AreTotals, any_full}
use Rattle.sn_plan_space.proofs.totals.Totals.any_full.Given as goal

abbrev pub invariant-loop-stage : goal.invariant-loop-stage
invariant-loop-stage l = (taken : List Taken) → AreTotals l.self taken → list_any (is_full l.s taken) (range_with_len l.stage (l.s.stages - l.stage)) ≡ any_full l.s taken
