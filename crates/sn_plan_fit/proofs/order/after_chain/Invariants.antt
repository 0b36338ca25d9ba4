use Rattle.std.proofs.Common.{◌≡◌, ◌≤◌, ◌^◌, ◌++◌, List, map, max, drop}
use Rattle.sn_plan_fit.specs.Placing.{Table, register}
use Rattle.sn_plan_fit.specs.Tables.{order_misfit}
use Rattle.sn_plan_fit.specs.Gaps.{least_after}
use Rattle.sn_plan_fit.proofs.order.after_chain.Given as goal

abbrev pub invariant-loop-stage : goal.invariant-loop-stage
invariant-loop-stage l = record {
  order : (following : List Table) → order_misfit l.least (map register (drop l.stage-index l.stages) ++ following) ≡ order_misfit l.fn.least (map register l.stages ++ following);
  least : (following : List Table) → least_after l.least (map register (drop l.stage-index l.stages) ++ following) ≡ least_after l.fn.least (map register l.stages ++ following);
  most : l.least ≤ max l.fn.least (2 ^ 32);
}
