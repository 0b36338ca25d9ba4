use Rattle.std.proofs.Common.{◌≡◌, ◌*◌, ◌^◌, ◌≤◌}
use Rattle.sn_prices.specs.Limits.{stages_worth}
use Rattle.sn_prices_bound.proofs.worth.stages_worth.Given as goal

abbrev pub invariant-loop-stage : goal.invariant-loop-stage
invariant-loop-stage l = record {
  value : l.total ≡ stages_worth l.s l.p l.stage;
  most : l.total ≤ l.stage * 2 ^ 104;
}
