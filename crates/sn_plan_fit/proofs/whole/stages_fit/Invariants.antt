use Rattle.std.proofs.Common.{◌≡◌, ◌-◌}
use Rattle.sn_plan_fit.specs.Pieces.{all_registers, loads_misfit}
use Rattle.sn_plan_fit.proofs.whole.stages_fit.Given as goal

abbrev pub invariant-loop-stage : goal.invariant-loop-stage
invariant-loop-stage l = loads_misfit l.switch (all_registers l.switch.chain l.queries l.entries) l.stage (l.switch.stages - l.stage) ≡ loads_misfit l.switch (all_registers l.switch.chain l.queries l.entries) 0 l.switch.stages
