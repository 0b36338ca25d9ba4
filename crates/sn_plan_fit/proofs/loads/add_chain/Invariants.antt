use Rattle.std.proofs.Common.{◌≡◌, ℕ, drop, map}
use Rattle.sn_plan_fit.specs.Registers.{in_stage}
use Rattle.sn_plan_fit.specs.Capped.{capped}
use Rattle.sn_plan_fit.proofs.LoadLaws.{Adding}
use Rattle.sn_plan_fit.proofs.loads.add_chain.Given as goal

abbrev pub invariant-loop-stage : goal.invariant-loop-stage
invariant-loop-stage l = (all : ℕ) → l.bits ≡ capped all → Adding l.fn.loads l.loads (map (in_stage all) (drop l.stage-index l.stages)) (map (in_stage all) l.stages)
