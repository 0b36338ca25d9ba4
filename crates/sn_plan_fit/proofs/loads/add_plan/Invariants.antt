use Rattle.std.proofs.Common.{drop}
use Rattle.sn_plan_fit.specs.Pieces.{all_registers}
use Rattle.sn_plan_fit.proofs.LoadLaws.{Adding}
use Rattle.sn_plan_fit.proofs.loads.add_plan.Given as goal

abbrev pub invariant-loop-query : goal.invariant-loop-query
invariant-loop-query l = Adding l.fn.loads l.loads (all_registers l.depth (drop l.query-index l.queries) l.rest) (all_registers l.depth l.queries l.entries)
