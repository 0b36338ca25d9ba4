use Rattle.std.proofs.Common.{◌≡◌, ◌≤◌, ◌^◌, ◌-◌, ◌+◌, drop}
use Rattle.sn_plan_fit.specs.Pieces.{all_metadata}
use Rattle.sn_plan_fit.specs.Capped.{capped}
use Rattle.sn_plan_fit.proofs.metadata.plan_metadata.Given as goal

abbrev pub invariant-loop-query : goal.invariant-loop-query
invariant-loop-query l = record { value : capped (l.metadata + all_metadata (drop l.query-index l.queries) l.rest) ≡ capped (all_metadata l.queries l.entries); most : l.metadata ≤ 2 ^ 64 - 1 }
