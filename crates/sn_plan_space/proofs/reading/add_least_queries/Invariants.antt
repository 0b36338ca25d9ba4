use Rattle.std.proofs.Common.{◌≡◌, ◌≤◌, ◌^◌, ◌-◌, ◌+◌, drop}
use Rattle.std.specs.List.{sum_by}
use Rattle.sn_plan_fit.specs.Capped.{capped}
use Rattle.sn_plan_space.specs.declared.known.KnownQuery.{KnownQuery}
use Rattle.sn_plan_space.proofs.reading.add_least_queries.Given as goal

abbrev pub invariant-loop-query : goal.invariant-loop-query
invariant-loop-query l = record {
  value : capped (l.total + sum_by (λ (q : KnownQuery). q.least) (drop l.query-index l.queries)) ≡ capped (l.sum + sum_by (λ (q : KnownQuery). q.least) l.queries);
  most : l.total ≤ 2 ^ 64 - 1;
}
