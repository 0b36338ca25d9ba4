use Rattle.std.proofs.Common.{◌≡◌, ℕ, ◌+◌, ◌*◌, ◌^◌, ◌≤◌, List, map, drop}
use Rattle.sn_types.specs.declared.typed_query.TypedQuery.{TypedQuery}
use Rattle.sn_plan_space.specs.Known.{known_query, numbered}
use Rattle.sn_prices.specs.Least.{least_queries}
use Rattle.sn_prices_bound.proofs.bound.queries_price.Given as goal

abbrev pub invariant-loop-query : goal.invariant-loop-query
invariant-loop-query l = record {
  value : (entry : ℕ → ℕ → ℕ → ℕ → ℕ) (all : List TypedQuery) → l.queries ≡ map (known_query l.s entry) (numbered 0 all)
      → l.total + least_queries l.s entry l.p l.query-index (drop l.query-index all) ≡ least_queries l.s entry l.p 0 all;
  most : l.total ≤ l.query-index * 2 ^ 112;
}
