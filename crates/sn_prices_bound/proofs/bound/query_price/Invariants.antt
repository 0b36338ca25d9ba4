use Rattle.std.proofs.Common.{◌≡◌, ℕ, ◌^◌, ◌≤◌}
use Rattle.std.specs.List.{sum_by}
use Rattle.sn_plan_choices.specs.Planning.{PathTask, pieces_of}
use Rattle.sn_plan_choices.specs.Within.{least_below}
use Rattle.sn_plan_space.specs.Known.{known_query}
use Rattle.sn_prices.specs.Least.{least_piece}
use Rattle.sn_prices_bound.proofs.bound.query_price.Given as goal

abbrev pub invariant-loop-m : goal.invariant-loop-m
invariant-loop-m l = record {
  value : (entry : ℕ → ℕ → ℕ → ℕ → ℕ) (t : PathTask) → l.query ≡ known_query l.s entry t
      → l.least ≡ least_below (λ m. sum_by (least_piece l.s entry l.p) (pieces_of t m)) l.m;
  most : l.least ≤ 2 ^ 112;
}
