use Rattle.std.proofs.Common.{◌≡◌, ℕ, ◌+◌, ◌*◌, ◌^◌, ◌≤◌, List, map, drop}
use Rattle.std.specs.List.{sum_by}
use Rattle.sn_plan_choices.specs.Planning.{PieceTask}
use Rattle.sn_plan_space.specs.Known.{known_piece}
use Rattle.sn_prices.specs.Least.{least_piece}
use Rattle.sn_prices_bound.proofs.bound.path_price.Given as goal

abbrev pub invariant-loop-piece : goal.invariant-loop-piece
invariant-loop-piece l = record {
  value : (entry : ℕ → ℕ → ℕ → ℕ → ℕ) (ts : List PieceTask) → l.pieces ≡ map (known_piece l.s entry) ts
      → l.total + sum_by (least_piece l.s entry l.p) (drop l.piece-index ts) ≡ sum_by (least_piece l.s entry l.p) ts;
  most : l.total ≤ l.piece-index * 2 ^ 109;
}
