use Rattle.std.proofs.Common.{◌≡◌, ℕ, ◌^◌, ◌≤◌}
use Rattle.sn_plan_choices.specs.Planning.{PieceTask}
use Rattle.sn_plan_choices.specs.Within.{least_below}
use Rattle.sn_plan_space.specs.Known.{known_piece}
use Rattle.sn_prices.specs.Least.{option_price}
use Rattle.sn_prices_bound.proofs.bound.piece_price.Given as goal

abbrev pub invariant-loop-n : goal.invariant-loop-n
invariant-loop-n l = record {
  value : (entry : ℕ → ℕ → ℕ → ℕ → ℕ) (t : PieceTask) → l.piece ≡ known_piece l.s entry t → l.least ≡ least_below (option_price l.s entry l.p t) l.n;
  most : l.least ≤ 2 ^ 109;
}
