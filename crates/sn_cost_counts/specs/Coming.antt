-- serves proofs
-- What comes of packet rows through the operators before the first distinct or reduce.
use Rattle.std.specs.Prelude.{◌≡◌, ℕ, suc, ◌<◌, ◌≤◌, List, [], ◌∷◌, map, filter, length, nat_eq, slice_index, if◌then◌else◌}
use Rattle.std.specs.List.{AllByRecursion}
use Rattle.sn_base.specs.Groups.{Row}
use Rattle.sn_base.specs.Operators.{apply, through}
use Rattle.sn_cost_seats.specs.Ways.{AreStateless, reach}
use Rattle.sn_cost_tally.specs.Weighed.{repeated}
use Rattle.sn_types.specs.declared.typed_op.TOp.{TOp}
use Rattle.sn_types.specs.Cuts.{is_stateful}
use Rattle.sn_types.specs.Values.{op_at}

-- how many operators stand before the first distinct or reduce
abbrev pub ahead : List TOp → ℕ
ahead [] = 0
ahead (op ∷ ops) = if is_stateful op then 0 else suc (ahead ops)

-- how many rows come to each of these operators
abbrev pub coming_to : ℕ → List TOp → List Row → List ℕ
coming_to level [] rows = []
coming_to level (op ∷ ops) rows = length rows ∷ coming_to level ops (apply (op_at level op) rows)

-- How many rows there are, how many of them pass so many filters and maps and no more, and what those are after all of them that pass all.
-- No branch has more than 12 operators.
pub record HaveCome (level : ℕ) (ops : List TOp) (rows : List Row) (seen : ℕ) (passed : List ℕ) (out : List Row) : Type 0 where
  pub stateless : AreStateless (map (op_at level) ops)
  pub total : seen ≡ length rows
  pub places : length passed ≡ 13
  pub each : (n : ℕ) → n < 13 → slice_index passed n ≡ length (filter (λ row. nat_eq n (reach (map (op_at level) ops) row)) rows)
  pub come : out ≡ through (map (op_at level) ops) rows

-- The same, where each of the rows that pass all operators stands for as many as its weight says.
pub record ComeWeighed (level : ℕ) (ops : List TOp) (rows : List Row) (seen : ℕ) (passed : List ℕ) (out : List Row) (weights : List ℕ) : Type 0 where
  pub come : HaveCome level ops rows seen passed (repeated out weights)
  pub long : length weights ≡ length out
  pub each : AllByRecursion (λ n. 1 ≤ n) weights
