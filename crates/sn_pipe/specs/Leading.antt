-- serves proofs
-- Filters at the front of stages.
use Rattle.std.specs.Prelude.{◌≡◌, ℕ, ◌+◌, ◌≤◌, ◌++◌, List, length, take, drop, None}
use Rattle.sn_base.specs.Groups.{Row}
use Rattle.sn_pipe.specs.AnyStage.{Stage}
use Rattle.sn_pipe.specs.Passing.{CanPass}
use Rattle.sn_pipe.specs.Stages.{item_from, stages_after}

-- a row comes through the first n stages as it is, and leaves them as they are
pub record Leads (level : ℕ) (stages : List Stage) (row : Row) (count : ℕ) : Type 0 where
  pub within : count ≤ length stages
  pub item : (first : ℕ) → item_from level first stages row ≡ item_from level (first + count) (drop count stages) row
  pub after : stages_after level stages row ≡ take count stages ++ stages_after level (drop count stages) row
  pub can : CanPass level (drop count stages) row

-- a row gives no item, and leaves all stages as they are
pub record StopsAhead (level : ℕ) (stages : List Stage) (row : Row) : Type 0 where
  pub item : (first : ℕ) → item_from level first stages row ≡ None
  pub after : stages_after level stages row ≡ stages
