-- serves proofs
-- What the queries of a typed file keep.
use Rattle.std.specs.Prelude.{◌≤◌, length}
use Rattle.std.specs.List.{AllByRecursion}
use Rattle.sn_types.specs.declared.typed_query.TypedQuery.{TypedQuery}
use Rattle.sn_plan_choices.specs.Settings.{IsNarrow}
use Rattle.sn_plan_lists.specs.Chosen.{HasLevels}

-- rising levels, one to four of them, and at most two branches with at most two stateful operators before each cut
pub record HasBounds (q : TypedQuery) : Type 0 where
  pub levels : HasLevels q
  pub few : length q.levels ≤ 4
  pub branches : length q.branches ≤ 2
  pub narrow : AllByRecursion IsNarrow q.branches
