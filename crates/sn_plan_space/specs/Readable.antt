-- serves proofs
-- Queries as typing leaves them: few levels, few branches and narrow cuts.
use Rattle.std.specs.Prelude.{ℕ, ◌<◌, ◌≤◌, List, length, slice_get, unwrap_or}
use Rattle.sn_types.specs.declared.typed_query.TypedQuery.{TypedQuery}
use Rattle.sn_types.specs.declared.typed_query.TypedBranch.{TypedBranch}
use Rattle.sn_types.specs.Typed.{blank_branch, query_at}
use Rattle.sn_plan_choices.specs.Settings.{IsNarrow}

abbrev pub AreNarrow : List TypedBranch → Type 0
AreNarrow branches = (b : ℕ) → b < length branches → IsNarrow (unwrap_or (slice_get branches b) blank_branch)

pub record IsReadable (q : TypedQuery) : Type 0 where
  pub some : 1 ≤ length q.levels
  pub levels : length q.levels ≤ 4
  pub branches : length q.branches ≤ 2
  pub narrow : AreNarrow q.branches

abbrev pub AreReadable : List TypedQuery → Type 0
AreReadable queries = (q : ℕ) → q < length queries → IsReadable (query_at queries q)
