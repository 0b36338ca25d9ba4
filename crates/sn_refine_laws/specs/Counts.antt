-- serves proofs
-- How many of each thing a typed file has.
use Rattle.std.specs.Prelude.{◌≡◌, ℕ, ◌<◌, ◌≤◌, ◌⊎◌, List, [], ◌∷◌, length, slice_index, is_some, false, true, IfSome}
use Rattle.std.specs.List.{AllByRecursion}
use Rattle.sn_fields.specs.Fields.{width_of}
use Rattle.sn_query_grammar.specs.Limits.{Within}
use Rattle.sn_types.specs.declared.typed_query.TypedBranch.{TypedBranch}
use Rattle.sn_types.specs.declared.typed_query.TypedQuery.{TypedQuery}

-- a query that isn't refined has the one level 0, and no refinement field or column
pub record IsUnrefined (query : TypedQuery) : Type 0 where
  pub levels : query.levels ≡ 0 ∷ []
  pub field : is_some query.field ≡ false
  pub column : is_some query.column ≡ false

-- a refined one has a field, a column, and one to four rising levels, from 1 to the field's width
pub record IsRefined (query : TypedQuery) : Type 0 where
  pub count : Within 1 4 (length query.levels)
  -- of two levels the later one is above
  pub rising : (i j : ℕ) → i < j → j < length query.levels → slice_index query.levels i < slice_index query.levels j
  pub width : IfSome query.field (λ field. AllByRecursion (Within 1 (width_of field)) query.levels)
  pub field : is_some query.field ≡ true
  pub column : is_some query.column ≡ true

pub record KeepsQueryCounts (query : TypedQuery) : Type 0 where
  pub branches : Within 1 2 (length query.branches)
  pub ops : AllByRecursion (λ (b : TypedBranch). Within 1 12 (length b.ops)) query.branches
  -- a query has operators after a join alone
  pub posts : length query.posts ≤ 12
  pub joined : length query.branches ≡ 1 → query.posts ≡ []
  pub refined : IsUnrefined query ⊎ IsRefined query

pub record KeepsCounts (window : ℕ) (queries : List TypedQuery) : Type 0 where
  -- the window, in microseconds
  pub width : Within 1 3600000000 window
  pub count : Within 1 8 (length queries)
  pub each : AllByRecursion KeepsQueryCounts queries
