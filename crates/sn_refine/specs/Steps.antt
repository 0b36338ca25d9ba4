-- serves proofs
-- Windows one after another, each from what the one before it left.
use Rattle.std.specs.Prelude.{◌≡◌, ℕ, zero, suc, ◌+◌, ◌-◌, ◌<◌, List, [], ◌∷◌, map, filter, take, length, Bool, true, false, nat_eq, ◌==◌, slice_get}
use Rattle.std.specs.Prelude.{slice_index, unwrap_or, Option, None, Some, IsSome, if◌then◌else◌}
use Rattle.std.specs.List.{AllByRecursion, list_any}
use Rattle.std.specs.Ordering.{nat_cmp}
use Rattle.std.specs.FinSet as set
use Rattle.sn_base.specs.Groups.{Row}
use Rattle.sn_fields.specs.declared.field.Field.{Field}
use Rattle.sn_ops.specs.Packets.{is_member}
use Rattle.sn_ops.specs.declared.packets.Kept.{Kept}
use Rattle.sn_types.specs.declared.answers.Part.{Part}
use Rattle.sn_types.specs.declared.typed_query.TypedQuery.{TypedQuery}
use Rattle.sn_types.specs.Typed.{query_at}
use Rattle.sn_refine.specs.Refined.{Windows, before, column_of, level_rows, parts_along, refined_rows}
use Rattle.sn_windows.specs.Rising.{Window}

abbrev pub Set : Type 0
Set = set.FinSet nat_cmp

-- a path is of a query: its levels are levels of the query, and there are several only where the query is refined
pub record IsPathOf (queries : List TypedQuery) (q : ℕ) (path : List ℕ) : Type 0 where
  pub query : q < length queries
  pub known : AllByRecursion (λ level. list_any (nat_eq level) (query_at queries q).levels ≡ true) path
  pub refined : 1 < length path → IsSome (query_at queries q).field

-- ---- one window

-- the prefixes that answers hold
abbrev pub prefixes_of : TypedQuery → List Row → Set
prefixes_of query rows = set.from_list (column_of query rows)

-- a window is the next one after the last
abbrev pub follows : Option ℕ → ℕ → Bool
follows None w = false
follows (Some last) w = last + 1 == w

-- the prefixes that the level at a place answered in the window before: where that was given, what was kept of it
abbrev pub kept_at : Option ℕ → List Set → ℕ → ℕ → Set
kept_at last answered w j = if follows last w then unwrap_or (slice_get answered j) set.empty else set.empty

-- the refinement field of a tuple, masked to these bits, is one of a set of prefixes
abbrev pub is_held : Option Field → ℕ → Set → List ℕ → Bool
is_held None bits held tuple = false
is_held (Some field) bits held tuple = is_member field held bits tuple

-- the answers at a place of the path, where the levels see the tuples with these prefixes
abbrev pub rows_at : TypedQuery → List ℕ → (ℕ → Set) → List (List ℕ) → ℕ → List Row
rows_at query path kept tuples zero = level_rows query (slice_index path 0) (Some tuples)
rows_at query path kept tuples (suc j) = level_rows query (slice_index path (suc j)) (Some (filter (is_held query.field (slice_index path j) (kept j)) tuples))

abbrev pub parts_in : ℕ → TypedQuery → List ℕ → (ℕ → Set) → List (List ℕ) → List Part
parts_in q query path kept tuples = parts_along q path (rows_at query path kept tuples)

-- what is kept of a window's answers: the prefixes of each level but the last
abbrev pub kept_of : TypedQuery → List ℕ → List Part → List Set
kept_of query path parts = map (λ part. prefixes_of query part.rows) (take (length path - 1) parts)

-- a level at a place of the path sees, of a window, exactly the tuples with the prefixes that the level before it answered in
-- the window before
abbrev pub Sees : TypedQuery → Windows → List ℕ → ℕ → ℕ → Option Kept → Type 0
Sees query windows path zero w None = Unit {0}
Sees query windows path zero w (Some kept) = ⊥
Sees query windows path (suc j) w None = ⊥
Sees query windows path (suc j) w (Some kept) =
    (kept.bits ≡ slice_index path j) × (kept.members.now ≡ prefixes_of query (before (refined_rows query windows path j) w))

-- ---- windows

-- what these windows hold
abbrev pub windows_of : List Window → Windows
windows_of [] w = None
windows_of (given ∷ rest) w = if given.0 == w then Some given.1 else windows_of rest w

-- the answers of windows that are given one after another, the last one before them being this, of which these prefixes
-- were kept
abbrev pub answers_from : ℕ → TypedQuery → List ℕ → Option ℕ → List Set → List Window → List (List Part)
answers_from q query path last kept [] = []
answers_from q query path last kept (given ∷ rest) =
    parts_in q query path (kept_at last kept given.0) given.1
    ∷ answers_from q query path (Some given.0) (kept_of query path (parts_in q query path (kept_at last kept given.0) given.1)) rest
