-- to be believed
-- Paths of queries and the pieces along them.
use Rattle.std.specs.Prelude.{ℕ, ◌+◌, ◌-◌, List, [], ◌∷◌, Bool, true, false, ◌&&◌, ◌==◌, nat_lt, nat_eq, Option, Some, None, position, slice_index, unwrap_or}
use Rattle.std.specs.Prelude.{if◌then◌else◌}
use Rattle.std.specs.List.{list_all, list_any, flat_map}
use Rattle.sn_plan_grammar.specs.declared.plan.Entry.{Entry}
use Rattle.sn_plan_grammar.specs.declared.plan.Piece.{Piece}
use Rattle.sn_types.specs.declared.typed_query.TypedQuery.{TypedQuery}
use Rattle.sn_types.specs.declared.typed_query.TypedBranch.{TypedBranch}
use Rattle.sn_plan_fit.specs.declared.misfit.Misfit.{Misfit}
use Rattle.sn_plan_fit.specs.declared.misfit.MisfitKind.TheVariants.{Path}
use Rattle.sn_types_faults.specs.Names.{same_name}

-- ---- the path

-- each number is below the next one, from a number on
abbrev pub rises_from : ℕ → List ℕ → Bool
rises_from n [] = true
rises_from n (m ∷ ms) = nat_lt n m && rises_from m ms

abbrev pub rises : List ℕ → Bool
rises [] = true
rises (n ∷ ns) = rises_from n ns

-- whether a level is one of these
abbrev pub is_among : List ℕ → ℕ → Bool
is_among levels level = list_any (nat_eq level) levels

-- the last number, of one that stands before and of those after it
abbrev pub last_from : Option ℕ → List ℕ → Option ℕ
last_from before [] = before
last_from before (n ∷ ns) = last_from (Some n) ns

abbrev pub last_of : List ℕ → Option ℕ
last_of = last_from None

abbrev pub same_level : Option ℕ → Option ℕ → Bool
same_level None b = false
same_level (Some n) None = false
same_level (Some n) (Some m) = n == m

-- a rising list of the query's levels that ends in the finest
abbrev pub is_path : List ℕ → List ℕ → Bool
is_path levels path = rises path && list_all (is_among levels) path && same_level (last_of path) (last_of levels)

-- the place of a level in a path, from 0
abbrev pub place_in : List ℕ → ℕ → ℕ
place_in path level = unwrap_or (position (λ other. level == other) path) 0

-- the level before a level on a path
abbrev pub level_before : List ℕ → ℕ → Option ℕ
level_before path level = if place_in path level == 0 then None else Some (slice_index path (place_in path level - 1))

-- ---- the pieces

-- a level and a branch
abbrev pub Place : Type 0
Place = ℕ × ℕ

abbrev pub at_place : ℕ → ℕ → Place
at_place level branch = (level, branch)

abbrev pub piece_place : Piece → Place
piece_place p = at_place p.level p.branch

-- the places of a level, one for each branch from this number on
abbrev pub level_places : ℕ → ℕ → List TypedBranch → List Place
level_places level n [] = []
level_places level n (b ∷ bs) = at_place level n ∷ level_places level (n + 1) bs

-- one place for each level of the path and branch, by level and then branch
abbrev pub places : List TypedBranch → List ℕ → List Place
places branches path = flat_map (λ level. level_places level 0 branches) path

abbrev pub is_at : Place → Piece → Bool
is_at place p = (p.level == place.0) && (p.branch == place.1)

-- the pieces stand at these places, in order
abbrev pub are_at : List Place → List Piece → Bool
are_at [] [] = true
are_at [] (p ∷ ps) = false
are_at (x ∷ xs) [] = false
are_at (x ∷ xs) (p ∷ ps) = is_at x p && are_at xs ps

-- ---- entries

-- an entry is one of the query: it has its name and a path of its levels, and its pieces are one for each level of the path and
-- branch, by level and then branch
abbrev pub is_entry : TypedQuery → Entry → Bool
is_entry q e = same_name e.name q.name && is_path q.levels e.levels && are_at (places q.branches e.levels) e.pieces

abbrev pub wrong_entry : ℕ → Option Misfit
wrong_entry n = Some (record { kind = Path; want = 0; got = n })

-- the first entry that isn't one of the query of its number, is missing, or is one too many; the first of these has the number n
abbrev pub path_misfit : ℕ → List TypedQuery → List Entry → Option Misfit
path_misfit n [] [] = None
path_misfit n [] (e ∷ es) = wrong_entry n
path_misfit n (q ∷ qs) [] = wrong_entry n
path_misfit n (q ∷ qs) (e ∷ es) = if is_entry q e then path_misfit (n + 1) qs es else wrong_entry n
