-- to be believed
-- The entries of a cost table that is made of training windows.
use Rattle.std.specs.Prelude.{ℕ, zero, suc, ◌+◌, ◌-◌, ◌*◌, ◌<◌, ◌^◌, ◌/◌, ◌%◌, ◌==◌, List, [], ◌∷◌, map, length, slice_index, Option, None, Some, if◌then◌else◌}
use Rattle.std.specs.FinSet as set
use Rattle.std.specs.List.{sum_by}
use Rattle.sn_switch.specs.declared.switch.Switch.{Switch}
use Rattle.sn_types.specs.declared.typed_query.TypedQuery.{TypedQuery}
use Rattle.sn_types.specs.Typed.{branch_at, query_at}
use Rattle.sn_plan_choices.specs.Options.{Setting, options}
use Rattle.sn_refine.specs.Passes.{passes_at, prefixes_before}
use Rattle.sn_refine.specs.Refined.{Windows}
use Rattle.sn_refine.specs.Steps.{Set, windows_of}
use Rattle.sn_engine_split.specs.Branches.{branch_items}
use Rattle.sn_engine_split.specs.Opened.{is_open}
use Rattle.sn_windows.specs.Windows as numbered
use Rattle.sn_windows.specs.Rising.{Window}

-- ---- training windows

-- tuples beside the numbers of their windows
abbrev pub records : List ℕ → List (List ℕ) → List (ℕ × List ℕ)
records [] tuples = []
records (n ∷ ns) [] = []
records (n ∷ ns) (tuple ∷ tuples) = (n, tuple) ∷ records ns tuples

-- the windows that hold a record, by number, each with its tuples
abbrev pub windows_in : List (ℕ × List ℕ) → List Window
windows_in found = map (λ w. (w, numbered.in_window w found)) (numbered.windows_of found)

abbrev pub trained : List ℕ → List (List ℕ) → List Window
trained numbers tuples = windows_in (records numbers tuples)

-- ---- the front of a path

-- of these levels, rising, those whose bit is set: bit i for level i
abbrev pub front_of : ℕ → List ℕ → List ℕ
front_of m [] = []
front_of m (level ∷ levels) = if m % 2 == 1 then level ∷ front_of (m / 2) levels else front_of (m / 2) levels

-- ---- tables

-- how many prefixes of a set a table holds: all of them, or none where they are more than it has room for
abbrev pub held_of : Option ℕ → Set → ℕ
held_of limit prefixes = if is_open limit prefixes then 0 else set.len prefixes

-- how many prefixes are installed in a window at a place: none where it is the first
abbrev pub installed_in : TypedQuery → Option ℕ → Windows → List ℕ → ℕ → ℕ → ℕ
installed_in query limit windows front zero w = 0
installed_in query limit windows front (suc j) w = held_of limit (prefixes_before query windows front j w)

-- ---- items

-- how many items a piece of an option sends of the tuples that pass
abbrev pub sent_of : TypedQuery → ℕ → ℕ → ℕ → Setting → Option (List (List ℕ)) → ℕ
sent_of query b level depth o None = 0
sent_of query b level depth o (Some passing) = length (branch_items query b level None o.0 depth o.1 passing)

-- how many items it sends of a window, at the last level of a front
abbrev pub sent_in : TypedQuery → Option ℕ → Windows → List ℕ → ℕ → ℕ → Setting → ℕ → ℕ
sent_in query limit windows front b depth o w =
    sent_of query b (slice_index front (length front - 1)) depth o (passes_at query limit windows front (length front - 1) w)

-- ---- entries

-- what a piece costs in a window, at the last level of a front: the items that it sends, and the weight for each prefix that is installed
abbrev pub cost_in : TypedQuery → Option ℕ → ℕ → Windows → List ℕ → ℕ → ℕ → Setting → ℕ → ℕ
cost_in query limit weight windows front b depth o w =
    sent_in query limit windows front b depth o w + weight * installed_in query limit windows front (length front - 1) w

-- The entry of a query, a front of a path, a branch and an option: the sum over the training windows of what the piece costs.
abbrev pub entry_count : ℕ → Option ℕ → ℕ → TypedQuery → List Window → ℕ → ℕ → Setting → ℕ
entry_count depth limit weight query given prefix b o =
    sum_by (λ g. cost_in query limit weight (windows_of given) (front_of prefix query.levels) b depth o g.0) given

-- a query, the front of a path with at least one level, a branch and an option of it
pub record IsPiece (s : Switch) (queries : List TypedQuery) (q prefix b n : ℕ) : Type 0 where
  pub of_query : q < length queries
  pub of_levels : prefix < 2 ^ length (query_at queries q).levels
  pub some_level : 0 < length (front_of prefix (query_at queries q).levels)
  pub of_branch : b < length (query_at queries q).branches
  pub of_option : n < length (options s (branch_at queries q b))
