-- to be believed
-- The tuples that a switch gives to a level: those that it sees, or all of them where the table stays open that should hold their
-- prefixes.
use Rattle.std.specs.Prelude.{ℕ, zero, suc, List, Option, if◌then◌else◌}
use Rattle.std.specs.FinSet as set
use Rattle.std.specs.Ordering.{nat_cmp}
use Rattle.sn_engine_split.specs.Opened.{is_open}
use Rattle.sn_types.specs.declared.typed_query.TypedQuery.{TypedQuery}
use Rattle.sn_refine.specs.Refined.{Windows, before, column_of, refined_rows, seen_at}

-- the prefixes that the level at a place of a path answered in the window before
abbrev pub prefixes_before : TypedQuery → Windows → List ℕ → ℕ → ℕ → set.FinSet nat_cmp
prefixes_before query windows path j w = set.from_list (column_of query (before (refined_rows query windows path j) w))

-- the tuples of a window that come to the level at a place of a path, where a table has at most so many entries
abbrev pub passes_at : TypedQuery → Option ℕ → Windows → List ℕ → ℕ → ℕ → Option (List (List ℕ))
passes_at query entries windows path zero w = windows w
passes_at query entries windows path (suc j) w =
    if is_open entries (prefixes_before query windows path j w) then windows w else seen_at query windows path (suc j) w
