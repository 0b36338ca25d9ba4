-- to be believed
-- Items of other prefixes, and tables that may stay open.
use Rattle.std.specs.Prelude.{ℕ, ◌≤◌, List, take, filter, Bool, true, false, nat_lt, slice_index, Option, None, Some, if◌then◌else◌}
use Rattle.std.specs.FinSet as set
use Rattle.std.specs.Ordering.{nat_cmp}
use Rattle.sn_base.specs.Groups.{Row}
use Rattle.sn_base.specs.Mask.{masked}
use Rattle.sn_fields.specs.declared.field.Field.{Field}
use Rattle.sn_fields.specs.Fields.{number_of, width_of}
use Rattle.sn_report.specs.Items.{Item}
use Rattle.sn_types.specs.declared.typed_query.TypedBranch.{TypedBranch}
use Rattle.sn_types.specs.declared.typed_query.TypedQuery.{TypedQuery}
use Rattle.sn_types.specs.Typed.{branch_of}
use Rattle.sn_pipe_items.specs.Left.{left_of}
use Rattle.sn_types.specs.Places.{field_place, place_along}

-- the bits of a level, and prefixes of that level
abbrev pub Prefixes : Type 0
Prefixes = ℕ × set.FinSet nat_cmp

-- a number of the refinement field, masked to these bits, is one of the prefixes
abbrev pub has_prefix : Field → Prefixes → ℕ → Bool
has_prefix field ps n = set.contains ps.1 (masked (width_of field) ps.0 n)

-- ---- in the engine

-- a row that comes to operator i has one of these prefixes in its refinement column
abbrev pub keeps_in : Option Field → TypedBranch → Option Prefixes → ℕ → Row → Bool
keeps_in refined branch None i row = true
keeps_in None branch (Some ps) i row = false
keeps_in (Some field) branch (Some ps) i row = has_prefix field ps (slice_index row (place_along (take i branch.ops) (field_place field branch.fields)))

-- the items of a branch that are left where those of other prefixes are dropped
abbrev pub left_in : TypedQuery → ℕ → Option Prefixes → List Item → List Item
left_in query b ps found = left_of (keeps_in query.field (branch_of query b) ps) found

-- ---- in the switch

-- a tuple has one of these prefixes
abbrev pub admits : Option Field → Option Prefixes → List ℕ → Bool
admits refined None tuple = true
admits None (Some ps) tuple = false
admits (Some field) (Some ps) tuple = has_prefix field ps (slice_index tuple (number_of field))

abbrev pub tuples_admitted : TypedQuery → Option Prefixes → List (List ℕ) → List (List ℕ)
tuples_admitted query ps tuples = filter (admits query.field ps) tuples

-- a table with this many entries stays open where the set has more members; without a limit it never does
abbrev pub is_open : Option ℕ → set.FinSet nat_cmp → Bool
is_open None members = false
is_open (Some entries) members = nat_lt entries (set.len members)

-- the prefixes by which a switch admits tuples: where the table stays open all tuples pass
abbrev pub tabled : Option ℕ → Option Prefixes → Option Prefixes
tabled entries None = None
tabled entries (Some ps) = if is_open entries ps.1 then None else Some ps

-- prefixes are no longer than a level
abbrev pub IsWithinLevel : ℕ → Option Prefixes → Type 0
IsWithinLevel level None = Unit {0}
IsWithinLevel level (Some ps) = ps.0 ≤ level
