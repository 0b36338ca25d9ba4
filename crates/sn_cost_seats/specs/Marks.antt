-- serves proofs
-- Places of a chain that are taken, as a mark for each.
use Rattle.std.specs.Prelude.{ℕ, List, Bool, true, false, not, find, Option, None, Some, slice_index_or, slice_set}
use Rattle.sn_base.specs.Groups.{Row}
use Rattle.sn_chain.specs.Chain.{places_of}

-- whether a place is free
abbrev pub is_free : List Bool → ℕ → Bool
is_free taken p = not (slice_index_or taken p false)

-- the first of a key's places that is free
abbrev pub free_for : ℕ → ℕ → List Bool → Row → Option ℕ
free_for depth slots taken key = find (is_free taken) (places_of depth slots key)

-- the marks once a place is taken, or none
abbrev pub taken_with : List Bool → Option ℕ → List Bool
taken_with taken None = taken
taken_with taken (Some p) = slice_set taken p true
