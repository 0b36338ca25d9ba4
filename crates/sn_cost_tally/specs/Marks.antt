-- serves proofs
-- Marks that are kept as the bits of words.
use Rattle.std.specs.Prelude.{ℕ, ◌/◌, ◌%◌, List, map, Bool, nat_eq, slice_index_or}
use Rattle.std.specs.List.{range_with_len}
use Rattle.std.specs.Int.{bit_at}

-- the mark of a place
abbrev pub mark_at : List ℕ → ℕ → Bool
mark_at words place = nat_eq (bit_at (slice_index_or words (place / 64) 0) (place % 64)) 1

-- those of this many places
abbrev pub marks_of : ℕ → List ℕ → List Bool
marks_of count words = map (mark_at words) (range_with_len 0 count)
