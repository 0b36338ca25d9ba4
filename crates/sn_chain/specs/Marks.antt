-- serves proofs
-- Which cells of a chain are in use, a bit for each in words of 64.
use Rattle.std.specs.Prelude.{◌≡◌, ℕ, ◌/◌, ◌%◌, ◌<◌, ◌≤◌, List, length, Option, Some, None, slice_index}
use Rattle.std.specs.Int.{bit_at, div_ceil}
use Rattle.sn_chain.specs.Registers.{cell}

-- the bit of a place: 1 where it is marked, and else 0
abbrev pub mark_at : List ℕ → ℕ → ℕ
mark_at words place = bit_at (slice_index words (place / 64)) (place % 64)

-- the first place from this one on that is marked, if any is
pub record IsFirst (words : List ℕ) (from place : ℕ) : Type 0 where
  pub no_less : from ≤ place
  pub marked : mark_at words place ≡ 1
  pub first : (p : ℕ) → from ≤ p → p < place → mark_at words p ≡ 0

abbrev pub IsNext : List ℕ → ℕ → Option ℕ → Type 0
IsNext words from (Some place) = IsFirst words from place
IsNext words from None = (p : ℕ) → from ≤ p → mark_at words p ≡ 0

-- the bit of what a cell has
abbrev pub mark_of : {X : Type 0} → Option X → ℕ
mark_of (Some x) = 1
mark_of None = 0

-- exactly the places of the cells that have something are marked
pub record AreMarks {X : Type 0} (words : List ℕ) (cells : List (Option X)) : Type 0 where
  pub level : length words ≡ div_ceil (length cells) 64
  pub each : (p : ℕ) → mark_at words p ≡ mark_of (cell cells p)
