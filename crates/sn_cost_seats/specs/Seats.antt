-- serves proofs
-- Keys and their slots in a chain of registers.
use Rattle.std.specs.Prelude.{ℕ, ◌<◌, List, [], ◌∷◌, map, nat_lt, slice_index, slice_index_or, if◌then◌else◌}
use Rattle.sn_base.specs.Groups.{Row}
use Rattle.sn_base.specs.Slot.{slot}

-- a key's slot in a register, where a chain of this depth has it, and else 0
abbrev pub slot_where : ℕ → ℕ → ℕ → Row → ℕ
slot_where depth slots register key = if nat_lt register depth then slot register key slots else 0

-- the slots of a key, one for each register
abbrev pub slots_for : ℕ → ℕ → Row → List ℕ
slots_for depth slots key = slot_where depth slots 0 key ∷ slot_where depth slots 1 key ∷ slot_where depth slots 2 key ∷ slot_where depth slots 3 key ∷ []

-- each of these slots is one of its register's
abbrev pub AreBelow : ℕ → ℕ → List ℕ → Type 0
AreBelow depth slots at = (register : ℕ) → register < depth → slice_index at register < slots

-- rows by their numbers
abbrev pub row_at : List Row → ℕ → Row
row_at rows id = slice_index_or rows id []

abbrev pub rows_at : List Row → List ℕ → List Row
rows_at rows order = map (row_at rows) order
