-- serves proofs
-- One step of numbering.
use Rattle.std.specs.Prelude.{ℕ, ◌+◌, List, [], ◌∷◌, Bool, true, not, Option, Some, None, max, ◌==◌, ◌&&◌, is_some, unwrap_or, if◌then◌else◌}
use Rattle.sn_windows.specs.Windows.{offset}

-- what is kept of the records so far: the first one's time, the last one's number, and how many have that number
pub record Numbering : Type 0 where
  pub window : ℕ
  pub first : Option ℕ
  pub number : ℕ
  pub count : ℕ

-- before any record
abbrev pub begun : ℕ → Numbering
begun window = record { window = window; first = None; number = 0; count = 0 }

-- before any record, where window 0 begins at this time
abbrev pub begun_at : ℕ → ℕ → Numbering
begun_at time window = record { window = window; first = Some time; number = 0; count = 0 }

-- the time that windows are counted from, once a record at this time came
abbrev pub next_first : Numbering → ℕ → ℕ
next_first s time = unwrap_or s.first time

abbrev pub next_number : Numbering → ℕ → ℕ
next_number s time = max s.number (offset s.window (next_first s time) time)

-- how many records that window had before
abbrev pub next_count : Numbering → ℕ → ℕ
next_count s time = if is_some s.first && (next_number s time == s.number) then s.count else 0

abbrev pub stepped : Numbering → ℕ → Numbering
stepped s time = record { window = s.window; first = Some (next_first s time); number = next_number s time; count = next_count s time + 1 }

-- what is kept after records at these times
abbrev pub after : Numbering → List ℕ → Numbering
after s [] = s
after s (t ∷ ts) = after (stepped s t) ts

-- the records that follow, each with its number
abbrev pub numbered_from : {X : Type 0} → (X → ℕ) → Numbering → List X → List (ℕ × X)
numbered_from time s [] = []
numbered_from time s (x ∷ xs) = (next_number s (time x), x) ∷ numbered_from time (stepped s (time x)) xs

-- whether the first of them, if there is one, begins a window
abbrev pub is_fresh : {X : Type 0} → (X → ℕ) → Numbering → List X → Bool
is_fresh time s [] = true
is_fresh time s (x ∷ xs) = not (is_some s.first && (next_number s (time x) == s.number))
