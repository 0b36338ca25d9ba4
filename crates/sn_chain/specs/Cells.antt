-- serves proofs
use Rattle.std.specs.Prelude.{◌≡◌, ℕ, suc, ◌*◌, ◌≤◌, List, [], ◌∷◌, length, Option, Some, None, if◌then◌else◌, nat_eq}
use Rattle.std.specs.List.{AllByRecursion}
use Rattle.sn_base.specs.Groups.{Row}
use Rattle.sn_chain.specs.Chain.{KeysStand}
use Rattle.sn_chain.specs.Limits.{largest_register}
use Rattle.sn_chain.specs.Marks.{mark_at, AreMarks}

-- what is in a cell, if it is marked as in use
abbrev pub shown_if : {X : Type 0} → ℕ → X → Option X
shown_if mark x = if nat_eq mark 1 then Some x else None

-- what is in cells, by the mark of each place
abbrev pub shown_where : {X : Type 0} → (ℕ → ℕ) → List X → List (Option X)
shown_where mark [] = []
shown_where mark (x ∷ xs) = shown_if (mark 0) x ∷ shown_where (λ p. mark (suc p)) xs

abbrev pub all_shown : {X : Type 0} → List ℕ → List X → List (Option X)
all_shown marks xs = shown_where (mark_at marks) xs

-- a cell with another value
abbrev pub with_value : ℕ → Row × ℕ → Row × ℕ
with_value value c = (c.0, value)

-- the cells of n registers with m slots each, a key and a value in each, and the marks of those in use. Each value is one of the
-- fold's. A key that is in use stands at one of its places, and once
pub record AreCells (has : ℕ → Type 0) (depth slots : ℕ) (cells : List (Row × ℕ)) (marks : List ℕ) : Type 0 where
  pub some_depth : 1 ≤ depth
  pub most_depth : depth ≤ 4
  pub some_slots : 1 ≤ slots
  pub most_slots : slots ≤ largest_register
  pub long : length cells ≡ depth * slots
  pub each : AllByRecursion (λ c. has c.1) cells
  pub stand : KeysStand depth slots (all_shown marks cells)
  pub marked : AreMarks marks (all_shown marks cells)
