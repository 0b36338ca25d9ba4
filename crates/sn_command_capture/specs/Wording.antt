-- to be believed
-- How the windows of a capture are answered.
use Rattle.std.specs.Prelude.{◌≡◌, ◌⊎◌, ℕ, ◌<◌, ◌≤◌, List, [], ◌∷◌, ◌++◌, length, Option, None, Some}
use Rattle.sn_command.specs.declared.fault.Fault.{Fault}
use Rattle.sn_command.specs.declared.fault.Fault.TheVariants.{Queries, Switch}
use Rattle.sn_pcap.specs.declared.packet.Ending.{Ending}
use Rattle.sn_windows.specs.Blocks.{most_records}
use Rattle.sn_windows.specs.Rising.{AreRising, Window}

-- What stands before the blocks of a capture; the block of a window with this number and these tuples, in a capture that has
-- these windows; why that block can't be made, where it can't; what stands of the window with this number after the blocks of these
-- windows, where the capture is refused after these tuples of it; and what stands after the blocks of a capture with these windows,
-- whose records end so.
pub record Wording : Type 0 where
  pub first : List ℕ
  pub block : List Window → ℕ → List (List ℕ) → List ℕ
  pub stops : List Window → ℕ → List (List ℕ) → Option Fault
  pub unfinished : List Window → ℕ → List (List ℕ) → List ℕ
  pub last : List Window → Ending → List ℕ

-- the block of a window depends on no later one
abbrev pub IsCausal : Wording → Type 0
IsCausal wording = (closed : List Window) (number : ℕ) (tuples : List (List ℕ)) (more : List Window) → AreRising None (closed ++ (number, tuples) ∷ more)
    → wording.block (closed ++ (number, tuples) ∷ more) number tuples ≡ wording.block (closed ++ (number, tuples) ∷ []) number tuples

-- a fault that comes after the queries and the switch were read
abbrev pub IsLate : Fault → Type 0
IsLate (Queries fault) = ⊥
IsLate (Switch fault) = ⊥
IsLate fault = Unit {0}

-- Whether and why a window stops depends on no later one, and never on what was read before the capture.
pub record StopsInTime (wording : Wording) : Type 0 where
  pub causal : (closed : List Window) (number : ℕ) (tuples : List (List ℕ)) (more : List Window) → AreRising None (closed ++ (number, tuples) ∷ more)
      → wording.stops (closed ++ (number, tuples) ∷ more) number tuples ≡ wording.stops (closed ++ (number, tuples) ∷ []) number tuples
  pub late : (windows : List Window) (number : ℕ) (tuples : List (List ℕ)) (fault : Fault) → wording.stops windows number tuples ≡ Some fault → IsLate fault

-- no window stops
abbrev pub NeverStops : Wording → Type 0
NeverStops wording = (windows : List Window) (number : ℕ) (tuples : List (List ℕ)) → wording.stops windows number tuples ≡ None

-- some windows were closed, and the one with this number is open
abbrev pub Holds : (List Window → ℕ → List (List ℕ) → Type 0) → ℕ → Type 0
Holds hand number = (closed : List Window) × (tuples : List (List ℕ)) × hand closed number tuples

-- and some tuples of it came, no more than a window may have
abbrev pub HoldsSome : (List Window → ℕ → List (List ℕ) → Type 0) → ℕ → Type 0
HoldsSome hand number = (closed : List Window) × (tuples : List (List ℕ)) × (0 < length tuples) × hand closed number tuples × (length tuples ≤ most_records)

-- these windows were closed, and no tuple came since
abbrev pub Closed : (List Window → Type 0) → (List Window → ℕ → List (List ℕ) → Type 0) → List Window → Type 0
Closed idle hand closed = idle closed ⊎ ((number : ℕ) × hand closed number [])
