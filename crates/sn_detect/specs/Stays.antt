-- to be believed
-- The stays of addresses over windows, and the window in which each was printed.
use Rattle.std.specs.Prelude.{◌≡◌, ℕ, suc, ◌+◌, ◌<◌, ◌≤◌, ◌⊎◌, List, [], ◌∷◌, true, Option, None, Some, IsSomeAnd}
use Rattle.std.specs.List.{AllByRecursion}
use Rattle.sn_detect.specs.declared.look.Look.{Look}
use Rattle.sn_detect.specs.declared.stay.Stay.{Stay}
use Rattle.sn_detect.specs.Looks.{holds, refined_at, unrefined_at}

-- of an address and a window: the unrefined answers hold it, the refined ones do
abbrev pub HeldIn : List Look → ℕ → ℕ → Type 0
HeldIn looks a w = holds (unrefined_at looks w) a ≡ true

abbrev pub ReportedIn : List Look → ℕ → ℕ → Type 0
ReportedIn looks a w = holds (refined_at looks w) a ≡ true

-- the first window from one to another in which an address is reported, or none of them
abbrev pub IsPrinted : (ℕ → ℕ → Type 0) → ℕ → ℕ → ℕ → Option ℕ → Type 0
IsPrinted Reported a first last None = (w : ℕ) → first ≤ w → w ≤ last → Reported a w → ⊥
IsPrinted Reported a first last (Some p) = (first ≤ p) × (p ≤ last) × Reported a p × ((w : ℕ) → first ≤ w → w < p → Reported a w → ⊥)

-- a longest run of windows of consecutive numbers that hold an address
pub record IsStay (Held Reported : ℕ → ℕ → Type 0) (s : Stay) : Type 0 where
  pub rising : s.first ≤ s.last
  pub held : (w : ℕ) → s.first ≤ w → w ≤ s.last → Held s.address w
  pub ends : Held s.address (suc s.last) → ⊥
  pub begins : (w : ℕ) → suc w ≡ s.first → Held s.address w → ⊥
  pub printed : IsPrinted Reported s.address s.first s.last s.printed

-- a window that holds an address is of one of these stays
abbrev pub Covers : ℕ → ℕ → Stay → Type 0
Covers a w s = (s.address ≡ a) × (s.first ≤ w) × (w ≤ s.last)

abbrev pub IsCovered : ℕ → ℕ → List Stay → Type 0
IsCovered a w [] = ⊥
IsCovered a w (s ∷ ss) = Covers a w s ⊎ IsCovered a w ss

-- by address, and then by window: between two stays of an address there is a window
abbrev pub IsBefore : Stay → Stay → Type 0
IsBefore s t = (s.address < t.address) ⊎ ((s.address ≡ t.address) × (suc s.last < t.first))

abbrev pub AreApart : List Stay → Type 0
AreApart [] = Unit {0}
AreApart (s ∷ ss) = AllByRecursion (IsBefore s) ss × AreApart ss

-- exactly the stays: each is one, each window that holds an address is of one of them, and they are in order
pub record AreStays (Held Reported : ℕ → ℕ → Type 0) (stays : List Stay) : Type 0 where
  pub each : AllByRecursion (IsStay Held Reported) stays
  pub all : (a w : ℕ) → Held a w → IsCovered a w stays
  pub apart : AreApart stays

-- a stay of as many windows as there are levels was printed, and no later than in the last of so many
abbrev pub IsInTime : ℕ → Stay → Type 0
IsInTime levels s = s.first + levels ≤ suc s.last → IsSomeAnd s.printed (λ p. p < s.first + levels)
