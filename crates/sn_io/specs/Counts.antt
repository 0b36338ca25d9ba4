-- to be believed
use Rattle.std.specs.Prelude.{◌≡◌, ◌≢◌, ℕ, ◌-◌, ◌^◌, ◌<◌, ◌≤◌, ◌⊎◌, List, is_some, unwrap_or}
use Rattle.std.specs.Ordering.{nat_cmp}
use Rattle.std.specs.Cmp.Lexicographic.{slice_cmp}
use Rattle.std.specs.FinMap.{FinMap, get}

-- a finite map from names, which are texts, to values
abbrev pub ByName : Type 0 → Type 0
ByName X = FinMap (slice_cmp nat_cmp) X

-- a count of 64 bits grew, or stands at its last value
abbrev pub Rose : ℕ → ℕ → Type 0
Rose before now = (before < now) ⊎ (2 ^ 64 - 1 ≤ now)

-- the count of a name, 0 where the name isn't known
abbrev pub count_of : ByName ℕ → List ℕ → ℕ
count_of counts name = unwrap_or (get counts name) 0

-- the count of this name rose
abbrev pub RoseAt : List ℕ → ByName ℕ → ByName ℕ → Type 0
RoseAt name old new = Rose (count_of old name) (count_of new name)

-- the same names are known, no other name's count changed, and the count of this one didn't fall
pub record OnlyRises (name : List ℕ) (old new : ByName ℕ) : Type 0 where
  pub others : (other : List ℕ) → other ≢ name → get new other ≡ get old other
  pub known : is_some (get new name) ≡ is_some (get old name)
  pub later : count_of old name ≤ count_of new name
