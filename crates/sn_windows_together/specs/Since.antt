-- to be believed
-- Records of one capture among several, whose windows begin at one time.
use Rattle.std.specs.Prelude.{ℕ, List, [], ◌∷◌, ◌++◌, map, fold, min}
use Rattle.sn_windows.specs.Windows.{greatest, offset}

-- The number of the last of these records, where window 0 begins at this time: the greatest offset over all of them.
abbrev pub number_since : ℕ → ℕ → List ℕ → ℕ
number_since window start times = greatest (map (offset window start) times)

-- each record with its number, which is over it and the records before it
abbrev pub numbered_after : {X : Type 0} → (X → ℕ) → ℕ → ℕ → List X → List X → List (ℕ × X)
numbered_after time window start before [] = []
numbered_after time window start before (x ∷ xs) =
    (number_since window start (map time (before ++ x ∷ [])), x) ∷ numbered_after time window start (before ++ x ∷ []) xs

abbrev pub numbered_since : {X : Type 0} → (X → ℕ) → ℕ → ℕ → List X → List (ℕ × X)
numbered_since time window start records = numbered_after time window start [] records

-- the least of some times; 0 where there is none
abbrev pub least : List ℕ → ℕ
least [] = 0
least (t ∷ ts) = fold min t ts
