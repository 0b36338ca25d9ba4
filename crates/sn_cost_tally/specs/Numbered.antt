-- serves proofs
-- Keys by their numbers, and folds beside them.
use Rattle.std.specs.Prelude.{ℕ, List, [], ◌∷◌, ◌++◌, fold, length, replicate, nat_lt, slice_index_or, slice_set, if◌then◌else◌}
use Rattle.sn_base.specs.Groups.{Row}

-- keys beside their numbers
abbrev pub zipped : List Row → List ℕ → List (Row × ℕ)
zipped [] ns = []
zipped (k ∷ ks) [] = []
zipped (k ∷ ks) (n ∷ ns) = (k, n) ∷ zipped ks ns

-- a value folded into the number at a place, or, from the unit, into one more
abbrev pub folded_into : (ℕ → ℕ → ℕ) → ℕ → List ℕ → ℕ → ℕ → List ℕ
folded_into step unit ns place v = if nat_lt place (length ns) then slice_set ns place (step (slice_index_or ns place unit) v) else ns ++ step unit v ∷ []

-- the fold of a value that comes this often
abbrev pub folded_times : (ℕ → ℕ → ℕ) → ℕ → ℕ → ℕ → ℕ
folded_times step unit v times = fold step unit (replicate times v)
