-- serves proofs
-- Rows that stand for several each.
use Rattle.std.specs.Prelude.{◌≡◌, ℕ, ◌≤◌, List, [], ◌∷◌, ◌++◌, All, length, replicate, slice_index, Option, Some, None}
use Rattle.sn_base.specs.Groups.{Row}

-- each of these as often as its weight says
abbrev pub repeated : {A : Type 0} → List A → List ℕ → List A
repeated [] ns = []
repeated (x ∷ xs) [] = []
repeated (x ∷ xs) (n ∷ ns) = replicate n x ++ repeated xs ns

-- rows, each as often as its weight says; each once where there are no weights
abbrev pub weighed : List Row → Option (List ℕ) → List Row
weighed rows None = rows
weighed rows (Some weights) = repeated rows weights

-- there is a weight of at least 1 for each row, where there are weights
abbrev pub AreWeights : List Row → Option (List ℕ) → Type 0
AreWeights rows None = Unit {0}
AreWeights rows (Some weights) = (length weights ≡ length rows) × All (λ n. 1 ≤ n) weights

-- the weight at a place; 1 where there are no weights
abbrev pub weight_in : Option (List ℕ) → ℕ → ℕ
weight_in None place = 1
weight_in (Some weights) place = slice_index weights place
