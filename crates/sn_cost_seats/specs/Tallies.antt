-- serves proofs
-- Rows by their distinct keys, each with how often it comes.
use Rattle.std.specs.Prelude.{ℕ, ◌+◌, List, [], ◌∷◌, map, filter, length, Bool, if◌then◌else◌}
use Rattle.sn_base.specs.Groups.{Row, once, same_row}

-- how often a row comes among rows
abbrev pub times_in : List Row → Row → ℕ
times_in rows key = length (filter (same_row key) rows)

-- the distinct rows, and how often each comes
abbrev pub tallied : List Row → List ℕ
tallied rows = map (times_in rows) (once same_row rows)

-- the numbers whose mark isn't set, summed
abbrev pub sum_unmarked : List Bool → List ℕ → ℕ
sum_unmarked [] ns = 0
sum_unmarked (mark ∷ marks) [] = 0
sum_unmarked (mark ∷ marks) (n ∷ ns) = (if mark then 0 else n) + sum_unmarked marks ns

-- what is marked
abbrev pub marked : {X : Type 0} → List Bool → List X → List X
marked [] xs = []
marked (mark ∷ marks) [] = []
marked (mark ∷ marks) (x ∷ xs) = if mark then x ∷ marked marks xs else marked marks xs
