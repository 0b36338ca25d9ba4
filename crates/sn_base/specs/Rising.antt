-- to be believed
-- Lists of numbers that rise.
use Rattle.std.specs.Prelude.{ℕ, ◌<◌, List, [], ◌∷◌}
use Rattle.std.specs.List.{AllByRecursion}

-- each number is below all after it
abbrev pub IsRising : List ℕ → Type 0
IsRising [] = Unit {0}
IsRising (n ∷ ns) = AllByRecursion (λ m. n < m) ns × IsRising ns
