-- to be believed
-- What plans are trained on.
use Rattle.std.specs.Prelude.{ℕ, List, [], ◌++◌, length, replicate}

-- the tuples of a capture's packets, in their order, and for each the number of its window
pub record Training : Type 0 where
  pub tuples : List (List ℕ)
  pub numbers : List ℕ

-- no tuples
abbrev pub none : Training
none = record { tuples = []; numbers = [] }

-- these tuples, and after them those of a window
abbrev pub with_window : Training → ℕ → List (List ℕ) → Training
with_window training number tuples = record { tuples = training.tuples ++ tuples; numbers = training.numbers ++ replicate (length tuples) number }
