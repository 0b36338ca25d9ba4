-- serves proofs
-- Windows one after another, each with its tuples.
use Rattle.std.specs.Prelude.{ℕ, ◌<◌, List, [], ◌∷◌, ◌++◌, length, replicate}
use Rattle.std.specs.List.{AllByRecursion}
use Rattle.sn_cost_training.specs.declared.training.TrainingWindow.{TrainingWindow}
use Rattle.sn_cost_training.specs.Trained.{Training}

-- the tuples of all windows
abbrev pub tuples_in : List TrainingWindow → List (List ℕ)
tuples_in [] = []
tuples_in (w ∷ ws) = w.tuples ++ tuples_in ws

-- for each tuple the number of its window
abbrev pub numbers_in : List TrainingWindow → List ℕ
numbers_in [] = []
numbers_in (w ∷ ws) = replicate (length w.tuples) w.number ++ numbers_in ws

abbrev pub trained_on : List TrainingWindow → Training
trained_on windows = record { tuples = tuples_in windows; numbers = numbers_in windows }

-- each window has a tuple, and its number is below those of the windows after it
abbrev pub IsApart : List TrainingWindow → Type 0
IsApart [] = Unit {0}
IsApart (w ∷ ws) = (0 < length w.tuples) × (AllByRecursion (λ (v : TrainingWindow). w.number < v.number) ws × IsApart ws)
