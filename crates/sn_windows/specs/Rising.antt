-- to be believed
-- Windows one after another.
use Rattle.std.specs.Prelude.{ℕ, ◌<◌, List, [], ◌∷◌, Option, None, Some}

-- a window: its number, and its tuples in capture order
abbrev pub Window : Type 0
Window = ℕ × List (List ℕ)

-- a number is above the one before it, if there is one
abbrev pub IsAbove : Option ℕ → ℕ → Type 0
IsAbove None number = Unit {0}
IsAbove (Some before) number = before < number

-- the numbers of windows rise
abbrev pub AreRising : Option ℕ → List Window → Type 0
AreRising before [] = Unit {0}
AreRising before (w ∷ ws) = IsAbove before w.0 × AreRising (Some w.0) ws
