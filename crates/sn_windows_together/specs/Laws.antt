-- serves proofs
-- What windows of several captures come to, one after another.
use Rattle.std.specs.Prelude.{◌≡◌, ℕ, List, [], ◌∷◌, map, None, Some}
use Rattle.sn_windows.specs.Windows.{in_window}
use Rattle.sn_windows_together.specs.Merging.{after_window, next_in}
use Rattle.sn_windows_together.specs.Together.{windows_of}

-- a tuple beside the number of its window
abbrev pub Rows : Type 0
Rows = List (ℕ × List ℕ)

-- The first window of captures, and then the windows of what is left after it. Where no record is left no window is.
pub record AreTaken (captures : List Rows) : Type 0 where
  pub first : (w : ℕ) → next_in captures ≡ Some w → windows_of captures ≡ (w, map (in_window w) captures) ∷ windows_of (map (after_window w) captures)
  pub none : next_in captures ≡ None → windows_of captures ≡ []
