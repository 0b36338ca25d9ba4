-- serves proofs
-- What the steps of numbering come to, over all records so far.
use Rattle.std.specs.Prelude.{◌≡◌, ℕ, ◌≤◌, List, [], ◌∷◌, ◌++◌, length}
use Rattle.sn_windows.specs.Windows.{number_of, numbered, in_window}
use Rattle.sn_windows.specs.Numbering.{begun, next_number, next_count, after}

abbrev pub itself : ℕ → ℕ
itself time = time

-- a record at this time, after records at those times
pub record IsNumbered (window : ℕ) (times : List ℕ) (time : ℕ) : Type 0 where
  -- Its number is the greatest offset over it and the records before it.
  pub number : next_number (after (begun window) times) time ≡ number_of window (times ++ time ∷ [])
  -- It counts the records before it that have its number.
  pub count : next_count (after (begun window) times) time ≡ length (in_window (number_of window (times ++ time ∷ [])) (numbered itself window times))
  -- Numbers never fall.
  pub later : number_of window times ≤ number_of window (times ++ time ∷ [])
