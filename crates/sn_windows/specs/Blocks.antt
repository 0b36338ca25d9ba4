-- to be believed
-- The blocks of the windows of a capture.
use Rattle.std.specs.Prelude.{ℕ, List, [], ◌∷◌, Bool, length, nat_le, if◌then◌else◌}
use Rattle.std.specs.List.{flat_map, list_all}
use Rattle.sn_windows.specs.Windows.{in_window, windows_of}

-- the most records of one window
abbrev pub most_records : ℕ
most_records = 4194304

abbrev pub is_few : {X : Type 0} → ℕ → List (ℕ × X) → Bool
is_few w records = nat_le (length (in_window w records)) most_records

-- whether no window has too many records
abbrev pub all_few : {X : Type 0} → List (ℕ × X) → Bool
all_few records = list_all (λ w. is_few w records) (windows_of records)

-- the first ones, as long as the test holds
abbrev pub while_holds : (ℕ → Bool) → List ℕ → List ℕ
while_holds test [] = []
while_holds test (n ∷ ns) = if test n then n ∷ while_holds test ns else []

-- the windows below the first one that has too many records: all of them, where none has
abbrev pub answered : {X : Type 0} → List (ℕ × X) → List ℕ
answered records = while_holds (λ w. is_few w records) (windows_of records)

-- the blocks of these windows, in order
abbrev pub blocks : {X : Type 0} → (ℕ → List X → List ℕ) → List (ℕ × X) → List ℕ
blocks block records = flat_map (λ w. block w (in_window w records)) (answered records)
