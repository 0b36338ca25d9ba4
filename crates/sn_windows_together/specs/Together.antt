-- to be believed
-- The windows that several captures have together.
use Rattle.std.specs.Prelude.{ℕ, List, [], ◌∷◌, ◌==◌, nat_lt, map, if◌then◌else◌}
use Rattle.std.specs.List.{flat_map}
use Rattle.sn_windows.specs.Windows.{in_window, number_at}

-- a number put before the first that is above it, if it isn't there
abbrev pub put_number : ℕ → List ℕ → List ℕ
put_number n [] = n ∷ []
put_number n (m ∷ ms) = if n == m then m ∷ ms else (if nat_lt n m then n ∷ m ∷ ms else m ∷ put_number n ms)

-- numbers, each once, rising
abbrev pub rising : List ℕ → List ℕ
rising [] = []
rising (n ∷ ns) = put_number n (rising ns)

-- the numbers of the windows that hold a record of any capture, whose records have these numbers
abbrev pub numbers_in : {X : Type 0} → List (List (ℕ × X)) → List ℕ
numbers_in captures = rising (flat_map (map number_at) captures)

-- a window: its number, and of each capture the records in it, in capture order
abbrev pub shared_in : {X : Type 0} → List (List (ℕ × X)) → ℕ → ℕ × List (List X)
shared_in captures w = (w, map (in_window w) captures)

-- the windows that hold a record of any of these captures, by rising number
abbrev pub windows_of : {X : Type 0} → List (List (ℕ × X)) → List (ℕ × List (List X))
windows_of captures = map (shared_in captures) (numbers_in captures)
