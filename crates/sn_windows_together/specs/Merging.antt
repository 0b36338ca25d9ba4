-- serves proofs
-- One window after another of what is left of several captures.
use Rattle.std.specs.Prelude.{ℕ, List, [], ◌∷◌, min, drop, Option, None, Some}
use Rattle.sn_windows.specs.Windows.{run_of}

-- the number of the first record, if there is one
abbrev pub head_number : {X : Type 0} → List (ℕ × X) → Option ℕ
head_number [] = None
head_number (p ∷ ps) = Some p.0

-- the lesser of two numbers, of which each may be missing
abbrev pub lesser : Option ℕ → Option ℕ → Option ℕ
lesser None other = other
lesser (Some n) None = Some n
lesser (Some n) (Some m) = Some (min n m)

-- the number of the first window that is left
abbrev pub next_in : {X : Type 0} → List (List (ℕ × X)) → Option ℕ
next_in [] = None
next_in (l ∷ ls) = lesser (head_number l) (next_in ls)

-- what is left after the records of this window
abbrev pub after_window : {X : Type 0} → ℕ → List (ℕ × X) → List (ℕ × X)
after_window w l = drop (run_of w l) l
