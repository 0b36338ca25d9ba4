-- serves proofs
use Rattle.std.specs.Prelude.{◌≡◌, ℕ, zero, suc, ◌+◌, ◌*◌, ◌/◌, ◌%◌, ◌^◌, ◌<◌, ◌≤◌, List, [], ◌∷◌, length, Bool, true, ◌&&◌, nat_eq, nat_lt}
use Rattle.std.specs.List.{AllByRecursion}
use Rattle.sn_base.specs.Groups.{Row}

-- ---- numbers in a base, the lowest digit first

-- the number with these digits
abbrev pub number_in : ℕ → Row → ℕ
number_in base [] = 0
number_in base (c ∷ cs) = c + base * number_in base cs

-- n digits of a number
abbrev pub digits_in : ℕ → ℕ → ℕ → Row
digits_in base zero number = []
digits_in base (suc count) number = number % base ∷ digits_in base count (number / base)

-- whether each column is a digit
abbrev pub are_digits : ℕ → Row → Bool
are_digits base [] = true
are_digits base (c ∷ cs) = nat_lt c base && are_digits base cs

-- ---- rows as numbers of 128 bits

-- the bits that each of n columns has
unfoldable pub width_of : ℕ → ℕ
width_of columns = 128 / columns

abbrev pub base_of : ℕ → ℕ
base_of columns = 2 ^ width_of columns

-- whether a row has n columns, each within its bits
abbrev pub is_narrow : ℕ → Row → Bool
is_narrow columns row = nat_eq (length row) columns && are_digits (base_of columns) row

-- a row as one number
abbrev pub number_of : ℕ → Row → ℕ
number_of columns row = number_in (base_of columns) row

-- the row of n columns that a number stands for
abbrev pub columns_of : ℕ → ℕ → Row
columns_of columns number = digits_in (base_of columns) columns number

-- a number stands for a row of n columns, each below a limit: that of a single column has to be said
pub record IsShort (limit columns number : ℕ) : Type 0 where
  pub below : number < base_of columns ^ columns
  pub single : columns ≡ 1 → number < limit

-- each number stands for such a row
pub record AreShort (limit columns : ℕ) (numbers : List ℕ) : Type 0 where
  pub few : columns ≤ 8
  pub each : AllByRecursion (IsShort limit columns) numbers
