-- to be believed
-- Words: those that name files, and those that are numbers.
use Rattle.std.specs.Prelude.{◌≡◌, ℕ, ◌+◌, ◌-◌, ◌*◌, ◌≤◌, List, [], ◌∷◌, Bool, true, not, ◌&&◌, ◌==◌, nat_lt, nat_le, length, slice_index, slice_index_or, map}
use Rattle.std.specs.Prelude.{String}
use Rattle.std.specs.List.{list_all}
use Rattle.std.specs.String.{string_bytes}
use Rattle.std.specs.declared.alloc.Global.{Global}

-- the bytes of the words
abbrev pub texts : List (String Global) → List (List ℕ)
texts = map string_bytes

-- the word at a place
abbrev pub word_at : List (List ℕ) → ℕ → List ℕ
word_at words place = slice_index_or words place []

-- a word that names a file isn't empty and doesn't begin with `-`
abbrev pub is_file_word : List ℕ → Bool
is_file_word word = nat_lt 0 (length word) && not (slice_index word 0 == 45)

-- `0` to `9`
abbrev pub is_digit : ℕ → Bool
is_digit byte = nat_le 48 byte && nat_le byte 57

-- the number that digits stand for after this one
abbrev pub value_after : ℕ → List ℕ → ℕ
value_after n [] = n
value_after n (digit ∷ digits) = value_after (n * 10 + (digit - 48)) digits

-- the number that decimal digits stand for, the highest first
abbrev pub decimal_value : List ℕ → ℕ
decimal_value digits = value_after 0 digits

-- a word of one to ten decimal digits, and its number in this range
pub record IsNumber (least most : ℕ) (word : List ℕ) (number : ℕ) : Type 0 where
  pub digits : list_all is_digit word ≡ true
  pub some : 1 ≤ length word
  pub few : length word ≤ 10
  pub value : number ≡ decimal_value word
  pub from_least : least ≤ number
  pub to_most : number ≤ most
