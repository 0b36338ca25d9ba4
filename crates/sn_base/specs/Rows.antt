-- serves proofs
use Rattle.std.specs.Prelude.{◌≡◌, ℕ, ◌≤◌, ◌-◌, ◌/◌, ◌%◌, ◌^◌, List, ◌++◌, length, take, replicate}
use Rattle.std.specs.Hash as fed
use Rattle.std.proofs.Common.{sym, arith, length-take-le}

-- what a hasher is fed of a column: its lower and its upper 64 bits
abbrev pub halves : ℕ → List (List ℕ)
halves column = fed.u64 (column % 2 ^ 64) ++ fed.u64 (column / 2 ^ 64)

-- the columns, and zeros in the places after them
abbrev pub filled : List ℕ → List ℕ
filled xs = xs ++ replicate (8 - length xs) 0

-- the first count cells are in use, and those after them are zeros
pub record IsFilled (columns : List ℕ) (count : ℕ) : Type 0 where
  pub long : length columns ≡ 8
  pub room : count ≤ 8
  pub zeros : columns ≡ filled (take count columns)

pub filled_back : (columns : List ℕ) (count : ℕ) → IsFilled columns count → filled (take count columns) ≡ columns
filled_back columns count h = sym h.zeros

pub count_back : (columns : List ℕ) (count : ℕ) → IsFilled columns count → length (take count columns) ≡ count
count_back columns count h = length-take-le count columns (omega arith)

-- the same at any room
abbrev pub filled_to : ℕ → List ℕ → List ℕ
filled_to room xs = xs ++ replicate (room - length xs) 0

pub record IsFilledTo (room : ℕ) (cells : List ℕ) (count : ℕ) : Type 0 where
  pub long : length cells ≡ room
  pub fits : count ≤ room
  pub zeros : cells ≡ filled_to room (take count cells)

pub filled_to_back : (room : ℕ) (cells : List ℕ) (count : ℕ) → IsFilledTo room cells count → filled_to room (take count cells) ≡ cells
filled_to_back room cells count h = sym h.zeros

pub count_to_back : (room : ℕ) (cells : List ℕ) (count : ℕ) → IsFilledTo room cells count → length (take count cells) ≡ count
count_to_back room cells count h = length-take-le count cells (omega arith)
