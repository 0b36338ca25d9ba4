-- to be believed
use Rattle.std.specs.Prelude.{◌≡◌, ℕ, ◌<◌, ◌≤◌, ◌-◌, ◌^◌, List, [], ◌∷◌, ◌++◌, length, take, replicate, false}
use Rattle.std.proofs.Common.{sym, arith, length-take-le}
use Rattle.sn_base.specs.declared.column.Column.{Column}
use Rattle.sn_base.specs.Groups.{Row}

-- what stands in a cell of a schema that isn't in use
abbrev pub blank : Column
blank = record { name = 95 ∷ []; width = 0; address = false }

-- the columns, and blanks in the places after them
abbrev pub filled_columns : List Column → List Column
filled_columns xs = xs ++ replicate (8 - length xs) blank

-- the first count cells are in use, and those after them are blanks
pub record AreFilled (columns : List Column) (count : ℕ) : Type 0 where
  pub long : length columns ≡ 8
  pub room : count ≤ 8
  pub blanks : columns ≡ filled_columns (take count columns)

pub filled_columns_back : (columns : List Column) (count : ℕ) → AreFilled columns count → filled_columns (take count columns) ≡ columns
filled_columns_back columns count h = sym h.blanks

pub column_count_back : (columns : List Column) (count : ℕ) → AreFilled columns count → length (take count columns) ≡ count
column_count_back columns count h = length-take-le count columns (omega arith)

-- a row is of a schema: it has as many columns, and each is below 2 to its width
abbrev pub IsOf : List Column → Row → Type 0
IsOf [] [] = Unit {0}
IsOf [] (x ∷ xs) = ⊥
IsOf (c ∷ cs) [] = ⊥
IsOf (c ∷ cs) (x ∷ xs) = (x < 2 ^ c.width) × IsOf cs xs
