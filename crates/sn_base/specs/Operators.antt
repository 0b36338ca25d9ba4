-- to be believed
use Rattle.std.specs.Prelude.{◌≡◌, ℕ, List, [], ◌∷◌, ◌++◌, map, filter, fold, take, length, Bool, true, slice_index}
use Rattle.std.specs.List.{flat_map}
use Rattle.sn_base.specs.declared.any_fold.AnyFold.{AnyFold}
use Rattle.sn_base.specs.AnyFold.{any_has, any_unit, any_step}
use Rattle.sn_base.specs.Groups.{Row, once, values_at, same_row, columns_at, keyed}

-- what a reduce groups by: the places of the key, the place of the value, and the fold
pub record Grouping : Type 0 where
  pub places : List ℕ
  pub value : ℕ
  pub by : AnyFold

-- the operators of a branch, over rows as lists
pub data Op : Type 0 where
  Filter : (Row → Bool) → Op
  Map : (Row → Row) → Op
  Distinct : Op
  Reduce : Grouping → Op

-- a key's row: the key columns, then the fold of that key's values from the unit
abbrev pub row_for : Grouping → List (Row × ℕ) → Row → Row
row_for g pairs key = key ++ fold (any_step g.by) (any_unit g.by) (values_at same_row key pairs) ∷ []

-- one row for each key that occurs
abbrev pub grouped : Grouping → List (Row × ℕ) → List Row
grouped g pairs = map (row_for g pairs) (once same_row (map (λ p. p.0) pairs))

abbrev pub key_of : Grouping → Row → Row
key_of g row = columns_at g.places row

abbrev pub pair_of : Grouping → Row → Row × ℕ
pair_of g row = keyed g.places g.value row

-- a row that a reduce gave, as its key and the fold in it
abbrev pub parted : Grouping → Row → Row × ℕ
parted g row = (take (length g.places) row, slice_index row (length g.places))

-- an operator on a list of rows
abbrev pub apply : Op → List Row → List Row
apply (Filter t) rows = filter t rows
apply (Map f) rows = map f rows
apply Distinct rows = once same_row rows
apply (Reduce g) rows = grouped g (map (pair_of g) rows)

-- the operators in the order of the text
abbrev pub through : List Op → List Row → List Row
through [] rows = rows
through (op ∷ ops) rows = through ops (apply op rows)

-- each value that a row brings to a fold is one of the fold's
abbrev pub Had : List Op → Row → Type 0
Had [] row = Unit {0}
Had (Filter t ∷ ops) row = t row ≡ true → Had ops row
Had (Map f ∷ ops) row = Had ops (f row)
Had (Distinct ∷ ops) row = Had ops row
Had (Reduce g ∷ ops) row = any_has g.by (slice_index row g.value) × ((a : ℕ) → any_has g.by a → Had ops (key_of g row ++ a ∷ []))

-- every pair of a left and a right row that meet, made one row
abbrev pub join : (Row → Row → Bool) → (Row → Row → Row) → List Row → List Row → List Row
join meets both left right = flat_map (λ l. map (both l) (filter (meets l) right)) left
