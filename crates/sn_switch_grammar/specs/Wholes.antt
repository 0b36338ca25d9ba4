-- to be believed
-- What the items of a whole text set, and the limits.
use Rattle.std.specs.Prelude.{ℕ, ◌≤◌, List, [], ◌∷◌, length, Option, Some, None}
use Rattle.std.specs.List.{AllByRecursion, find}
use Rattle.sn_base.specs.Rising.{IsRising}
use Rattle.sn_chain.specs.Limits.{largest_register}
use Rattle.sn_switch_grammar.specs.declared.item.Setting.{Setting}
use Rattle.sn_switch_grammar.specs.declared.item.Item.{Item}
use Rattle.sn_switch_grammar.specs.Settings.{sets}

abbrev pub numbers_of_item : Option Item → List ℕ
numbers_of_item None = []
numbers_of_item (Some item) = item.numbers

-- the numbers of the first item of a setting
abbrev pub numbers_in : Setting → List Item → List ℕ
numbers_in k items = numbers_of_item (find (sets k) items)

abbrev pub first_of : List ℕ → ℕ
first_of [] = 0
first_of (n ∷ ns) = n

abbrev pub IsIn : ℕ → ℕ → ℕ → Type 0
IsIn low high n = (low ≤ n) × (n ≤ high)

-- one to four sizes that a register may have, strictly rising
pub record IsSizes (ns : List ℕ) : Type 0 where
  pub some : 1 ≤ length ns
  pub most : length ns ≤ 4
  pub range : AllByRecursion (λ n. IsIn 1 largest_register n) ns
  pub rising : IsRising ns
