-- serves proofs
-- The entries of a cost table.
use Rattle.std.specs.Prelude.{◌≡◌, ℕ, ◌+◌, ◌*◌, ◌<◌, ◌≤◌, length, slice_index, ◌≢◌}
use Rattle.sn_plan_choices.specs.declared.costs.CostTable.{CostTable}
use Rattle.sn_plan_choices.specs.Places.{place_of}

-- the entry of a query, a front of a path (bit i for its level i), a branch and an option
abbrev pub entry_in : CostTable → ℕ → ℕ → ℕ → ℕ → ℕ
entry_in c q prefix b option = slice_index c.counts.items (place_of q prefix b option)

-- a table has the places of this many queries
abbrev pub HasPlaces : CostTable → ℕ → Type 0
HasPlaces c queries = queries * 8192 ≤ length c.counts.items

-- A place in range. A query has at most four levels, so fifteen fronts of paths, at most two branches, and at most 208 options.
pub record IsPlace (c : CostTable) (q prefix b option : ℕ) : Type 0 where
  pub of_query : HasPlaces c (q + 1)
  pub of_prefix : prefix < 16
  pub of_branch : b < 2
  pub of_option : option < 256

-- two tables differ at most in this entry
abbrev pub OthersStay : CostTable → CostTable → ℕ → ℕ → ℕ → ℕ → Type 0
OthersStay old new q prefix b option =
    (q' prefix' b' option' : ℕ) → IsPlace old q' prefix' b' option' → (q' ≡ q → prefix' ≡ prefix → b' ≡ b → option' ≢ option)
    → entry_in new q' prefix' b' option' ≡ entry_in old q' prefix' b' option'
