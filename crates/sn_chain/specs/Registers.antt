-- serves proofs
-- What one offer does to the cells of a chain of registers.
use Rattle.std.specs.Prelude.{ℕ, List, Bool, false, Option, Some, None, is_none, slice_set, slice_index_or}
use Rattle.std.specs.Option.{option_map}
use Rattle.std.specs.List.{find}

-- what a cell has: a key and its value, or nothing. Past the end there is nothing.
abbrev pub cell : {X : Type 0} → List (Option X) → ℕ → Option X
cell cells p = slice_index_or cells p None

-- whether a cell has this key
abbrev pub holds : {K : Type 0} → (K → K → Bool) → K → Option (K × ℕ) → Bool
holds same k None = false
holds same k (Some e) = same k e.0

-- the one of these places that holds a key
abbrev pub held_place : {K : Type 0} → (K → K → Bool) → List (Option (K × ℕ)) → List ℕ → K → Option ℕ
held_place same cells places k = find (λ p. holds same k (cell cells p)) places

-- the first of these places that is empty
abbrev pub empty_place : {X : Type 0} → List (Option X) → List ℕ → Option ℕ
empty_place cells places = find (λ p. is_none (cell cells p)) places

-- a cell's key stays, and its value becomes the step from it to v
abbrev pub stepped : {K : Type 0} → (ℕ → ℕ → ℕ) → ℕ → Option (K × ℕ) → Option (K × ℕ)
stepped step v = option_map (λ e. (e.0, step e.1 v))

-- the cells after an offer of k with v, by the place that holds k and the place that is empty
abbrev pub put : {K : Type 0} → (ℕ → ℕ → ℕ) → List (Option (K × ℕ)) → K → ℕ → Option ℕ → Option ℕ → List (Option (K × ℕ))
put step cells k v (Some p) empty = slice_set cells p (stepped step v (cell cells p))
put step cells k v None (Some p) = slice_set cells p (Some (k, v))
put step cells k v None None = cells
