-- serves proofs
use Rattle.std.specs.Prelude.{ℕ, ◌<◌, Option, Some, None}
use Rattle.sn_chain.specs.declared.register.Found.{Found}
use Rattle.sn_chain.specs.declared.register.Found.TheVariants.{Held, Empty, Full}

-- the place that holds a key, or else the first of its places that is empty
abbrev pub found_at : Option ℕ → Option ℕ → Found
found_at (Some p) empty = Held p
found_at None (Some p) = Empty p
found_at None None = Full

-- the place that was found is one of n
abbrev pub IsWithin : Found → ℕ → Type 0
IsWithin (Held p) n = p < n
IsWithin (Empty p) n = p < n
IsWithin Full n = Unit {0}
