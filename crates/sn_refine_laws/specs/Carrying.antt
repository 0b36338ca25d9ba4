-- serves proofs
-- Where a column of rows stands after operators.
use Rattle.std.specs.Prelude.{◌≡◌, ℕ, ◌<◌, List, [], ◌∷◌, length, Bool, slice_index}
use Rattle.sn_base.specs.Groups.{Row}
use Rattle.sn_base.specs.Operators.{Op}
use Rattle.sn_base.specs.Operators.Op.{Filter, Map, Distinct, Reduce}

-- an operator carries the number at a place of a row to a place of the row that it makes
abbrev pub CarriesTo : Op → ℕ → ℕ → Type 0
CarriesTo (Filter t) p q = p ≡ q
CarriesTo (Map f) p q = (row : Row) → slice_index (f row) q ≡ slice_index row p
CarriesTo Distinct p q = p ≡ q
CarriesTo (Reduce g) p q = (q < length g.places) × (slice_index g.places q ≡ p)

-- and so do operators, one after another
abbrev pub CarryTo : List Op → ℕ → ℕ → Type 0
CarryTo [] p q = p ≡ q
CarryTo (op ∷ ops) p q = (m : ℕ) × CarriesTo op p m × CarryTo ops m q

-- the number at a place passes a test
abbrev pub passes : (ℕ → Bool) → ℕ → Row → Bool
passes keep p row = keep (slice_index row p)
