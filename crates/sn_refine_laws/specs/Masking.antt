-- serves proofs
-- Rows in which one column is changed, and operators that do the same with them.
use Rattle.std.specs.Prelude.{◌≡◌, ℕ, zero, suc, List, [], ◌∷◌, map, filter, Bool, true, false, ◌&&◌, nat_eq, slice_index}
use Rattle.sn_base.specs.Groups.{Row}
use Rattle.sn_base.specs.Operators.{Grouping, Op, key_of}
use Rattle.sn_base.specs.Operators.Op.{Filter, Map, Distinct, Reduce}
use Rattle.sn_refine_laws.specs.Carrying.{CarriesTo}

-- a row with the number at a place changed
abbrev pub changed_at : (ℕ → ℕ) → Row → ℕ → Row
changed_at m [] p = []
changed_at m (x ∷ xs) zero = m x ∷ xs
changed_at m (x ∷ xs) (suc p) = x ∷ changed_at m xs p

-- An operator does to rows in which the number at a place is changed what another does to the rows themselves: the number
-- stands changed in what it makes, and nothing else depends on it.
abbrev pub Follows : (ℕ → ℕ) → Op → Op → ℕ → ℕ → Type 0
Follows m (Filter t) (Filter u) p q = (p ≡ q) × ((row : Row) → u (changed_at m row p) ≡ t row)
Follows m (Map f) (Map h) p q = (row : Row) → h (changed_at m row p) ≡ changed_at m (f row) q
Follows m Distinct Distinct p q = p ≡ q
Follows m o other p q = ⊥

-- operators one after another, up to a reduce, which carry the number besides
abbrev pub AllFollow : (ℕ → ℕ) → List Op → List Op → ℕ → ℕ → Type 0
AllFollow m [] [] p q = p ≡ q
AllFollow m (o ∷ os) (n ∷ ns) p q = (k : ℕ) × CarriesTo o p k × Follows m o n p k × AllFollow m os ns k q
AllFollow m os ns p q = ⊥

-- a reduce has the changed number in its key alone
pub record KeyFollows (m : ℕ → ℕ) (g : Grouping) (p q : ℕ) : Type 0 where
  pub key : (row : Row) → key_of g (changed_at m row p) ≡ changed_at m (key_of g row) q
  pub value : (row : Row) → slice_index (changed_at m row p) g.value ≡ slice_index row g.value

-- the rows with this number at a place, changed
abbrev pub shown : (ℕ → ℕ) → ℕ → ℕ → List Row → List Row
shown m a p rows = map (λ row. changed_at m row p) (filter (λ row. nat_eq a (slice_index row p)) rows)

-- filters alone, and whether a row passes them all
abbrev pub AreThresholds : List Op → Type 0
AreThresholds [] = Unit {0}
AreThresholds (Filter t ∷ os) = AreThresholds os
AreThresholds (Map f ∷ os) = ⊥
AreThresholds (Distinct ∷ os) = ⊥
AreThresholds (Reduce g ∷ os) = ⊥

abbrev pub keeps_row : List Op → Row → Bool
keeps_row [] row = true
keeps_row (Filter t ∷ os) row = t row && keeps_row os row
keeps_row (Map f ∷ os) row = false
keeps_row (Distinct ∷ os) row = false
keeps_row (Reduce g ∷ os) row = false
