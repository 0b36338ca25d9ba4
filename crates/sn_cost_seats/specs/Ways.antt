-- serves proofs
-- How far rows come through operators without state, and as which rows.
use Rattle.std.specs.Prelude.{ℕ, suc, List, [], ◌∷◌, Option, None, Some, if◌then◌else◌}
use Rattle.sn_base.specs.Groups.{Row}
use Rattle.sn_base.specs.Operators.{Op}
use Rattle.sn_base.specs.Operators.Op.{Filter, Map, Distinct, Reduce}

-- operators that are filters and maps alone
abbrev pub AreStateless : List Op → Type 0
AreStateless [] = Unit {0}
AreStateless (Filter t ∷ ops) = AreStateless ops
AreStateless (Map f ∷ ops) = AreStateless ops
AreStateless (Distinct ∷ ops) = ⊥
AreStateless (Reduce g ∷ ops) = ⊥

-- the row after operators, where a row passes all of them
abbrev pub come : List Op → Row → Option Row
come [] row = Some row
come (Filter t ∷ ops) row = if t row then come ops row else None
come (Map f ∷ ops) row = come ops (f row)
come (Distinct ∷ ops) row = None
come (Reduce g ∷ ops) row = None

-- how many operators a row passes
abbrev pub reach : List Op → Row → ℕ
reach [] row = 0
reach (Filter t ∷ ops) row = if t row then suc (reach ops row) else 0
reach (Map f ∷ ops) row = suc (reach ops (f row))
reach (Distinct ∷ ops) row = 0
reach (Reduce g ∷ ops) row = 0
