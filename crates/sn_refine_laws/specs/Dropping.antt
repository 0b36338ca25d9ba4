-- serves proofs
-- Items that are dropped for the number in their carried column.
use Rattle.std.specs.Prelude.{ℕ, suc, ◌≤◌, List, [], ◌∷◌, filter, length, Bool, slice_index}
use Rattle.std.specs.List.{AllByRecursion}
use Rattle.sn_base.specs.Groups.{Row}
use Rattle.sn_base.specs.Operators.{Op}
use Rattle.sn_base.specs.Operators.Op.{Filter, Map, Distinct, Reduce}
use Rattle.sn_pipe_items.specs.Value.{is_partial, rows_with}
use Rattle.sn_report.specs.Items.{Item}
use Rattle.sn_report.specs.declared.frame.Tag.{Tag}
use Rattle.sn_report.specs.declared.frame.Tag.TheVariants.{At, Partial}
use Rattle.sn_refine_laws.specs.Carrying.{CarriesTo}

-- Where the column of an item stands: `places i` is its place in the rows that come to operator i. A Partial row stands after
-- its reduce.
abbrev pub place_of_tag : (ℕ → ℕ) → Tag → ℕ
place_of_tag places (At i) = places i
place_of_tag places (Partial i) = places (suc i)

-- the items whose number passes
abbrev pub passing : (ℕ → Bool) → (ℕ → ℕ) → List Item → List Item
passing keep places found = filter (λ item. keep (slice_index item.row (place_of_tag places item.tag))) found

-- the operators from number i on carry the column along these places
abbrev pub CarryAlong : (ℕ → ℕ) → ℕ → List Op → Type 0
CarryAlong places i [] = Unit {0}
CarryAlong places i (op ∷ ops) = CarriesTo op (places i) (places (suc i)) × CarryAlong places (suc i) ops

-- a Partial row has the columns of a key
abbrev pub PartsLong : Op → List Row → Type 0
PartsLong (Filter t) rows = Unit {0}
PartsLong (Map f) rows = Unit {0}
PartsLong Distinct rows = Unit {0}
PartsLong (Reduce g) rows = AllByRecursion (λ (row : Row). length g.places ≤ length row) rows

abbrev pub AllPartsLong : ℕ → List Op → List Item → Type 0
AllPartsLong i [] found = Unit {0}
AllPartsLong i (op ∷ ops) found = PartsLong op (rows_with (is_partial i) found) × AllPartsLong (suc i) ops found
