-- serves proofs
-- The filters at the front of a branch.
use Rattle.std.specs.Prelude.{◌≡◌, ℕ, zero, suc, List, [], ◌∷◌, Bool, true, false, ◌&&◌, Option}
use Rattle.std.specs.List.{list_all}
use Rattle.sn_base.specs.Groups.{Row}
use Rattle.sn_fields.specs.declared.field.Field.{Field}
use Rattle.sn_types.specs.declared.typed_op.TOp.{TOp}
use Rattle.sn_types.specs.declared.typed_op.TOp.TheVariants.{Filter, Map, Distinct, Reduce}
use Rattle.sn_types.specs.Typed.{packet_row}
use Rattle.sn_types.specs.Values.{holds}
use Rattle.sn_lanes_narrow.specs.Marks.{asks_all}
use Rattle.sn_lanes_narrow.specs.declared.condition.Condition.{Condition}

-- an operator is a filter that admits a row
abbrev pub filter_admits : ℕ → TOp → Row → Bool
filter_admits level (Filter conds) row = list_all (λ c. holds level c row) conds
filter_admits level (Map exprs) row = false
filter_admits level Distinct row = false
filter_admits level (Reduce r) row = false

-- and so is each of the first ones
abbrev pub admits : ℕ → ℕ → List TOp → Row → Bool
admits level zero ops row = true
admits level (suc front) [] row = false
admits level (suc front) (op ∷ ops) row = filter_admits level op row && admits level front ops row

abbrev pub IsFilter : TOp → Type 0
IsFilter (Filter conds) = Unit {0}
IsFilter (Map exprs) = ⊥
IsFilter Distinct = ⊥
IsFilter (Reduce r) = ⊥

-- the first ones are filters
abbrev pub AreFilters : ℕ → List TOp → Type 0
AreFilters zero ops = Unit {0}
AreFilters (suc front) [] = ⊥
AreFilters (suc front) (op ∷ ops) = IsFilter op × AreFilters front ops

-- the first operators are filters, which let a tuple's packet row through exactly where these conditions hold of the tuple
pub record IsFront (refined : Option Field) (level : ℕ) (fields : List Field) (ops : List TOp) (front : ℕ) (conditions : List Condition) : Type 0 where
  pub filters : AreFilters front ops
  pub same : (tuple : List ℕ) → admits level front ops (packet_row refined level fields tuple) ≡ asks_all conditions tuple
