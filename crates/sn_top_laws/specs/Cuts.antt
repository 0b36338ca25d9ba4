-- serves proofs
-- How many operators at the front of a branch may stand in a switch, as a sentence.
use Rattle.std.specs.Prelude.{◌≡◌, ℕ, ◌≤◌, List, [], ◌∷◌, ◌++◌, filter, length, take, Bool, true, false}
use Rattle.std.specs.List.{AllByRecursion}
use Rattle.sn_types.specs.declared.typed_op.TOp.{TOp}
use Rattle.sn_types.specs.declared.typed_op.TOp.TheVariants.{Filter, Map, Distinct, Reduce as Reduced}
use Rattle.sn_types.specs.declared.typed_op.TReduce.{TReduce}
use Rattle.sn_types.specs.Cuts.{is_stateful}

-- no operator, a distinct, a reduce, or a distinct and then a reduce
abbrev pub are_few : List TOp → Bool
are_few [] = true
are_few (Distinct ∷ []) = true
are_few (Reduced r ∷ []) = true
are_few (Distinct ∷ Reduced r ∷ []) = true
are_few ops = false

abbrev pub IsFilter : TOp → Type 0
IsFilter (Filter conds) = Unit {0}
IsFilter (Map exprs) = ⊥
IsFilter Distinct = ⊥
IsFilter (Reduced r) = ⊥

-- whatever stands after a reduce is a filter
abbrev pub FiltersAfter : List TOp → Type 0
FiltersAfter front = (before following : List TOp) (r : TReduce) → front ≡ before ++ Reduced r ∷ following → AllByRecursion IsFilter following

-- Operators may stand in a switch: those of them that keep rows in registers are few, and only filters stand after the reduce.
pub record MayStand (front : List TOp) : Type 0 where
  pub few : are_few (filter is_stateful front) ≡ true
  pub filters : FiltersAfter front

-- this many operators at the front may stand in a switch, and no more
pub record IsGreatestCut (ops : List TOp) (cut : ℕ) : Type 0 where
  pub within : cut ≤ length ops
  pub stands : MayStand (take cut ops)
  pub greatest : (more : ℕ) → more ≤ length ops → MayStand (take more ops) → more ≤ cut
