-- to be believed
-- Operators in a switch: which of them have registers, and how many of a branch can stand there.
use Rattle.std.specs.Prelude.{ℕ, suc, ◌+◌, List, [], ◌∷◌, take, Bool, true, false, slice_index, if◌then◌else◌}
use Rattle.sn_types.specs.declared.typed_op.TOp.{TOp}
use Rattle.sn_types.specs.declared.typed_op.TOp.TheVariants.{Filter, Map, Distinct, Reduce as Reduced}

-- distinct and reduce keep rows in registers
abbrev pub is_stateful : TOp → Bool
is_stateful (Filter conds) = false
is_stateful (Map exprs) = false
is_stateful Distinct = true
is_stateful (Reduced r) = true

-- how many operators do so
abbrev pub stateful : List TOp → ℕ
stateful [] = 0
stateful (op ∷ ops) = if is_stateful op then 1 + stateful ops else stateful ops

-- the slots of each register at an operator: the stateful operators take these sizes in their order
abbrev pub size_at : List TOp → List ℕ → ℕ → ℕ
size_at ops sizes i = slice_index sizes (stateful (take i ops))

-- how many operators at the front are filters
abbrev pub filters_ahead : List TOp → ℕ
filters_ahead [] = 0
filters_ahead (Filter conds ∷ ops) = suc (filters_ahead ops)
filters_ahead (Map exprs ∷ ops) = 0
filters_ahead (Distinct ∷ ops) = 0
filters_ahead (Reduced r ∷ ops) = 0

-- the greatest cut of what stands after a distinct
abbrev pub cut_after_distinct : List TOp → ℕ
cut_after_distinct [] = 0
cut_after_distinct (Filter conds ∷ ops) = suc (cut_after_distinct ops)
cut_after_distinct (Map exprs ∷ ops) = suc (cut_after_distinct ops)
cut_after_distinct (Distinct ∷ ops) = 0
cut_after_distinct (Reduced r ∷ ops) = suc (filters_ahead ops)

-- the greatest number of operators at the front whose stateful ones are none, distinct, reduce, or distinct and then
-- reduce, with only filters after the reduce
abbrev pub greatest_cut : List TOp → ℕ
greatest_cut [] = 0
greatest_cut (Filter conds ∷ ops) = suc (greatest_cut ops)
greatest_cut (Map exprs ∷ ops) = suc (greatest_cut ops)
greatest_cut (Distinct ∷ ops) = suc (cut_after_distinct ops)
greatest_cut (Reduced r ∷ ops) = suc (filters_ahead ops)
