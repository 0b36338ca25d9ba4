-- Up to the greatest cut of a branch, its operators may stand before a cut.
use Rattle.std.proofs.Common.{◌≤◌, ℕ, zero, suc, List, [], ◌∷◌, map, take, arith}
use Rattle.sn_pipe_items.proofs.Cuts.{OnlyFilters, IsCutAfterDistinct, IsCut}
use Rattle.sn_types.specs.Cuts.{filters_ahead, cut_after_distinct, greatest_cut}
use Rattle.sn_types.specs.Values.{op_at}
use Rattle.sn_types.specs.declared.typed_op.TOp.{TOp}
use Rattle.sn_types.specs.declared.typed_op.TOp.TheVariants as ops

filters_within : (level cut : ℕ) (os : List TOp) → cut ≤ filters_ahead os → OnlyFilters (take cut (map (op_at level) os))
filters_within level zero os le = tt
filters_within level (suc n) [] le = tt
filters_within level (suc n) (ops.Filter conds ∷ os) le = filters_within level n os (omega arith)
filters_within level (suc n) (ops.Map exprs ∷ os) le = absurd (omega arith)
filters_within level (suc n) (ops.Distinct ∷ os) le = absurd (omega arith)
filters_within level (suc n) (ops.Reduce r ∷ os) le = absurd (omega arith)

after_within : (level cut : ℕ) (os : List TOp) → cut ≤ cut_after_distinct os → IsCutAfterDistinct (take cut (map (op_at level) os))
after_within level zero os le = tt
after_within level (suc n) [] le = tt
after_within level (suc n) (ops.Filter conds ∷ os) le = after_within level n os (omega arith)
after_within level (suc n) (ops.Map exprs ∷ os) le = after_within level n os (omega arith)
after_within level (suc n) (ops.Distinct ∷ os) le = absurd (omega arith)
after_within level (suc n) (ops.Reduce r ∷ os) le = filters_within level n os (omega arith)

-- up to the greatest cut each is a cut
pub cut_within : (level cut : ℕ) (os : List TOp) → cut ≤ greatest_cut os → IsCut (take cut (map (op_at level) os))
cut_within level zero os le = tt
cut_within level (suc n) [] le = tt
cut_within level (suc n) (ops.Filter conds ∷ os) le = cut_within level n os (omega arith)
cut_within level (suc n) (ops.Map exprs ∷ os) le = cut_within level n os (omega arith)
cut_within level (suc n) (ops.Distinct ∷ os) le = after_within level n os (omega arith)
cut_within level (suc n) (ops.Reduce r ∷ os) le = filters_within level n os (omega arith)
