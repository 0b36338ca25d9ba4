use Rattle.std.proofs.Common.{ℕ, List, ◌++◌, length, drop, replicate, sym, subst, arith}
use Rattle.sn_base.specs.Rows.{IsFilledTo}
use Rattle.sn_base.proofs.Filled.{filled_front}
use Rattle.sn_base.proofs.name.Name.new.Goals as goal

pub invariant_of-result : goal.invariant_of-result
invariant_of-result c =
    let text = c.args.text.now in
    let filled : IsFilledTo 32 (text ++ drop (length text) (replicate 32 0)) (length text) = filled_front 32 text (omega arith) in
    (omega arith, subst (λ (ys : List ℕ). IsFilledTo 32 (ys ++ drop (length text) (replicate 32 0)) (length text)) (sym c.copy_from_slice.ensures.after) filled)
