use Rattle.std.proofs.Common.{ap, sym, subst, ◌∙◌, arith}
use Rattle.sn_base.specs.AnyFold.{any_has}
use Rattle.sn_base.specs.declared.any_fold.AnyFold.{AnyFold}
use Rattle.sn_chain.specs.Chain.{ChainState}
use Rattle.sn_test_engine.proofs.registers.folds_by_the_fold_that_is_given.Goals as goal

pub offer-requires-2 : goal.offer-requires-2
offer-requires-2 g c =
    subst (λ (f : AnyFold). any_has f 5) (sym (ap (λ (s : ChainState AnyFold). s.fold) (c.offer.ensures.after) ∙ ap (λ (s : ChainState AnyFold). s.fold) c.in_ok-chain.ensures)) (omega arith)
