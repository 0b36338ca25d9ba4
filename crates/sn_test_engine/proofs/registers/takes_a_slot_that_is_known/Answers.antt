use Rattle.std.proofs.Common.{◌≡◌, ℕ, ◌∷◌, [], slice_index, ap, sym, subst, ◌∙◌, arith}
use Rattle.sn_base.specs.Slot.{slot}
use Rattle.sn_base.specs.declared.fold.SatSum.{SatSum}
use Rattle.sn_chain.specs.Chain.{ChainState}
use Rattle.sn_test_engine.proofs.registers.takes_a_slot_that_is_known.Goals as goal

pub offer_at-requires-clause-slots : goal.offer_at-requires-clause-slots
offer_at-requires-clause-slots g c = λ register below.
    let one : c.in_ok-chain.chain.depth ≡ 1 = ap (λ (s : ChainState SatSum). s.depth) c.in_ok-chain.ensures in
    let first : register ≡ 0 = omega arith in
    subst (λ (r : ℕ). slice_index (c.slot_of.result ∷ 0 ∷ 0 ∷ 0 ∷ []) r ≡ slot r c.row-first.result c.in_ok-chain.chain.slots) (sym first)
    (c.slot_of.ensures ∙ ap (slot 0 c.row-first.result) (sym (ap (λ (s : ChainState SatSum). s.slots) c.in_ok-chain.ensures)))
