use Rattle.std.proofs.Common.{◌≡◌, List, [], ◌∷◌, ◌++◌, ap, sym, ◌∙◌, append_assoc, arith}
use Rattle.sn_plan_space.specs.declared.known.Slot.{Slot}
use Rattle.sn_prices_bound.proofs.Walks.{known_small}
use Rattle.sn_prices_bound.proofs.walk.stages_price.Goals as goal

pub loop-slot-preserved : goal.loop-slot-preserved
loop-slot-preserved c =
    let i = c.loop-slot.invariant in
    let slot = c.in-Some.slot.now in
    let front = c.in-Some.front.now in
    let parts : c.loop-slot.left.now ≡ front ++ slot ∷ [] = c.in-Some.ensures.cases.0 in
    (slot ∷ i.0, sym (append_assoc front (slot ∷ []) i.0) ∙ ap (λ (l : List Slot). l ++ i.0) (sym parts) ∙ i.1, c.with_table-walk.ensures i.0 i.2)

pub returns-clause-most : goal.returns-clause-most
returns-clause-most c =
    let i = c.loop-slot.invariant in
    let e = i.2.each 0 (omega arith) in
    let k = known_small c.args.s.now c.args.p.now 0 i.0 in omega arith
