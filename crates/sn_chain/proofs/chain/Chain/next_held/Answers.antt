use Rattle.std.proofs.Common.{◌≡◌, ◌<◌, ◌≤◌, ◌*◌, ◌^◌, ℕ, List, length, Some, None, sym, subst, arith}
use Rattle.sn_chain.specs.Cells.{all_shown}
use Rattle.sn_chain.specs.Chain.{ChainState}
use Rattle.sn_chain.specs.Marks.{IsNext}
use Rattle.sn_chain.specs.Registers.{cell}
use Rattle.sn_chain.proofs.MarkLemmas.{empty_where, within_where}
use Rattle.sn_chain.proofs.OfferLemmas.{words_few}
use Rattle.sn_chain.proofs.chain.Chain.next_held.Goals as goal

pub next_marked-requires : goal.next_marked-requires
next_marked-requires g c = subst (λ (words : List ℕ). length words * 64 < 2 ^ 32) (sym c.deref.ensures.value) (words_few c.self.invariant)

pub returns-in-Some-clause-empty : goal.returns-in-Some-clause-empty
returns-in-Some-clause-empty g c =
    let a = c.self.inside in
    let next = subst (λ (words : List ℕ). IsNext words c.args.from (Some c.in-Some.place)) c.deref.ensures.value c.in-Some.ensures.next in
    subst (λ (s : ChainState g.row.F.Denot). (p : ℕ) → c.args.from ≤ p → p < c.in-Some.place → cell s.cells p ≡ None) c.self.view_is
    (λ p low high. empty_where a.marks.items (all_shown a.marks.items a.cells) c.self.invariant.marked p (next.first p low high))

pub returns-in-Some-clause-end : goal.returns-in-Some-clause-end
returns-in-Some-clause-end g c past =
    let a = c.self.inside in
    let next = subst (λ (words : List ℕ). IsNext words c.args.from (Some c.in-Some.place)) c.deref.ensures.value c.in-Some.ensures.next in
    let within : c.in-Some.place < length c.args.self.now.cells =
    subst (λ (s : ChainState g.row.F.Denot). c.in-Some.place < length s.cells) c.self.view_is (within_where a.marks.items (all_shown a.marks.items a.cells) c.self.invariant.marked c.in-Some.place next.marked) in
    absurd (omega (arith, within, past))

pub overflow_cast-result : goal.overflow_cast-result
overflow_cast-result g c =
    let within = subst (λ (words : List ℕ). c.in-Some.place < length words * 64) c.deref.ensures.value c.in-Some.ensures.within in
    omega (arith, within, words_few c.self.invariant)
