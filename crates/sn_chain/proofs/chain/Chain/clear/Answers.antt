use Rattle.std.proofs.Common.{◌≡◌, ℕ, List, length, replicate, ap, sym, ◌∙◌}
use Rattle.std.proofs.lemmas.List.{length-replicate, with_items_is}
use Rattle.std.specs.Vec.{with_items}
use Rattle.sn_chain.proofs.OfferLemmas.{are_cleared, clear_shows}
use Rattle.sn_chain.proofs.chain.Chain.clear.Goals as goal

pub invariant_of-self : goal.invariant_of-self
invariant_of-self g c =
    let a = c.self.inside in
    let none : c.unmark_all.new.words ≡ replicate {A = ℕ} (length a.marks.items) 0 = c.unmark_all.ensures ∙ ap (λ (ws : List ℕ). replicate {A = ℕ} (length ws) 0) c.deref_mut.ensures.value in
    are_cleared c.self.invariant (with_items a.marks c.unmark_all.new.words).items
    (with_items_is a.marks c.unmark_all.new.words (ap length none ∙ length-replicate {A = ℕ} (length a.marks.items) 0 ∙ sym a.marks.ok.0) ∙ none)

pub returns : goal.returns
returns g c =
    let a = c.self.inside in
    let none : c.unmark_all.new.words ≡ replicate {A = ℕ} (length a.marks.items) 0 = c.unmark_all.ensures ∙ ap (λ (ws : List ℕ). replicate {A = ℕ} (length ws) 0) c.deref_mut.ensures.value in
    clear_shows c.self.invariant a.fold c.args.self.now (with_items a.marks c.unmark_all.new.words).items
    (with_items_is a.marks c.unmark_all.new.words (ap length none ∙ length-replicate {A = ℕ} (length a.marks.items) 0 ∙ sym a.marks.ok.0) ∙ none) c.self.view_is
