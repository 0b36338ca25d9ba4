use Rattle.std.proofs.Common.{◌≡◌, ◌≢◌, ◌<◌, ◌/◌, ℕ, List, [], length, get_or, refl, ap, sym, subst, ◌∙◌}
use Rattle.std.proofs.lemmas.List.{with_items_is}
use Rattle.std.specs.Vec.{with_items}
use Rattle.sn_chain.specs.Cells.{with_value}
use Rattle.sn_chain.specs.Chain.{ChainState}
use Rattle.sn_chain.specs.Marks.{mark_at}
use Rattle.sn_chain.specs.declared.register.Found.TheVariants as found
use Rattle.sn_chain.proofs.OfferLemmas.{found_in, offer_held, offer_new, state_of, are_offered, marks_held, marks_new, word_there}
use Rattle.sn_chain.proofs.chain.Chain.offer_by.Goals as goal

pub returns-in-Held-clause-after : goal.returns-in-Held-clause-after
returns-in-Held-clause-after g c =
    let join = g.F.Fold.join in
    let a = c.self.inside in
    let within = c.in-Held.ensures.within in
    let key = g.R.Columns.columns c.args.key.now in
    let is_found = subst (λ (ws : List ℕ). found.Held c.in-Held.at ≡ found_in join a.fold a.depth a.slots ws a.cells key) c.deref.ensures.value c.in-Held.ensures.found in
    offer_held join a.fold a.depth a.slots a.marks.items a.cells c.set_value.new.self c.args.self.now c.self.view_is (g.R.Columns.columns c.args.key.now) c.args.v c.in-Held.at c.value.result c.step-value.result within c.value.ensures
    c.step-value.ensures.value c.set_value.ensures is_found

pub returns-in-Empty-clause-after : goal.returns-in-Empty-clause-after
returns-in-Empty-clause-after g c =
    let join = g.F.Fold.join in
    let a = c.self.inside in
    let before = c.deref_mut.ensures.value in
    let long : length c.mark.new.words ≡ length a.marks.items = c.mark.ensures.long ∙ ap length before in
    let words = (with_items a.marks c.mark.new.words).items in
    let is : words ≡ c.mark.new.words = with_items_is a.marks c.mark.new.words (long ∙ sym a.marks.ok.0) in
    let key = g.R.Columns.columns c.args.key.now in
    let is_found = subst (λ (ws : List ℕ). found.Empty c.in-Empty.at ≡ found_in join a.fold a.depth a.slots ws a.cells key) c.deref.ensures.value c.in-Empty.ensures.found in
    offer_new join a.fold a.depth a.slots a.marks.items a.cells c.take.new.self words c.args.self.now c.self.view_is (g.R.Columns.columns c.args.key.now) c.args.v c.in-Empty.at c.take.ensures
    (ap (λ (ws : List ℕ). mark_at ws c.in-Empty.at) is ∙ c.mark.ensures.marked)
    (λ p other. ap (λ (ws : List ℕ). mark_at ws p) is ∙ c.mark.ensures.others p other ∙ ap (λ (ws : List ℕ). mark_at ws p) before) is_found

pub invariant_of-self : goal.invariant_of-self
invariant_of-self g c =
    let join = g.F.Fold.join in
    let a = c.self.inside in
    let at = c.in-Held.at in
    let key = g.R.Columns.columns c.args.key.now in
    let within = c.in-Held.ensures.within in
    let is_found = subst (λ (ws : List ℕ). found.Held at ≡ found_in join a.fold a.depth a.slots ws a.cells key) c.deref.ensures.value c.in-Held.ensures.found in
    let after =
    offer_held join a.fold a.depth a.slots a.marks.items a.cells c.set_value.new.self (state_of a.fold a.depth a.slots a.marks.items a.cells) refl key c.args.v at c.value.result c.step-value.result within c.value.ensures
    c.step-value.ensures.value c.set_value.ensures is_found in
    are_offered c.self.invariant join a.fold key c.args.v at (with_value c.step-value.result (get_or a.cells at ([], 0))) c.set_value.new.self a.marks.items c.set_value.ensures after
    c.step-value.ensures.had (marks_held c.self.invariant at c.step-value.result c.set_value.new.self within c.set_value.ensures)

pub mark-requires : goal.mark-requires
mark-requires g c =
    let a = c.self.inside in
    subst (λ (words : List ℕ). c.in-Empty.at / 64 < length words) (sym c.deref_mut.ensures.value) (word_there c.self.invariant c.in-Empty.at c.in-Empty.ensures.within)

pub invariant_of-self-in-Empty : goal.invariant_of-self-in-Empty
invariant_of-self-in-Empty g c =
    let join = g.F.Fold.join in
    let a = c.self.inside in
    let at = c.in-Empty.at in
    let key = g.R.Columns.columns c.args.key.now in
    let before = c.deref_mut.ensures.value in
    let long : length c.mark.new.words ≡ length a.marks.items = c.mark.ensures.long ∙ ap length before in
    let words = (with_items a.marks c.mark.new.words).items in
    let is : words ≡ c.mark.new.words = with_items_is a.marks c.mark.new.words (long ∙ sym a.marks.ok.0) in
    let is_found = subst (λ (ws : List ℕ). found.Empty at ≡ found_in join a.fold a.depth a.slots ws a.cells key) c.deref.ensures.value c.in-Empty.ensures.found in
    let here = ap (λ (ws : List ℕ). mark_at ws at) is ∙ c.mark.ensures.marked in
    let others : (p : ℕ) → p ≢ at → mark_at words p ≡ mark_at a.marks.items p = λ p other. ap (λ (ws : List ℕ). mark_at ws p) is ∙ c.mark.ensures.others p other ∙ ap (λ (ws : List ℕ). mark_at ws p) before in
    let after = offer_new join a.fold a.depth a.slots a.marks.items a.cells c.take.new.self words (state_of a.fold a.depth a.slots a.marks.items a.cells) refl key c.args.v at c.take.ensures here others is_found in
    are_offered c.self.invariant join a.fold key c.args.v at (key, c.args.v) c.take.new.self words c.take.ensures after
    (subst (λ (s : ChainState g.row.F.Denot). g.F.Fold.takes s.fold c.args.v) (sym c.self.view_is) c.requires.had)
    (marks_new c.self.invariant key c.args.v at c.take.new.self words c.in-Empty.ensures.within c.take.ensures (ap length is ∙ long) here others)
