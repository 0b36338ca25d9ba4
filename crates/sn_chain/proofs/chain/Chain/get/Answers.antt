use Rattle.std.proofs.Common.{◌≡◌, ◌<◌, ℕ, List, [], length, Option, Some, IfSome, get_or, ap, sym, subst, ◌∙◌, arith}
use Rattle.std.proofs.lemmas.List.{get_or_default}
use Rattle.sn_base.specs.Groups.{Row}
use Rattle.sn_base.proofs.Lists.{nat_same}
use Rattle.sn_chain.specs.Cells.{all_shown}
use Rattle.sn_chain.specs.Chain.{ChainState, KeysStand}
use Rattle.sn_chain.specs.Marks.{mark_at}
use Rattle.sn_chain.specs.Registers.{cell}
use Rattle.sn_chain.proofs.OfferLemmas.{shown_had}
use Rattle.sn_chain.proofs.ShownLemmas.{length-all_shown, read_held}
use Rattle.sn_chain.proofs.StandLemmas.{read_found}
use Rattle.sn_chain.proofs.chain.Chain.get.Goals as goal

pub at-requires : goal.at-requires
at-requires g c =
    let a = c.self.inside in
    let s = c.args.self.now in
    let at = c.args.place in
    let long : length s.cells ≡ length a.cells = ap (λ (t : ChainState g.row.F.Denot). length t.cells) (sym c.self.view_is) ∙ length-all_shown a.marks.items a.cells in
    let inside : at < length a.cells = omega (arith, c.if-place-places.false, c.places.ensures, long) in
    inside

pub returns-clause-value : goal.returns-clause-value
returns-clause-value g c =
    let a = c.self.inside in
    let s = c.args.self.now in
    let at = c.args.place in
    let long : length s.cells ≡ length a.cells = ap (λ (t : ChainState g.row.F.Denot). length t.cells) (sym c.self.view_is) ∙ length-all_shown a.marks.items a.cells in
    let inside : at < length a.cells = omega (arith, c.if-place-places.false, c.places.ensures, long) in
    let x : Row × ℕ = get_or a.cells at ([], 0) in
    let marked : mark_at a.marks.items at ≡ 1 =
    subst (λ (ws : List ℕ). mark_at ws at ≡ 1) c.deref.ensures.value (nat_same (mark_at c.deref.result.now at) 1 (sym c.is_marked.ensures ∙ c.if-not-is_marked.false)) in
    let shows : cell (all_shown a.marks.items a.cells) at ≡ Some (g.R.Columns.columns c.at.result.0, c.at.result.1) =
    read_held a.marks.items a.cells at x inside (get_or_default a.cells at ([], 0) x inside) marked ∙ ap (λ (e : Row × ℕ). Some e) (sym c.at.ensures) in
    sym shows ∙ ap (λ (t : ChainState g.row.F.Denot). cell t.cells at) c.self.view_is

pub returns-clause-had : goal.returns-clause-had
returns-clause-had g c =
    let a = c.self.inside in
    let s = c.args.self.now in
    let at = c.args.place in
    let long : length s.cells ≡ length a.cells = ap (λ (t : ChainState g.row.F.Denot). length t.cells) (sym c.self.view_is) ∙ length-all_shown a.marks.items a.cells in
    let inside : at < length a.cells = omega (arith, c.if-place-places.false, c.places.ensures, long) in
    let x : Row × ℕ = get_or a.cells at ([], 0) in
    let marked : mark_at a.marks.items at ≡ 1 =
    subst (λ (ws : List ℕ). mark_at ws at ≡ 1) c.deref.ensures.value (nat_same (mark_at c.deref.result.now at) 1 (sym c.is_marked.ensures ∙ c.if-not-is_marked.false)) in
    let shows : cell (all_shown a.marks.items a.cells) at ≡ Some (g.R.Columns.columns c.at.result.0, c.at.result.1) =
    read_held a.marks.items a.cells at x inside (get_or_default a.cells at ([], 0) x inside) marked ∙ ap (λ (e : Row × ℕ). Some e) (sym c.at.ensures) in
    let takes = g.F.Fold.takes in
    subst (λ (t : ChainState g.row.F.Denot). takes t.fold c.at.result.1) c.self.view_is
    (subst (λ (o : Option (Row × ℕ)). IfSome o (λ e. takes a.fold e.1)) shows (shown_had (takes a.fold) a.marks.items a.cells c.self.invariant.each at))

pub returns-clause-held : goal.returns-clause-held
returns-clause-held g c =
    let a = c.self.inside in
    let s = c.args.self.now in
    let at = c.args.place in
    let long : length s.cells ≡ length a.cells = ap (λ (t : ChainState g.row.F.Denot). length t.cells) (sym c.self.view_is) ∙ length-all_shown a.marks.items a.cells in
    let inside : at < length a.cells = omega (arith, c.if-place-places.false, c.places.ensures, long) in
    let x : Row × ℕ = get_or a.cells at ([], 0) in
    let marked : mark_at a.marks.items at ≡ 1 =
    subst (λ (ws : List ℕ). mark_at ws at ≡ 1) c.deref.ensures.value (nat_same (mark_at c.deref.result.now at) 1 (sym c.is_marked.ensures ∙ c.if-not-is_marked.false)) in
    let shows : cell (all_shown a.marks.items a.cells) at ≡ Some (g.R.Columns.columns c.at.result.0, c.at.result.1) =
    read_held a.marks.items a.cells at x inside (get_or_default a.cells at ([], 0) x inside) marked ∙ ap (λ (e : Row × ℕ). Some e) (sym c.at.ensures) in
    let stand = subst (λ (t : ChainState g.row.F.Denot). KeysStand t.depth t.slots t.cells) c.self.view_is c.self.invariant.stand in
    read_found s stand at (Some (g.R.Columns.columns c.at.result.0, c.at.result.1)) (sym (ap (λ (t : ChainState g.row.F.Denot). cell t.cells at) c.self.view_is) ∙ shows)
