use Rattle.std.proofs.Common.{length, ap, sym, ◌∙◌}
use Rattle.sn_chain.specs.Chain.{ChainState}
use Rattle.sn_chain.proofs.ShownLemmas.{length-all_shown}
use Rattle.sn_chain.proofs.chain.Chain.places.Goals as goal

pub returns : goal.returns
returns g c =
    let a = c.self.inside in
    sym (ap (λ (s : ChainState g.row.F.Denot). length s.cells) (sym c.self.view_is) ∙ length-all_shown a.marks.items a.cells ∙ c.self.invariant.long)
