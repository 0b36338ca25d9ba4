use Rattle.sn_chain.proofs.ChainLemmas.{offers_show}
use Rattle.sn_chain.proofs.law.offers_reside.Goals as goal

pub returns : goal.returns
returns g c = λ f depth slots offers p some had. offers_show g.F.Fold.join f (g.met.F.Fold.laws f) depth slots some offers had p
