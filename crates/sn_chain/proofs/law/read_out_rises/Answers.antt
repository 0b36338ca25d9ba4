use Rattle.sn_chain.proofs.ChainLemmas.{offers_in_order}
use Rattle.sn_chain.proofs.law.read_out_rises.Goals as goal

pub returns : goal.returns
returns g c = λ f depth slots offers some had. offers_in_order g.F.Fold.join f (g.met.F.Fold.laws f) depth slots some offers had
