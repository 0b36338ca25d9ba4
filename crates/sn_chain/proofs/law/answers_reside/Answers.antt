use Rattle.sn_chain.proofs.ChainLemmas.{answers_show}
use Rattle.sn_chain.proofs.law.answers_reside.Goals as goal

pub returns : goal.returns
returns g c = λ f depth slots before later key v some had. answers_show g.F.Fold.join f (g.met.F.Fold.laws f) depth slots some before later key v had
