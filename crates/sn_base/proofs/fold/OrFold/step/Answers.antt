use Rattle.std.proofs.lemmas.Nat.{or_lt}
use Rattle.sn_base.proofs.fold.OrFold.step.Goals as goal

pub returns-clause-had : goal.returns-clause-had
returns-clause-had c = or_lt c.args.self.v c.args.a c.args.b c.requires.first c.requires.second
