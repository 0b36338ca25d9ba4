use Rattle.sn_cost.specs.Entries.{trained}
use Rattle.sn_cost.proofs.Built.{BuiltTo}
use Rattle.sn_cost.proofs.build.build.Given as goal

abbrev pub invariant-loop-q : goal.invariant-loop-q
invariant-loop-q l = BuiltTo l.s l.t.queries (trained l.training.numbers l.training.tuples) l.q l.table
