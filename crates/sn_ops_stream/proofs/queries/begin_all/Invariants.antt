use Rattle.std.proofs.Common.{[]}
use Rattle.sn_ops_stream.specs.Streams.{HaveTaken}
use Rattle.sn_ops_stream.proofs.queries.begin_all.Given as goal

abbrev pub invariant-loop-q : goal.invariant-loop-q
invariant-loop-q l = HaveTaken l.t.queries [] 0 l.q l.streams.items
