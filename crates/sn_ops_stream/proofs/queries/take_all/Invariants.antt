use Rattle.std.proofs.Common.{◌≡◌, ℕ, List, ◌++◌, drop, take}
use Rattle.sn_types.specs.declared.typed_query.TypedQuery.{TypedQuery}
use Rattle.sn_lanes_narrow.specs.Asked.{AreOf}
use Rattle.sn_ops_stream.specs.Streams.{AllHaveTaken, HaveTaken}
use Rattle.sn_ops_stream.proofs.queries.take_all.Given as goal

-- the first queries have taken the tuples, and the others are what they were
abbrev pub invariant-loop-stream : goal.invariant-loop-stream
invariant-loop-stream l = record {
  given : (queries : List TypedQuery) (tuples : List (List ℕ)) → AllHaveTaken queries tuples l.initial.streams
      → HaveTaken queries (tuples ++ l.tuples) 0 l.stream-index (take l.stream-index l.streams);
  rest : drop l.stream-index l.streams ≡ drop l.stream-index l.initial.streams;
  asked : AreOf l.tuples l.asked;
}
