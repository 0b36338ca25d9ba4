use Rattle.std.proofs.Common.{take}
use Rattle.sn_ops_stream.specs.Streams.{HasTakenMore, IsSameBranch}
use Rattle.sn_ops_stream.proofs.branch.BranchStream.take_marked.Given as goal

abbrev pub invariant-loop-place : goal.invariant-loop-place
invariant-loop-place g l = record {
  taken : HasTakenMore (take l.place l.tuples) l.initial.self l.self;
  same : IsSameBranch l.initial.self l.self;
}
