use Rattle.std.proofs.Common.{OnOk, subst}
use Rattle.sn_ops_stream.specs.States.{BranchState}
use Rattle.sn_ops_stream.specs.Streams.{HasTakenMore}
use Rattle.sn_ops_stream.proofs.branch.BranchStream.take.Goals as goal

pub returns-clause-taken : goal.returns-clause-taken
returns-clause-taken g c = subst (λ (s : BranchState). OnOk c.take_marked.result (HasTakenMore c.args.tuples.now s c.take_marked.new.self)) c.self.view_is c.take_marked.ensures
