use Rattle.sn_ops.proofs.OneMore.{on_ok_weaker}
use Rattle.sn_ops_stream.specs.Streams.{HasTakenMore, branch_in}
use Rattle.sn_ops_stream.proofs.QueryLemmas.{both_taken, one_taken}
use Rattle.sn_ops_stream.proofs.query.QueryStream.take.Goals as goal

pub returns-in-Some-clause-taken : goal.returns-in-Some-clause-taken
returns-in-Some-clause-taken c =
    on_ok_weaker (HasTakenMore c.args.tuples.now (branch_in c.in-Some.second) (branch_in c.take-in-Some.new.self)) _
    (λ taken. both_taken c.args.tuples.now c.args.self.now c.take.new.self c.in-Some.second c.take-in-Some.new.self c.in_ok-take.ensures.taken c.in-Some.is taken)
    c.take-in-Some.result c.take-in-Some.ensures.taken

pub returns-in-None-clause-taken : goal.returns-in-None-clause-taken
returns-in-None-clause-taken c = one_taken c.args.tuples.now c.args.self.now c.take.new.self c.in_ok-take.ensures.taken c.in-None.is
