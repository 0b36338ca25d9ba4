use Rattle.std.proofs.Common.{OnOk, sym, subst}
use Rattle.sn_ops_stream.specs.Streams.{HasTakenMore, branch_in}
use Rattle.sn_ops_stream.specs.declared.any_branch.AnyBranch.{AnyBranch}
use Rattle.sn_ops_stream.proofs.any_branch.AnyBranch.take.Goals as goal

pub returns-in-Short-clause-taken : goal.returns-in-Short-clause-taken
returns-in-Short-clause-taken c = subst (λ (s : AnyBranch). OnOk c.take.result (HasTakenMore c.args.tuples.now (branch_in s) c.take.new.self)) (sym c.in-Short.is) c.take.ensures.taken

pub returns-in-Wide-clause-taken : goal.returns-in-Wide-clause-taken
returns-in-Wide-clause-taken c = subst (λ (s : AnyBranch). OnOk c.take-in-Wide.result (HasTakenMore c.args.tuples.now (branch_in s) c.take-in-Wide.new.self)) (sym c.in-Wide.is) c.take-in-Wide.ensures.taken
