use Rattle.std.proofs.Common.{sym, subst}
use Rattle.sn_ops_stream.specs.Streams.{GivesRows, branch_in}
use Rattle.sn_ops_stream.specs.declared.any_branch.AnyBranch.{AnyBranch}
use Rattle.sn_ops_stream.proofs.any_branch.AnyBranch.finish.Goals as goal

pub returns-in_ok-rows-in-Short : goal.returns-in_ok-rows-in-Short
returns-in_ok-rows-in-Short c = subst (λ (s : AnyBranch). GivesRows (branch_in s) c.in_ok-rows-in-Short.rows) (sym c.in-Short.is) c.in_ok-rows-in-Short.ensures

pub returns-in_ok-rows-in-Wide : goal.returns-in_ok-rows-in-Wide
returns-in_ok-rows-in-Wide c = subst (λ (s : AnyBranch). GivesRows (branch_in s) c.in_ok-rows-in-Wide.rows) (sym c.in-Wide.is) c.in_ok-rows-in-Wide.ensures
