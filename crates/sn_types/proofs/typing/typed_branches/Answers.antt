use Rattle.std.proofs.Common.{length, arith, ap}
use Rattle.sn_query_grammar.specs.Limits.{BranchLimits}
use Rattle.sn_types.proofs.Items.{of_item}
use Rattle.sn_types.proofs.typing.typed_branches.Goals as goal

pub typed_branch-requires : goal.typed_branch-requires
typed_branch-requires c = let limits : BranchLimits c.branch-item.result = of_item BranchLimits c.args.branches.now c.loop-branch.branch-index c.branch-item.result c.requires (omega arith) c.branch-item.is in omega (arith, limits.count.to_most, ap length c.as_slice.ensures)
