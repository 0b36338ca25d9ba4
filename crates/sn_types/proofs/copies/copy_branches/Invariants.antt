use Rattle.std.proofs.Common.{◌≡◌, take}
use Rattle.sn_types.proofs.copies.copy_branches.Given as goal

abbrev pub invariant-loop-branch : goal.invariant-loop-branch
invariant-loop-branch l = l.copied ≡ take l.branch-index l.branches
