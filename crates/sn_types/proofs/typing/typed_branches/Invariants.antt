use Rattle.std.proofs.Common.{◌≡◌, take, map}
use Rattle.sn_types.specs.Typing.{typed_branch}
use Rattle.sn_types.proofs.typing.typed_branches.Given as goal

abbrev pub invariant-loop-branch : goal.invariant-loop-branch
invariant-loop-branch l = l.typed ≡ map (λ b. typed_branch b.ops) (take l.branch-index l.branches)
