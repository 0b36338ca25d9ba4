use Rattle.std.proofs.Common.{◌≡◌, drop}
use Rattle.sn_types_faults.specs.Walk.{first_fault, branch_places}
use Rattle.std.specs.List.{flat_map}
use Rattle.sn_types_faults.proofs.walk.branches_fault.Given as goal

abbrev pub invariant-loop-branch : goal.invariant-loop-branch
invariant-loop-branch l = first_fault (flat_map (λ b. branch_places l.refine b.ops) (drop l.branch-index l.branches)) ≡ first_fault (flat_map (λ b. branch_places l.refine b.ops) l.branches)
