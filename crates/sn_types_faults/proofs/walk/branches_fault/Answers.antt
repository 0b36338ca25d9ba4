use Rattle.std.proofs.Common.{arith, sym, ap, ◌∙◌}
use Rattle.sn_types_faults.specs.Walk.{branch_places, first_fault}
use Rattle.sn_types_faults.proofs.WalkLemmas.{found_here, none_here}
use Rattle.sn_types_faults.proofs.walk.branches_fault.Goals as goal

pub returns-in-Some : goal.returns-in-Some
returns-in-Some c = found_here (λ b. branch_places c.args.refine.now b.ops) c.args.branches.now c.loop-branch.branch-index c.branch-item.result c.in-Some.found (omega arith) c.branch-item.is (ap (λ ops. first_fault (branch_places c.args.refine.now ops)) (sym c.as_slice.ensures) ∙ sym c.in_ok-fault.ensures ∙ c.in-Some.is) c.loop-branch.invariant

pub loop-branch-preserved : goal.loop-branch-preserved
loop-branch-preserved c = none_here (λ b. branch_places c.args.refine.now b.ops) c.args.branches.now c.loop-branch.branch-index c.branch-item.result (omega arith) c.branch-item.is (ap (λ ops. first_fault (branch_places c.args.refine.now ops)) (sym c.as_slice.ensures) ∙ sym c.in_ok-fault.ensures ∙ c.in-None.is) c.loop-branch.invariant
