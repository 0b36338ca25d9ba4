use Rattle.std.proofs.Common.{◌≡◌, length}
use Rattle.sn_types_faults.specs.Walk.{operator_places, first_fault}
use Rattle.sn_types_faults.proofs.walk.operators_fault.Given as goal

abbrev pub invariant-loop-op : goal.invariant-loop-op
invariant-loop-op l = first_fault (operator_places l.levels l.scope l.rest) ≡ first_fault (operator_places l.levels l.fn.begin l.ops)

abbrev pub decreases-loop-op : goal.decreases-loop-op
decreases-loop-op l = length l.rest
