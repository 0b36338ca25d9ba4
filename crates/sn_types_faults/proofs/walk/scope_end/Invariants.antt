use Rattle.std.proofs.Common.{◌≡◌, drop}
use Rattle.sn_types_faults.specs.Walk.{scope_end}
use Rattle.sn_types_faults.proofs.walk.scope_end.Given as goal

abbrev pub invariant-loop-op : goal.invariant-loop-op
invariant-loop-op l = scope_end l.scope (drop l.op-index l.ops) ≡ scope_end l.fn.begin l.ops
