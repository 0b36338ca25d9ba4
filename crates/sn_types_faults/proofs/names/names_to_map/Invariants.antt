use Rattle.std.proofs.Common.{◌≡◌, ◌++◌, drop}
use Rattle.sn_types_faults.specs.Names.{names_to_map}
use Rattle.sn_types_faults.proofs.names.names_to_map.Given as goal

abbrev pub invariant-loop-op : goal.invariant-loop-op
invariant-loop-op l = l.names ++ names_to_map (drop l.op-index l.ops) ≡ names_to_map l.ops
