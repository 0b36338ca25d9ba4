use Rattle.std.proofs.Common.{◌≡◌, ◌+◌, ◌≤◌, drop}
use Rattle.sn_types.specs.Cuts.{stateful}
use Rattle.sn_types.proofs.cuts.stateful.Given as goal

abbrev pub invariant-loop-op : goal.invariant-loop-op
invariant-loop-op l = record { value : l.count + stateful (drop l.op-index l.ops) ≡ stateful l.ops; most : l.count ≤ l.op-index }
