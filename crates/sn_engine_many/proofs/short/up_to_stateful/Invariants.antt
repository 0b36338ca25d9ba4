use Rattle.std.proofs.Common.{◌≡◌, ◌+◌, ◌≤◌, drop}
use Rattle.sn_engine_many.specs.Shorts.{up_to_stateful}
use Rattle.sn_engine_many.proofs.short.up_to_stateful.Given as goal

abbrev pub invariant-loop-op : goal.invariant-loop-op
invariant-loop-op l = record { value : l.count + up_to_stateful (drop l.op-index l.ops) ≡ up_to_stateful l.ops; most : l.count ≤ l.op-index }
