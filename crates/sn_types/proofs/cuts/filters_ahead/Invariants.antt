use Rattle.std.proofs.Common.{◌≡◌, drop, ◌≤◌, ◌+◌}
use Rattle.sn_types.specs.Cuts.{filters_ahead}
use Rattle.sn_types.proofs.cuts.filters_ahead.Given as goal

abbrev pub invariant-loop-op : goal.invariant-loop-op
invariant-loop-op l = record { value : l.count + filters_ahead (drop l.op-index l.ops) ≡ filters_ahead l.ops; most : l.count ≤ l.op-index }
