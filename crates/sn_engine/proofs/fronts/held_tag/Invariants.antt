use Rattle.std.proofs.Common.{◌≡◌, ◌≤◌, drop}
use Rattle.sn_engine.specs.Turns.{held_tag}
use Rattle.sn_engine.proofs.fronts.held_tag.Given as goal

abbrev pub invariant-loop-op : goal.invariant-loop-op
invariant-loop-op l = record { value : held_tag l.number (drop l.op-index l.ops) ≡ held_tag 0 l.ops; most : l.number ≤ l.op-index }
