use Rattle.std.proofs.Common.{◌≡◌, ◌++◌, drop, length}
use Rattle.sn_types.specs.Typing.{typed_ops}
use Rattle.sn_types.proofs.typing.typed_ops.Given as goal

abbrev pub invariant-loop-op : goal.invariant-loop-op
invariant-loop-op l = record { value : l.typed ++ typed_ops l.columns (drop l.op-index l.ops) ≡ typed_ops l.begin l.ops; count : length l.typed ≡ l.op-index }
