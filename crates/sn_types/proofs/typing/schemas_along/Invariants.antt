use Rattle.std.proofs.Common.{◌≡◌, ◌++◌, drop}
use Rattle.sn_types.specs.Typing.{schemas_along}
use Rattle.sn_types.proofs.typing.schemas_along.Given as goal

abbrev pub invariant-loop-op : goal.invariant-loop-op
invariant-loop-op l = l.schemas ++ schemas_along l.columns (drop l.op-index l.ops) ≡ schemas_along l.begin l.ops
