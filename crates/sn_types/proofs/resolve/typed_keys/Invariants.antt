use Rattle.std.proofs.Common.{◌≡◌, take, map}
use Rattle.sn_types.specs.Typing.{join_key}
use Rattle.sn_types.proofs.resolve.typed_keys.Given as goal

abbrev pub invariant-loop-key : goal.invariant-loop-key
invariant-loop-key l = l.places ≡ map (join_key l.left l.right) (take l.key-index l.keys)
