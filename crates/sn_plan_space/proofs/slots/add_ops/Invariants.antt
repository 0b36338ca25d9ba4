use Rattle.std.proofs.Common.{◌≡◌, ◌++◌, drop, map}
use Rattle.sn_plan_choices.specs.Options.{op_slots}
use Rattle.sn_plan_space.specs.Known.{known_slot}
use Rattle.sn_plan_space.proofs.slots.add_ops.Given as goal

abbrev pub invariant-loop-n : goal.invariant-loop-n
invariant-loop-n l = l.slots ++ map known_slot (op_slots l.depth l.schemas l.n (drop l.n l.ops) l.left) ≡ l.fn.slots ++ map known_slot (op_slots l.depth l.schemas 0 l.ops l.sizes)
