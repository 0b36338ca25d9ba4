use Rattle.std.proofs.Common.{◌≡◌, map, take}
use Rattle.std.specs.List.{flat_map}
use Rattle.sn_types.specs.declared.typed_op.TOp.TheVariants as ops
use Rattle.sn_types.specs.Values.{op_at}
use Rattle.sn_cost_counts.specs.Flows.{stepped}
use Rattle.sn_cost_counts.specs.Shared.{over_and_marks, staying}
use Rattle.sn_cost_counts.proofs.again.by_marks.Given as goal

abbrev pub invariant-loop-homes : goal.invariant-loop-homes
invariant-loop-homes g l =
    l.out.items ≡ flat_map (λ f. map (λ size. stepped l.depth size (op_at 0 (ops.Reduce l.r)) f) l.slots) (take l.homes-index (map (λ h. staying l.shared.distinct l.shared.rows (over_and_marks h)) l.shared.homes.items))
