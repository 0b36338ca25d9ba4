use Rattle.std.proofs.Common.{◌≡◌, ◌-◌, ◌≤◌, ◌++◌}
use Rattle.std.proofs.Math.ListN.{replicate}
use Rattle.sn_plan_space.specs.declared.known.Slot.TheVariants.{Keyed}
use Rattle.sn_plan_space.proofs.slots.add_chain.Given as goal

abbrev pub invariant-loop : goal.invariant-loop
invariant-loop l = record { done : l.slots ++ replicate (l.depth - l.counter) (Keyed l.bits) ≡ l.fn.slots ++ replicate l.depth (Keyed l.bits); within : l.counter ≤ l.depth }
