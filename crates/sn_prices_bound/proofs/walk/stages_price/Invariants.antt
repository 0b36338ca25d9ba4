use Rattle.std.proofs.Common.{◌≡◌, ◌++◌, List, length}
use Rattle.sn_plan_space.specs.declared.known.Slot.{Slot}
use Rattle.sn_prices_bound.specs.Walks.{IsWalk}
use Rattle.sn_prices_bound.proofs.walk.stages_price.Given as goal

abbrev pub invariant-loop-slot : goal.invariant-loop-slot
invariant-loop-slot l = (done : List Slot) × (l.left ++ done ≡ l.slots) × IsWalk l.s l.p done l.walk

abbrev pub decreases-loop-slot : goal.decreases-loop-slot
decreases-loop-slot l = length l.left
