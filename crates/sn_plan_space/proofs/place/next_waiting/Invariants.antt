use Rattle.std.proofs.Common.{◌≡◌, ◌+◌, ◌≤◌, List, length, map}
use Rattle.sn_plan_choices.specs.Options.{Slot}
use Rattle.sn_plan_space.specs.Known.{known_slot}
use Rattle.sn_plan_space.proofs.Nexts.{Left}
use Rattle.sn_plan_space.proofs.place.next_waiting.Given as goal

abbrev pub invariant-loop-slot : goal.invariant-loop-slot
invariant-loop-slot l = record {
  near : l.at + length l.rest ≤ 128;
  few : length l.rest ≤ 64;
  left : (tables : List Slot) → l.slots ≡ map known_slot tables → Left l.stages l.least l.at l.rest tables;
}

abbrev pub decreases-loop-slot : goal.decreases-loop-slot
decreases-loop-slot l = length l.rest
