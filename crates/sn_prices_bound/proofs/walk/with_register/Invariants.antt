use Rattle.std.proofs.Common.{◌≡◌, ℕ, ◌≤◌, List, ◌∷◌, length}
use Rattle.std.specs.Prelude.{slice_index}
use Rattle.sn_plan_space.specs.declared.known.Slot.{Slot}
use Rattle.sn_plan_space.specs.declared.known.Slot.TheVariants.{Keyed}
use Rattle.sn_prices_bound.specs.Walks.{known_stages, IsWalk}
use Rattle.sn_prices_bound.proofs.walk.with_register.Given as goal

abbrev pub invariant-loop-stage : goal.invariant-loop-stage
invariant-loop-stage l = record {
  count : length l.walk ≡ 33;
  each : (slots : List Slot) → IsWalk l.s l.p slots l.after → (k : ℕ) → l.stage ≤ k → k ≤ 32 → slice_index l.walk k ≡ known_stages l.s l.p k (Keyed l.bits ∷ slots);
}
