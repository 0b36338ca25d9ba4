-- serves proofs
-- Sums that are cut off at 2^64 - 1, as the code has them before they are known to be small.
use Rattle.std.specs.Prelude.{ℕ, ◌^◌, ◌-◌, ◌<◌, ◌≤◌, List, min}
use Rattle.sn_switch.specs.declared.switch.Switch.{Switch}
use Rattle.sn_plan_fit.specs.Registers.{Register, count_in, bits_in}

abbrev pub capped : ℕ → ℕ
capped n = min n (2 ^ 64 - 1)

-- the sums of a stage fit 64 bits: the registers always, and their bits where there are no more of them than actions
pub record AreSmall (s : Switch) (registers : List Register) : Type 0 where
  pub count : (stage : ℕ) → count_in stage registers < 2 ^ 64
  pub bits : (stage : ℕ) → count_in stage registers ≤ s.actions → bits_in stage registers < 2 ^ 64
