-- serves proofs
-- What stands in each stage of a switch.
use Rattle.std.specs.Prelude.{◌≡◌, ℕ, ◌<◌, List, ◌++◌, Some, length, slice_get}
use Rattle.sn_plan_fit.specs.declared.loads.Load.{Load}
use Rattle.sn_plan_fit.specs.Capped.{capped}
use Rattle.sn_plan_fit.specs.Registers.{Register, count_in, bits_in}

-- the registers of a stage and their bits, each sum at most 2^64 - 1
abbrev pub load_in : List Register → ℕ → Load
load_in registers stage = record { registers = capped (count_in stage registers); bits = capped (bits_in stage registers) }

-- the loads of the stages 0 to 31 are those of these registers
pub record AreLoads (loads : List Load) (registers : List Register) : Type 0 where
  pub count : length loads ≡ 32
  pub each : (stage : ℕ) → stage < 32 → slice_get loads stage ≡ Some (load_in registers stage)

-- these registers are added: whatever stood there before, they stand there too
abbrev pub Adds : List Load → List Load → List Register → Type 0
Adds before now registers = (standing : List Register) → AreLoads before standing → AreLoads now (standing ++ registers)
