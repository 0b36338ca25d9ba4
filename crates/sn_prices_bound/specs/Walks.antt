-- serves proofs
-- What the tables of a piece pay at least, as the code has them: a register of more than 2^64 - 1 bits has that number.
use Rattle.std.specs.Prelude.{◌≡◌, ℕ, ◌+◌, ◌-◌, ◌≤◌, List, [], ◌∷◌, length, slice_index, nat_lt, if◌then◌else◌}
use Rattle.sn_switch.specs.declared.switch.Switch.{Switch}
use Rattle.sn_plan_space.specs.declared.known.Slot.{Slot}
use Rattle.sn_plan_space.specs.declared.known.Slot.TheVariants.{Plain, Keyed}
use Rattle.sn_prices_grammar.specs.declared.prices.Prices.{Prices}
use Rattle.sn_prices.specs.Limits.{forbidden, register_price}
use Rattle.sn_prices.specs.Least.{least_or}

-- where the first table may have this stage
abbrev pub known_stages : Switch → Prices → ℕ → List Slot → ℕ
known_stages s p least [] = if nat_lt s.stages least then forbidden else 0
known_stages s p least (Plain ∷ slots) = known_stages s p (least + 1) slots
known_stages s p least (Keyed bits ∷ slots) =
    least_or forbidden (λ k. register_price s p (record { stage = least + k; bits = bits }) + known_stages s p (least + k + 1) slots) (s.stages - least)

-- the numbers are what the tables pay for each stage from 0 to 32 that the first of them may have
pub record IsWalk (s : Switch) (p : Prices) (slots : List Slot) (walk : List ℕ) : Type 0 where
  pub count : length walk ≡ 33
  pub each : (least : ℕ) → least ≤ 32 → slice_index walk least ≡ known_stages s p least slots
