-- to be believed
-- Limits of a switch with prices: what registers and metadata weigh and pay, and what the limits are worth.
use Rattle.std.specs.Prelude.{ℕ, zero, suc, ◌+◌, ◌*◌, ◌/◌, ◌^◌, Bool, ◌&&◌, Option, Some, None, nat_le, nat_lt, if◌then◌else◌}
use Rattle.std.specs.List.{sum_by}
use Rattle.sn_switch.specs.declared.switch.Switch.{Switch}
use Rattle.sn_plan_fit.specs.Registers.{Register}
use Rattle.sn_prices_grammar.specs.declared.prices.Mix.{Mix}
use Rattle.sn_prices_grammar.specs.declared.prices.StageLimit.{StageLimit}
use Rattle.sn_prices_grammar.specs.declared.prices.Limit.{Limit}
use Rattle.sn_prices_grammar.specs.declared.prices.Limit.TheVariants.{Stages, Meta}
use Rattle.sn_prices_grammar.specs.declared.prices.Prices.{Prices}

-- ---- what a register weighs

-- Its bits times one number and another number are added, divided by a third, and rounded down. Without a mix that is the bits over the divisor.
-- Over a divisor of 0 everything weighs nothing.
abbrev pub times_of : Option Mix → ℕ
times_of None = 1
times_of (Some m) = m.times

abbrev pub plus_of : Option Mix → ℕ
plus_of None = 0
plus_of (Some m) = m.plus

abbrev pub weight : StageLimit → ℕ → ℕ
weight l bits = (times_of l.mix * bits + plus_of l.mix) / l.divisor

-- What the registers of a stage weigh at most where they are no more and no larger than the switch admits.
abbrev pub capacity : Switch → StageLimit → ℕ
capacity s l = (times_of l.mix * s.bits + plus_of l.mix * s.actions) / l.divisor

-- a limit is one of this stage
abbrev pub applies : StageLimit → ℕ → Bool
applies l stage = nat_le l.first stage && nat_le stage l.last

-- ---- what is taken up pays

-- More than a piece of a plan that fits pays at the prices of a text: what a register larger than a stage pays, and a piece past the last stage.
abbrev pub forbidden : ℕ
forbidden = 2 ^ 108

-- a register of these bits in a stage, by a limit
abbrev pub limit_price : ℕ → ℕ → Limit → ℕ
limit_price stage bits (Stages l) = if applies l stage then l.price * weight l bits else 0
limit_price stage bits (Meta l) = 0

-- a register, by all limits
abbrev pub register_price : Switch → Prices → Register → ℕ
register_price s p r =
    if nat_lt r.stage s.stages then (if nat_lt s.bits r.bits then forbidden else sum_by (limit_price r.stage r.bits) p.limits) else 0

-- the metadata of a piece, by a limit
abbrev pub meta_price : ℕ → Limit → ℕ
meta_price bits (Stages l) = 0
meta_price bits (Meta l) = l.price * (bits / l.divisor)

-- and by all limits
abbrev pub metadata_price : Prices → ℕ → ℕ
metadata_price p bits = sum_by (meta_price bits) p.limits

-- ---- what the limits are worth

-- a limit in one stage
abbrev pub limit_worth : Switch → ℕ → Limit → ℕ
limit_worth s stage (Stages l) = if applies l stage then l.price * capacity s l else 0
limit_worth s stage (Meta l) = 0

-- all limits in one stage
abbrev pub stage_worth : Switch → Prices → ℕ → ℕ
stage_worth s p stage = sum_by (limit_worth s stage) p.limits

-- and in the stages below this one
abbrev pub stages_worth : Switch → Prices → ℕ → ℕ
stages_worth s p zero = 0
stages_worth s p (suc n) = stages_worth s p n + stage_worth s p n

-- all limits of the switch's stages and of its metadata
abbrev pub worth : Switch → Prices → ℕ
worth s p = stages_worth s p s.stages + metadata_price p s.meta
