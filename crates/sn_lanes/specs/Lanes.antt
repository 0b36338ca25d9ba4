-- to be believed
-- What the kernels say of one number.
use Rattle.std.specs.Prelude.{ℕ, Bool, ◌==◌, nat_lt, bit_and, if◌then◌else◌}
use Rattle.sn_lanes.specs.declared.compare.Cmp3.{Cmp3}
use Rattle.sn_lanes.specs.declared.compare.Cmp3.TheVariants.{Eq, Lt, Gt}

-- whether a number compares so with the constant
abbrev pub compares : Cmp3 → ℕ → ℕ → Bool
compares Eq x c = x == c
compares Lt x c = nat_lt x c
compares Gt x c = nat_lt c x

-- 1 where the and-ed number compares so, and else 0
abbrev pub flag : Cmp3 → ℕ → ℕ → ℕ → ℕ
flag cmp and c x = if compares cmp (bit_and x and) c then 1 else 0
