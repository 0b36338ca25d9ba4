-- to be believed
use Rattle.std.specs.Prelude.{ℕ, ◌-◌, ◌*◌, ◌/◌, ◌^◌}

-- the highest keep of width bits of a number are kept, and the rest is cleared
abbrev pub masked : ℕ → ℕ → ℕ → ℕ
masked width keep x = x / 2 ^ (width - keep) * 2 ^ (width - keep)
