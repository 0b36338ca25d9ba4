-- to be believed
-- How large a register may be.
use Rattle.std.specs.Prelude.{ℕ}

-- the most slots of a register
abbrev pub largest_register : ℕ
largest_register = 65536
