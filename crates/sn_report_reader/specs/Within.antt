-- to be believed
-- The bytes of a file that are read as reports.
use Rattle.std.specs.Prelude.{ℕ, ◌^◌, List, take}

-- the first 2^30
abbrev pub within : List ℕ → List ℕ
within file = take (2 ^ 30) file
