-- serves proofs
-- Where the entries of a cost table stand.
use Rattle.std.specs.Prelude.{ℕ, ◌+◌, ◌*◌}

-- a query has 8192 places, a front of a path 512 of these, and a branch 256 of these
abbrev pub place_of : ℕ → ℕ → ℕ → ℕ → ℕ
place_of q prefix b option = q * 8192 + prefix * 512 + b * 256 + option
