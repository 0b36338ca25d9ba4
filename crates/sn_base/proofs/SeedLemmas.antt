-- The eight bytes of a number are that number to a hasher.
use Rattle.std.proofs.Common.{◌≡◌, ℕ, ◌<◌, ◌^◌, ap, sym}
use Rattle.std.proofs.lemmas.Nat.{from_le_bytes-to_le_bytes_8}
use Rattle.std.specs.Hash.{le_bytes}
use Rattle.sn_base.specs.Seeds.{after_bytes, mixed}

pub number_written : (state n : ℕ) → n < 2 ^ 64 → mixed state n ≡ after_bytes state (le_bytes 8 n)
unfolding le_bytes
number_written state n below = ap (mixed state) (sym (from_le_bytes-to_le_bytes_8 n below))
