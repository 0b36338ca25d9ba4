-- serves proofs
-- What a hasher of rows makes of bytes.
use Rattle.std.specs.Prelude.{ℕ, List, length, bit_xor, nat_eq, if◌then◌else◌}
use Rattle.std.specs.List.{fold}
use Rattle.std.specs.Int.{w64, from_le_bytes}
use Rattle.std.specs.Hash.FoldHasher.{folded_multiply}

-- the state after one more number: the halves of a product of 128 bits, joined
abbrev pub mixed : ℕ → ℕ → ℕ
mixed state word = folded_multiply (bit_xor state word) 11400714819323198485

-- the state after bytes: eight are one number, and of other counts each byte is one
abbrev pub after_bytes : ℕ → List ℕ → ℕ
after_bytes state bytes = if nat_eq (length bytes) 8 then mixed state (from_le_bytes w64 bytes) else fold mixed state bytes
