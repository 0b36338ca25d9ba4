-- serves proofs
-- Numbers of 64 bits.
use Rattle.std.specs.Prelude.{ℕ, ◌^◌, List, Bool, nat_lt}
use Rattle.std.specs.List.{list_all}

abbrev pub is_word : ℕ → Bool
is_word n = nat_lt n (2 ^ 64)

-- whether all numbers are below 2^64
abbrev pub are_words : List ℕ → Bool
are_words = list_all is_word
