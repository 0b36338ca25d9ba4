use Rattle.std.proofs.Common.{◌*◌, ◌/◌, ap, ap₂}
use Rattle.std.specs.Hash.FoldHasher.{folded_multiply}
use Rattle.std.specs.Prelude.{bit_and, bit_xor}
use Rattle.sn_base.proofs.seed.folded.Goals as goal

pub returns : goal.returns
unfolding folded_multiply
returns c = ap (λ n. bit_xor (bit_and n 18446744073709551615) (n / 18446744073709551616)) (ap₂ (λ a b. a * b) c.from.ensures c.from-2.ensures)
