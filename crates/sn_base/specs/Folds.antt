-- to be believed
use Rattle.std.specs.Prelude.{◌≡◌, ℕ, ◌+◌, ◌-◌, ◌^◌, ◌<◌, min, max, bit_or}
use Rattle.std.proofs.Common.{arith, sym, ap, ◌∙◌}
use Rattle.std.proofs.Math.Pow.{pow_pos}
use Rattle.std.proofs.lemmas.Nat.{or_comm, or_lt}
use Rattle.std.proofs.lemmas.Nat.Bits.{same_from_bits, bit_at_or}
use Rattle.std.specs.Int.{bit_at}
use Rattle.std.specs.Int.Bits.{or_zero_l}

-- the laws of a fold over the numbers that it has: where it starts and what it gives are among them, the start
-- changes nothing, and neither order nor grouping matters
pub record FoldLaws (has : ℕ → Type 0) (unit : ℕ) (step : ℕ → ℕ → ℕ) : Type 0 where
  pub unit_had : has unit
  pub closed : (a b : ℕ) → has a → has b → has (step a b)
  pub starts : (a : ℕ) → has a → step unit a ≡ a
  pub commutes : (a b : ℕ) → has a → has b → step a b ≡ step b a
  pub associates : (a b c : ℕ) → has a → has b → has c → step (step a b) c ≡ step a (step b c)

-- a number of v bits
abbrev pub HasBits : ℕ → ℕ → Type 0
HasBits v a = a < 2 ^ v

-- the greatest of them
abbrev pub top_of : ℕ → ℕ
top_of v = 2 ^ v - 1

-- the sum, or the greatest number of v bits where the sum is above it
abbrev pub capped_sum : ℕ → ℕ → ℕ → ℕ
capped_sum v a b = min (a + b) (top_of v)

pub capped_sum_laws : (v : ℕ) → FoldLaws (HasBits v) 0 (capped_sum v)
capped_sum_laws v = let some = pow_pos v in record {
  unit_had = some;
  closed = λ a b x y. omega (arith, some);
  starts = λ a x. omega (arith, some);
  commutes = λ a b x y. omega arith;
  associates = λ a b c x y z. omega arith;
}

pub max_laws : (v : ℕ) → FoldLaws (HasBits v) 0 max
max_laws v = record {
  unit_had = pow_pos v;
  closed = λ a b x y. omega arith;
  starts = λ a x. omega arith;
  commutes = λ a b x y. omega arith;
  associates = λ a b c x y z. omega arith;
}

pub min_laws : (v : ℕ) → FoldLaws (HasBits v) (top_of v) min
min_laws v = let some = pow_pos v in record {
  unit_had = omega (arith, some);
  closed = λ a b x y. omega arith;
  starts = λ a x. omega arith;
  commutes = λ a b x y. omega arith;
  associates = λ a b c x y z. omega arith;
}

max_assoc : (a b c : ℕ) → max (max a b) c ≡ max a (max b c)
max_assoc a b c = omega arith

bit_or_assoc : (a b c : ℕ) → bit_or (bit_or a b) c ≡ bit_or a (bit_or b c)
bit_or_assoc a b c =
    same_from_bits _ _ (λ i. bit_at_or (bit_or a b) c i ∙ ap (λ x. max x (bit_at c i)) (bit_at_or a b i)
    ∙ max_assoc (bit_at a i) (bit_at b i) (bit_at c i)
    ∙ sym (bit_at_or a (bit_or b c) i ∙ ap (max (bit_at a i)) (bit_at_or b c i)))

pub bit_or_laws : (v : ℕ) → FoldLaws (HasBits v) 0 bit_or
bit_or_laws v = record {
  unit_had = pow_pos v;
  closed = λ a b x y. or_lt v a b x y;
  starts = λ a x. or_zero_l a;
  commutes = λ a b x y. or_comm a b;
  associates = λ a b c x y z. bit_or_assoc a b c;
}
