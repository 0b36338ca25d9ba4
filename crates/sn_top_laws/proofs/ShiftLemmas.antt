-- A wide shift leaves nothing.
use Rattle.std.proofs.Common.{◌≡◌, ℕ, zero, suc, ◌<◌, ◌≤◌, ◌^◌, List, [], ◌∷◌, slice_index, arith}
use Rattle.std.specs.List.{All, AllByRecursion}
use Rattle.std.proofs.Math.Nat.{div-eq_of_lt}
use Rattle.std.proofs.Math.Pow.{pow_mono, pow_pos}
use Rattle.std.proofs.lemmas.List.Elements.{recursion_from_All}
use Rattle.sn_types.specs.Values.{value_of}
use Rattle.sn_types.specs.declared.typed_op.TExpr.TheVariants.{Shift}

-- each number of a row is of 64 bits, and so is the 0 that is read past its end
number_at : (row : List ℕ) (a : ℕ) → AllByRecursion (λ n. n < 2 ^ 64) row → slice_index row a < 2 ^ 64
number_at [] a h = pow_pos 64
number_at (x ∷ xs) zero h = h.0
number_at (x ∷ xs) (suc a) h = number_at xs a h.1

pub shifted_out : (row : List ℕ) (a k : ℕ) → All (λ n. n < 2 ^ 64) row → 64 ≤ k → value_of (Shift a k) row ≡ 0
shifted_out row a k small wide =
    let low = number_at row a (recursion_from_All (λ n. n < 2 ^ 64) row small) in
    let high : 2 ^ 64 ≤ 2 ^ k = pow_mono wide in
    div-eq_of_lt (omega (arith, low, high))
