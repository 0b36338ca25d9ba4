-- Numbers of a width.
use Rattle.std.proofs.Common.{◌≡◌, ℕ, ◌*◌, ◌/◌, ◌^◌, ◌<◌, ◌≤◌, ap, sym, ◌∙◌, arith}
use Rattle.std.proofs.Math.Nat.{div-eq_of_lt, zero-mul}
use Rattle.std.proofs.Math.Pow.{pow_mono}

-- by all its bits and more nothing is left of a number
pub none_left : (width places n : ℕ) → n < 2 ^ width → width ≤ places → 0 ≡ n / 2 ^ places
none_left width places n fits all =
    let most : 2 ^ width ≤ 2 ^ places = pow_mono all in
    sym (div-eq_of_lt (omega (arith, most, fits)))

pub none_kept : (width places n : ℕ) → n < 2 ^ width → width ≤ places → 0 ≡ n / 2 ^ places * 2 ^ places
none_kept width places n fits all = sym (zero-mul (2 ^ places)) ∙ ap (λ m. m * 2 ^ places) (none_left width places n fits all)
