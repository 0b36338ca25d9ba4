-- A record before the end of the current window is in that window.
use Rattle.std.proofs.Common.{◌≡◌, ℕ, ◌+◌, ◌*◌, ◌-◌, ◌/◌, ◌<◌, ◌≤◌, Option, None, Some, max, cond, refl, ap, arith}
use Rattle.std.specs.Option.{ForNone, ForSome}
use Rattle.std.proofs.Math.Nat.{div-lt_iff_lt-mul}
use Rattle.std.proofs.lemmas.Bool.{eq-eqb}
use Rattle.sn_windows.specs.Windows.{offset}
use Rattle.sn_windows.specs.Numbering.{Numbering, next_number, next_count}

-- it has the current number, and is counted among those that have it
pub record IsAtHand (s : Numbering) (time : ℕ) : Type 0 where
  pub number : next_number s time ≡ s.number
  pub count : next_count s time ≡ s.count

offset_below : (window first number time : ℕ) → 1 ≤ window → time < first + (number + 1) * window → offset window first time ≤ number
offset_below window first number time some before =
    let positive : 0 < window = omega arith in
    let below : (time - first) / window < number + 1 = (div-lt_iff_lt-mul positive).1 (omega arith) in
    omega arith

pub before_end : (window number count end time : ℕ) (first : Option ℕ) → 1 ≤ window → ForNone first (end ≡ 0) → ForSome first (λ f. end ≤ f + (number + 1) * window) → time < end
    → IsAtHand (record { window = window; first = first; number = number; count = count }) time
before_end window number count end time None some unbegun at_hand before =
    let none : end ≡ 0 = unbegun refl in
    absurd (omega arith)
before_end window number count end time (Some first) some unbegun at_hand before =
    let within : end ≤ first + (number + 1) * window = at_hand first refl in
    let low : offset window first time ≤ number = offset_below window first number time some (omega arith) in
    let same : max number (offset window first time) ≡ number = omega arith in
    record {
      number = same;
      count = ap (λ b. cond b count 0) (eq-eqb (max number (offset window first time)) number same);
    }
