-- Numbers in a base, and the shares of a number of 128 bits.
use Rattle.std.proofs.Common.{◌≡◌, ◌≢◌, ℕ, zero, suc, ◌+◌, ◌-◌, ◌*◌, ◌/◌, ◌%◌, ◌^◌, ◌<◌, ◌≤◌, [], ◌∷◌, ◌++◌, length, drop, append_assoc, length-append, true, false, nat_eq, nat_lt, slice_index_or, bit_or, bit_and, refl, ap, ap₂, sym, subst, ◌∙◌, arith}
use Rattle.std.proofs.Math.Nat.{mul_comm, mul-le-mul_left, mul-zero, mul-suc, pow-zero, pow-suc, pow-succ', pow-le-pow_right, div-lt_iff_lt-mul, div-eq_of_lt, mod-eq_of_lt}
use Rattle.std.proofs.Math.ListN.{drop_of_length-le}
use Rattle.std.proofs.Math.Pow.{pow_mono}
use Rattle.std.proofs.Math.Seq.{drop-cons}
use Rattle.std.proofs.lemmas.List.{length-drop}
use Rattle.std.proofs.lemmas.Nat.{pow_pos, pow-add, mul-add-lt, div-mul-add, mod-mul-add, div_below, mod_below, div-add-mod', or_shifted, and_mask, one_shl}
use Rattle.std.proofs.lemmas.Bool.{ltb-true, lt-ltb, eq-eqb}
use Rattle.sn_base.specs.Groups.{Row}
use Rattle.sn_base.proofs.Lists.{not_true, and_parts, and_both}
use Rattle.sn_table.specs.Narrow.{number_in, digits_in, are_digits, width_of, base_of, is_narrow, number_of, columns_of}

-- ---- digits

turned : (base c n : ℕ) → c + base * n ≡ n * base + c
turned base c n = omega (arith, mul_comm base n)

low_digit : (base c n : ℕ) → c < base → (c + base * n) % base ≡ c
low_digit base c n h = ap (λ x. x % base) (turned base c n) ∙ mod-mul-add n base c h

high_digits : (base c n : ℕ) → c < base → (c + base * n) / base ≡ n
high_digits base c n h = ap (λ x. x / base) (turned base c n) ∙ div-mul-add n base c h

-- a row of digits is the digits of its number
pub row_back : (base : ℕ) (row : Row) → are_digits base row ≡ true → digits_in base (length row) (number_in base row) ≡ row
row_back base [] h = refl
row_back base (c ∷ cs) h =
    let p = and_parts (nat_lt c base) (are_digits base cs) h in
    let below : c < base = ltb-true c base p.0 in
    ap₂ (λ x xs. x ∷ xs) (low_digit base c (number_in base cs) below)
    (ap (digits_in base (length cs)) (high_digits base c (number_in base cs) below) ∙ row_back base cs p.1)

-- a number of n digits is the number with its digits
pub number_back : (base count number : ℕ) → 0 < base → number < base ^ count → number_in base (digits_in base count number) ≡ number
number_back base zero number some h = omega (arith, pow-zero base)
number_back base (suc count) number some h =
    let shorter : number / base < base ^ count = div_below number base (base ^ count) some (subst (λ p. number < p) (pow-suc base count) h) in
    ap (λ n. number % base + base * n) (number_back base count (number / base) some shorter)
    ∙ omega (arith, div-add-mod' number base, mul_comm base (number / base))

-- it has no more digits than the row has columns
pub number_below : (base : ℕ) (row : Row) → are_digits base row ≡ true → number_in base row < base ^ length row
number_below base [] h = omega (arith, pow-zero base)
number_below base (c ∷ cs) h =
    let p = and_parts (nat_lt c base) (are_digits base cs) h in
    subst (λ n. c + base * number_in base cs < n) (sym (pow-succ' base (length cs)))
    (subst (λ n. n < base * base ^ length cs) (sym (turned base c (number_in base cs)))
    (mul-add-lt (number_in base cs) base c (base ^ length cs) (number_below base cs p.1) (ltb-true c base p.0)))

pub are_digits_in : (base count number : ℕ) → 0 < base → are_digits base (digits_in base count number) ≡ true
are_digits_in base zero number some = refl
are_digits_in base (suc count) number some =
    and_both (nat_lt (number % base) base) (are_digits base (digits_in base count (number / base)))
    (lt-ltb (number % base) base (mod_below number base some)) (are_digits_in base count (number / base) some)

pub length_digits_in : (base count number : ℕ) → length (digits_in base count number) ≡ count
length_digits_in base zero number = refl
length_digits_in base (suc count) number = ap suc (length_digits_in base count (number / base))

-- the digits after a place are digits
pub are_digits_after : (base place : ℕ) (row : Row) → are_digits base row ≡ true → are_digits base (drop place row) ≡ true
are_digits_after base zero row h = h
are_digits_after base (suc place) [] h = refl
are_digits_after base (suc place) (c ∷ cs) h = are_digits_after base place cs (and_parts (nat_lt c base) (are_digits base cs) h).1

-- ---- shares

-- each number of columns has its share
pub share_is : (columns : ℕ) → columns ≤ 8 → slice_index_or (0 ∷ 128 ∷ 64 ∷ 42 ∷ 32 ∷ 25 ∷ 21 ∷ 18 ∷ 16 ∷ []) columns 0 ≡ width_of columns
unfolding width_of
share_is zero h = refl
share_is (suc zero) h = refl
share_is (suc (suc zero)) h = refl
share_is (suc (suc (suc zero))) h = refl
share_is (suc (suc (suc (suc zero)))) h = refl
share_is (suc (suc (suc (suc (suc zero))))) h = refl
share_is (suc (suc (suc (suc (suc (suc zero)))))) h = refl
share_is (suc (suc (suc (suc (suc (suc (suc zero))))))) h = refl
share_is (suc (suc (suc (suc (suc (suc (suc (suc zero)))))))) h = refl
share_is (suc (suc (suc (suc (suc (suc (suc (suc (suc n))))))))) h = absurd (omega arith)

-- that of one of several is at most 64 bits
pub share_most : (columns : ℕ) → columns ≤ 8 → columns ≢ 1 → width_of columns ≤ 64
unfolding width_of
share_most zero h several = omega arith
share_most (suc zero) h several = absurd (several refl)
share_most (suc (suc zero)) h several = omega arith
share_most (suc (suc (suc zero))) h several = omega arith
share_most (suc (suc (suc (suc zero)))) h several = omega arith
share_most (suc (suc (suc (suc (suc zero))))) h several = omega arith
share_most (suc (suc (suc (suc (suc (suc zero)))))) h several = omega arith
share_most (suc (suc (suc (suc (suc (suc (suc zero))))))) h several = omega arith
share_most (suc (suc (suc (suc (suc (suc (suc (suc zero)))))))) h several = omega arith
share_most (suc (suc (suc (suc (suc (suc (suc (suc (suc n))))))))) h several = absurd (omega arith)

-- the shares of all columns are at most 128 bits
pub shares_fit : (columns : ℕ) → columns ≤ 8 → width_of columns * columns ≤ 128
unfolding width_of
shares_fit zero h = omega arith
shares_fit (suc zero) h = omega arith
shares_fit (suc (suc zero)) h = omega arith
shares_fit (suc (suc (suc zero))) h = omega arith
shares_fit (suc (suc (suc (suc zero)))) h = omega arith
shares_fit (suc (suc (suc (suc (suc zero))))) h = omega arith
shares_fit (suc (suc (suc (suc (suc (suc zero)))))) h = omega arith
shares_fit (suc (suc (suc (suc (suc (suc (suc zero))))))) h = omega arith
shares_fit (suc (suc (suc (suc (suc (suc (suc (suc zero)))))))) h = omega arith
shares_fit (suc (suc (suc (suc (suc (suc (suc (suc (suc n))))))))) h = absurd (omega arith)

power_power : (w n : ℕ) → (2 ^ w) ^ n ≡ 2 ^ (w * n)
power_power w zero = pow-zero (2 ^ w) ∙ sym (ap (λ k. 2 ^ k) (mul-zero w))
power_power w (suc n) =
    pow-suc (2 ^ w) n ∙ ap (λ p. p * 2 ^ w) (power_power w n) ∙ sym (pow-add 2 (w * n) w) ∙ ap (λ k. 2 ^ k) (sym (mul-suc w n))

-- so a number of n columns fits
pub numbers_fit : (columns place : ℕ) → columns ≤ 8 → place ≤ columns → base_of columns ^ place ≤ 2 ^ 128
numbers_fit columns place few part =
    let inside : width_of columns * place ≤ 128 = omega (arith, shares_fit columns few, mul-le-mul_left (width_of columns) part) in
    subst (λ p. p ≤ 2 ^ 128) (sym (power_power (width_of columns) place))
    (pow-le-pow_right (omega arith) inside)

-- a quotient of 0 is that of a digit
below_by_quotient : (c base : ℕ) → 0 < base → c / base ≡ 0 → c < base
below_by_quotient c base some none = omega (arith, (div-lt_iff_lt-mul {k = base} {x = c} {y = 1} some).0 (omega arith))

-- the digit that is shifted in is the lowest
pub shifted_in : (columns place number c : ℕ) → columns ≤ 8 → place < columns → number < base_of columns ^ place → c < base_of columns
    → bit_or (number * 2 ^ width_of columns % 2 ^ 128) c ≡ c + base_of columns * number
shifted_in columns place number c few part below digit =
    let base = base_of columns in
    let room : base * base ^ place ≤ 2 ^ 128 = subst (λ p. p ≤ 2 ^ 128) (pow-succ' base place) (numbers_fit columns (suc place) few (omega arith)) in
    let next : number * base + c < base * base ^ place = mul-add-lt number base c (base ^ place) below digit in
    let fits : number * base < 2 ^ 128 = omega arith in
    ap (λ n. bit_or n c) (mod-eq_of_lt fits) ∙ or_shifted number (width_of columns) c digit ∙ sym (turned base c number)

-- ---- a row as its number, column by column from the last

-- the number of the last columns of a row
pub record Packs (columns place : ℕ) (row : Row) (number : ℕ) : Type 0 where
  pub number_is : number ≡ number_in (base_of columns) (drop (columns - place) row)
  pub digits : are_digits (base_of columns) (drop (columns - place) row) ≡ true

front_after : (columns place : ℕ) (row : Row) (c : ℕ) → length row ≡ columns → place < columns → c ≡ slice_index_or row (columns - 1 - place) 0
    → drop (columns - (place + 1)) row ≡ c ∷ drop (columns - place) row
front_after columns place row c long part is =
    let at = columns - 1 - place in
    let before : columns - (place + 1) ≡ at = omega arith in
    let following : suc at ≡ columns - place = omega arith in
    ap (λ n. drop n row) before ∙ drop-cons row at 0 (omega arith) ∙ ap₂ (λ x n. x ∷ drop n row) (sym is) following

pub packs_none : (columns : ℕ) (row : Row) → length row ≡ columns → Packs columns 0 row 0
packs_none columns row long =
    let none : drop (columns - 0) row ≡ [] = drop_of_length-le row (omega arith) in
    record {
      number_is = sym (ap (number_in (base_of columns)) none);
      digits = ap (are_digits (base_of columns)) none;
    }

pub packs_more : (columns place width number c : ℕ) (row : Row) → length row ≡ columns → columns ≤ 8 → width ≡ width_of columns → place < columns
    → c ≡ slice_index_or row (columns - 1 - place) 0 → c / 2 ^ width ≡ 0 → Packs columns place row number
    → Packs columns (place + 1) row (bit_or (number * 2 ^ width % 2 ^ 128) c)
packs_more columns place width number c row long few share part is none h =
    let base = base_of columns in
    let digit : c < base = below_by_quotient c base (pow_pos (width_of columns)) (sym (ap (λ w. c / 2 ^ w) share) ∙ none) in
    let following = drop (columns - place) row in
    let size : length following ≡ place = omega (arith, length-drop (columns - place) row) in
    let below : number < base ^ place = subst (λ n. number < base ^ n) size (subst (λ n. n < base ^ length following) (sym h.number_is) (number_below base following h.digits)) in
    let front = front_after columns place row c long part is in
    record {
      number_is =
          ap (λ w. bit_or (number * 2 ^ w % 2 ^ 128) c) share ∙ shifted_in columns place number c few part below digit
          ∙ ap (λ n. c + base * n) h.number_is ∙ sym (ap (number_in base) front);
      digits = ap (are_digits base) front ∙ and_both (nat_lt c base) (are_digits base following) (lt-ltb c base digit) h.digits;
    }

-- a column with more bits than its share
pub too_wide : (columns place width c : ℕ) (row : Row) → length row ≡ columns → width ≡ width_of columns → place < columns
    → c ≡ slice_index_or row (columns - 1 - place) 0 → (c / 2 ^ width ≡ 0 → ⊥) → is_narrow columns row ≡ false
too_wide columns place width c row long share part is some =
    not_true (is_narrow columns row) (λ h.
    let base = base_of columns in
    let all = (and_parts (nat_eq (length row) columns) (are_digits base row) h).1 in
    let following : are_digits base (c ∷ drop (columns - place) row) ≡ true =
    subst (λ xs. are_digits base xs ≡ true) (front_after columns place row c long part is) (are_digits_after base (columns - (place + 1)) row all) in
    let digit : c < base = ltb-true c base (and_parts (nat_lt c base) (are_digits base (drop (columns - place) row)) following).0 in
    some (ap (λ w. c / 2 ^ w) share ∙ div-eq_of_lt digit))

pub packs_all : (columns place number : ℕ) (row : Row) → length row ≡ columns → columns ≤ place → Packs columns place row number
    → (is_narrow columns row ≡ true) × (number ≡ number_of columns row)
packs_all columns place number row long all h =
    let none : columns - place ≡ 0 = omega arith in
    let whole : drop (columns - place) row ≡ row = ap (λ n. drop n row) none in (
      and_both (nat_eq (length row) columns) (are_digits (base_of columns) row) (eq-eqb (length row) columns long) (sym (ap (are_digits (base_of columns)) whole) ∙ h.digits),
      h.number_is ∙ ap (number_in (base_of columns)) whole,
    )

-- ---- a number as its row, column by column from the first

-- the row so far has the first columns, and the rest of the number those after it
pub record Unpacks (columns place number rest : ℕ) (row : Row) : Type 0 where
  pub size : length row ≡ place
  pub whole : row ++ digits_in (base_of columns) (columns - place) rest ≡ columns_of columns number

-- the mask of a share leaves a digit
pub masked : (width rest : ℕ) → width ≤ 64 → bit_and rest (1 * 2 ^ width % 2 ^ 128 - 1) ≡ rest % 2 ^ width
masked width rest most = ap (λ n. bit_and rest (n - 1)) (one_shl width 128 (omega arith)) ∙ and_mask rest width

-- which is a number of 64 bits
pub digit_fits : (rest width limit : ℕ) → width ≤ 64 → 2 ^ 64 ≤ limit → bit_and rest (1 * 2 ^ width % 2 ^ 128 - 1) < limit
digit_fits rest width limit most fit =
    let digit : bit_and rest (1 * 2 ^ width % 2 ^ 128 - 1) < 2 ^ width = subst (λ n. n < 2 ^ width) (sym (masked width rest most)) (mod_below rest (2 ^ width) (pow_pos width)) in
    let share : 2 ^ width ≤ 2 ^ 64 = pow_mono most in
    omega (arith, digit, share, fit)

pub unpacks_more : (columns place number rest width : ℕ) (row new : Row) → width ≡ width_of columns → width ≤ 64 → place < columns → Unpacks columns place number rest row
    → new ≡ row ++ bit_and rest (1 * 2 ^ width % 2 ^ 128 - 1) ∷ [] → Unpacks columns (place + 1) number (rest / 2 ^ width) new
unpacks_more columns place number rest width row new share most part h is =
    let base = base_of columns in
    let left = columns - (place + 1) in
    let one : columns - place ≡ suc left = omega arith in
    let digit : bit_and rest (1 * 2 ^ width % 2 ^ 128 - 1) ≡ rest % base = masked width rest most ∙ ap (λ w. rest % 2 ^ w) share in
    record {
      size = ap length is ∙ length-append row (bit_and rest (1 * 2 ^ width % 2 ^ 128 - 1) ∷ []) ∙ ap (λ n. n + 1) h.size;
      whole =
          ap₂ (λ r w. r ++ digits_in base left (rest / 2 ^ w)) is share
          ∙ append_assoc row (bit_and rest (1 * 2 ^ width % 2 ^ 128 - 1) ∷ []) (digits_in base left (rest / base))
          ∙ ap (λ c. row ++ c ∷ digits_in base left (rest / base)) digit
          ∙ sym (ap (λ n. row ++ digits_in base n rest) one) ∙ h.whole;
    }
