-- Rows of one, two and three columns as numbers.
use Rattle.std.proofs.Common.{◌≡◌, ℕ, ◌+◌, ◌*◌, ◌%◌, ◌^◌, ◌<◌, List, [], ◌∷◌, length, get_or, true, ◌&&◌, cond, Some, None, nat_lt, bit_or, Option, IfSome, refl, ap, ap₂, sym, ◌∙◌, arith}
use Rattle.std.proofs.lemmas.Bool.{ltb-true, lt-ltb}
use Rattle.sn_base.specs.Groups.{Row, columns_at}
use Rattle.sn_base.proofs.Lists.{and_parts, and_both}
use Rattle.std.proofs.Math.Nat.{mod-eq_of_lt}
use Rattle.sn_table.specs.Narrow.{width_of, base_of, is_narrow, number_of, columns_of}
use Rattle.sn_table.proofs.Digits.{shifted_in}

-- ---- what fits

pub one_fits : (first : ℕ) → first < 2 ^ 128 → is_narrow 1 (first ∷ []) ≡ true
unfolding width_of
one_fits first low = and_both (nat_lt first (2 ^ 128)) true (lt-ltb first (2 ^ 128) low) refl

-- and it is the one digit of its number
pub one_back : (number : ℕ) → number < 2 ^ 128 → columns_of 1 number ≡ number ∷ []
unfolding width_of
one_back number low = ap (λ n. n ∷ []) (mod-eq_of_lt low)

pub two_fit : (first second : ℕ) → first < 2 ^ 64 → second < 2 ^ 64 → is_narrow 2 (first ∷ second ∷ []) ≡ true
unfolding width_of
two_fit first second low high =
    and_both (nat_lt first (2 ^ 64)) (nat_lt second (2 ^ 64) && true) (lt-ltb first (2 ^ 64) low)
    (and_both (nat_lt second (2 ^ 64)) true (lt-ltb second (2 ^ 64) high) refl)

pub three_fit : (first second third : ℕ) → first < 2 ^ 42 → second < 2 ^ 42 → third < 2 ^ 42 → is_narrow 3 (first ∷ second ∷ third ∷ []) ≡ true
unfolding width_of
three_fit first second third low middle high =
    and_both (nat_lt first (2 ^ 42)) (nat_lt second (2 ^ 42) && (nat_lt third (2 ^ 42) && true)) (lt-ltb first (2 ^ 42) low)
    (and_both (nat_lt second (2 ^ 42)) (nat_lt third (2 ^ 42) && true) (lt-ltb second (2 ^ 42) middle)
    (and_both (nat_lt third (2 ^ 42)) true (lt-ltb third (2 ^ 42) high) refl))

-- each of two columns that fit is within its bits
pub record AreTwoWithin (first second : ℕ) : Type 0 where
  pub first_within : first < 2 ^ 64
  pub second_within : second < 2 ^ 64

pub two_within : (first second : ℕ) → is_narrow 2 (first ∷ second ∷ []) ≡ true → AreTwoWithin first second
unfolding width_of
two_within first second fit =
    let one = and_parts (nat_lt first (2 ^ 64)) (nat_lt second (2 ^ 64) && true) fit in
    let two = and_parts (nat_lt second (2 ^ 64)) true one.1 in
    record { first_within = ltb-true first (2 ^ 64) one.0; second_within = ltb-true second (2 ^ 64) two.0 }

-- each of three columns that fit is within its bits
pub record AreWithin (first second third : ℕ) : Type 0 where
  pub first_within : first < 2 ^ 42
  pub second_within : second < 2 ^ 42
  pub third_within : third < 2 ^ 42

pub three_within : (first second third : ℕ) → is_narrow 3 (first ∷ second ∷ third ∷ []) ≡ true → AreWithin first second third
unfolding width_of
three_within first second third fit =
    let one = and_parts (nat_lt first (2 ^ 42)) (nat_lt second (2 ^ 42) && (nat_lt third (2 ^ 42) && true)) fit in
    let two = and_parts (nat_lt second (2 ^ 42)) (nat_lt third (2 ^ 42) && true) one.1 in
    let three = and_parts (nat_lt third (2 ^ 42)) true two.1 in
    record {
      first_within = ltb-true first (2 ^ 42) one.0;
      second_within = ltb-true second (2 ^ 42) two.0;
      third_within = ltb-true third (2 ^ 42) three.0;
    }

-- ---- columns that are shifted in, the last one first

last_column : (base c : ℕ) → c ≡ c + base * 0
last_column base c = omega arith

pub two_joined : (first second : ℕ) → first < 2 ^ 64 → second < 2 ^ 64 → bit_or (second * 2 ^ 64 % 2 ^ 128) first ≡ number_of 2 (first ∷ second ∷ [])
unfolding width_of
two_joined first second low high =
    shifted_in 2 1 second first (omega arith) (omega arith) high low
    ∙ ap (λ n. first + base_of 2 * n) (last_column (base_of 2) second)

pub three_joined : (first second third : ℕ) → first < 2 ^ 42 → second < 2 ^ 42 → third < 2 ^ 42
    → bit_or (bit_or (third * 2 ^ 42 % 2 ^ 128) second * 2 ^ 42 % 2 ^ 128) first ≡ number_of 3 (first ∷ second ∷ third ∷ [])
unfolding width_of
three_joined first second third low middle high =
    let inner : bit_or (third * 2 ^ 42 % 2 ^ 128) second ≡ second + 2 ^ 42 * third = shifted_in 3 1 third second (omega arith) (omega arith) high middle in
    let below : second + 2 ^ 42 * third < 2 ^ 84 = omega arith in
    ap (λ n. bit_or (n * 2 ^ 42 % 2 ^ 128) first) inner
    ∙ shifted_in 3 2 (second + 2 ^ 42 * third) first (omega arith) (omega arith) below low
    ∙ ap (λ n. first + base_of 3 * (second + base_of 3 * n)) (last_column (base_of 3) third)

-- ---- a row by its columns

pub list_of_one : (xs : List ℕ) → length xs ≡ 1 → xs ≡ get_or xs 0 0 ∷ []
list_of_one [] one = absurd (omega arith)
list_of_one (x ∷ []) one = refl
list_of_one (x ∷ y ∷ xs) one = absurd (omega arith)

pub list_of_two : (xs : List ℕ) → length xs ≡ 2 → xs ≡ get_or xs 0 0 ∷ get_or xs 1 0 ∷ []
list_of_two [] two = absurd (omega arith)
list_of_two (x ∷ []) two = absurd (omega arith)
list_of_two (x ∷ y ∷ []) two = refl
list_of_two (x ∷ y ∷ z ∷ xs) two = absurd (omega arith)

-- the number of these columns stands for the row
pub reported_by_columns : (columns number : ℕ) (row parts : Row) → row ≡ parts → columns ≡ length parts → is_narrow (length parts) parts ≡ true → number ≡ number_of (length parts) parts
    → Some number ≡ cond (is_narrow columns row) (Some (number_of columns row)) None
reported_by_columns columns number row parts same size fits is =
    ap Some (is ∙ sym (ap₂ number_of size same)) ∙ sym (ap (λ b. cond b (Some (number_of columns row)) None) (ap₂ is_narrow size same ∙ fits))

-- what is reported of these columns is reported of the row
pub reported_alike : (columns : ℕ) (row parts : Row) (result : Option ℕ) → row ≡ parts → columns ≡ length parts
    → result ≡ cond (is_narrow (length parts) parts) (Some (number_of (length parts) parts)) None
    → result ≡ cond (is_narrow columns row) (Some (number_of columns row)) None
reported_alike columns row parts result same size is =
    is ∙ sym (ap₂ (λ n xs. cond (is_narrow n xs) (Some (number_of n xs)) None) size same)

-- a number that is reported of these columns is that of the row
pub reported_at : (columns : ℕ) (row parts : Row) (result : Option ℕ) → row ≡ parts → columns ≡ length parts
    → result ≡ cond (is_narrow (length parts) parts) (Some (number_of (length parts) parts)) None
    → IfSome result (λ number. cond (is_narrow columns row) (Some (number_of columns row)) None ≡ Some number)
reported_at columns row parts None same size is = tt
reported_at columns row parts (Some number) same size is = sym (reported_alike columns row parts (Some number) same size is)

-- the columns at these places of two equal rows
pub columns_at_same : (places others row held : Row) → held ≡ row → places ≡ others → columns_at places row ≡ columns_at others held
columns_at_same places others row held same_held same_places = ap₂ columns_at same_places (sym same_held)
