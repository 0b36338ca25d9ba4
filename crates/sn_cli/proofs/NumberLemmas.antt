-- Numbers among words.
use Rattle.std.proofs.Common.{◌≡◌, ℕ, ◌+◌, ◌-◌, ◌*◌, ◌<◌, ◌≤◌, List, [], ◌∷◌, Bool, true, false, cond, ◌&&◌, ◌||◌, length, drop, get_or, add-one, Option, Some, None, refl, ap, sym, ◌∙◌, arith}
use Rattle.std.specs.Prelude.{nat_lt, nat_le, ◌==◌, option_and_then}
use Rattle.std.specs.List.{list_all}
use Rattle.std.proofs.Math.Seq.{drop-cons}
use Rattle.std.proofs.lemmas.Bool.{false≢true, le-ltb, lt-leb, le-leb, ltb-false, leb-true, eqb-false, ne_eqb}
use Rattle.sn_base.proofs.Lists.{by_test, or_none}
use Rattle.sn_cli.specs.Words.{is_digit, value_after, decimal_value, IsNumber}
use Rattle.sn_cli.specs.Reading.{value_within, at_least, number_of}
use Rattle.sn_base.proofs.Tests.{and_never}

-- more digits give no smaller number
value_grows : (n : ℕ) (digits : List ℕ) → n ≤ value_after n digits
value_grows n [] = omega arith
value_grows n (d ∷ ds) = let more : n * 10 + (d - 48) ≤ value_after (n * 10 + (d - 48)) ds = value_grows (n * 10 + (d - 48)) ds in omega arith

-- a number past the most stays so
pub past_most : (most n : ℕ) (digits : List ℕ) → most < n → nat_le (value_after n digits) most ≡ false
past_most most n digits lt = let grows = value_grows n digits in lt-leb (value_after n digits) most (omega arith)

pub none_some : {A : Type 0} {a : A} → ◌≡◌ {A = Option A} None (Some a) → ⊥
none_some e = cc

pub some_same : {A : Type 0} {a b : A} → ◌≡◌ {A = Option A} (Some a) (Some b) → a ≡ b
some_same e = cc

pub taken : {A : Type 0} (b : Bool) (x y : A) {z : A} → b ≡ true → cond b x y ≡ z → x ≡ z
taken true x y is e = e
taken false x y is e = absurd (false≢true is)

pub passed : {A : Type 0} (b : Bool) (x y : A) {z : A} → b ≡ false → cond b x y ≡ z → y ≡ z
passed true x y is e = absurd (false≢true (sym is))
passed false x y is e = e

pub and_left : (a b : Bool) → (a && b) ≡ true → a ≡ true
and_left true b e = refl
and_left false b e = e

pub and_right : (a b : Bool) → (a && b) ≡ true → b ≡ true
and_right true b e = e
and_right false b e = absurd (false≢true e)

-- a number that is found is one
pub number_is : (least most : ℕ) (word : List ℕ) (n : ℕ) → number_of least most word ≡ Some n → IsNumber least most word n
number_is least most word n e =
    by_test ((length word == 0) || nat_lt 10 (length word))
    (λ is. absurd (none_some (taken ((length word == 0) || nat_lt 10 (length word)) _ _ is e)))
    (λ isnt.
    let sized = or_none (length word == 0) (nat_lt 10 (length word)) isnt in
    let some : length word ≡ 0 → ⊥ = eqb-false (length word) 0 sized.0 in
    let few : length word ≤ 10 = ltb-false 10 (length word) sized.1 in
    let found : option_and_then (at_least least) (value_within most word) ≡ Some n = passed ((length word == 0) || nat_lt 10 (length word)) _ _ isnt e in
    by_test (list_all is_digit word && nat_le (decimal_value word) most)
    (λ ok.
    let value : at_least least (decimal_value word) ≡ Some n = sym (ap (λ b. option_and_then (at_least least) (cond b (Some (decimal_value word)) None)) ok) ∙ found in
    by_test (nat_lt (decimal_value word) least)
    (λ low. absurd (none_some (taken (nat_lt (decimal_value word) least) _ _ low value)))
    (λ high.
    let same : decimal_value word ≡ n = some_same (passed (nat_lt (decimal_value word) least) _ _ high value) in
    let from : least ≤ decimal_value word = ltb-false (decimal_value word) least high in
    let to : decimal_value word ≤ most = leb-true (decimal_value word) most (and_right (list_all is_digit word) (nat_le (decimal_value word) most) ok) in
    record {
      digits = and_left (list_all is_digit word) (nat_le (decimal_value word) most) ok;
      some = omega arith;
      few = few;
      value = sym same;
      from_least = omega arith;
      to_most = omega arith;
    }))
    (λ bad. absurd (none_some (sym (ap (λ b. option_and_then (at_least least) (cond b (Some (decimal_value word)) None)) bad) ∙ found))))

-- and each number is found
pub is_number : (least most : ℕ) (word : List ℕ) (n : ℕ) → IsNumber least most word n → number_of least most word ≡ Some n
is_number least most word n is =
    let some = is.some in
    let value = is.value in
    let from = is.from_least in
    let to = is.to_most in
    let not_none : (length word == 0) ≡ false = ne_eqb (length word) 0 (λ e. omega arith) in
    let not_long : nat_lt 10 (length word) ≡ false = le-ltb 10 (length word) is.few in
    let within : nat_le (decimal_value word) most ≡ true = le-leb (decimal_value word) most (omega arith) in
    let high : nat_lt (decimal_value word) least ≡ false = le-ltb (decimal_value word) least (omega arith) in
    ap (λ b. cond (b || nat_lt 10 (length word)) None (option_and_then (at_least least) (value_within most word))) not_none
    ∙ ap (λ b. cond b None (option_and_then (at_least least) (value_within most word))) not_long
    ∙ ap (λ b. option_and_then (at_least least) (cond (b && nat_le (decimal_value word) most) (Some (decimal_value word)) None)) is.digits
    ∙ ap (λ b. option_and_then (at_least least) (cond b (Some (decimal_value word)) None)) within
    ∙ ap (λ b. cond b None (Some (decimal_value word))) high
    ∙ ap (λ m. Some m) (sym value)

-- a number that is past the most before its last digit
pub value_past : (most v i : ℕ) (digits : List ℕ) → i < length digits → most < v * 10 + (get_or digits i 0 - 48) → value_after v (drop i digits) ≡ decimal_value digits → None ≡ value_within most digits
value_past most v i digits lt past value =
    let d : ℕ = get_or digits i 0 in
    let here : drop i digits ≡ d ∷ drop (i + 1) digits = rw (add-one) (drop-cons digits i 0 lt) in
    let same : value_after (v * 10 + (d - 48)) (drop (i + 1) digits) ≡ decimal_value digits = sym (ap (value_after v) here) ∙ value in
    let large : nat_le (decimal_value digits) most ≡ false = sym (ap (λ n. nat_le n most) same) ∙ past_most most (v * 10 + (d - 48)) (drop (i + 1) digits) past in
    sym (ap (λ b. cond (list_all is_digit digits && b) (Some (decimal_value digits)) None) large ∙ ap (λ b. cond b (Some (decimal_value digits)) None) (and_never (list_all is_digit digits)))
