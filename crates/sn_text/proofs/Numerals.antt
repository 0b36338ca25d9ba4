-- A number that is written in decimal is read back.
use Rattle.std.proofs.Common.{◌≡◌, ℕ, ◌+◌, ◌-◌, ◌*◌, ◌^◌, ◌<◌, ◌≤◌, Bool, true, false, List, [], ◌∷◌, length, Some, refl, sym, ap, ◌∙◌, arith, inl, inr}
use Rattle.sn_text_rules.proofs.Common.{either_way}
use Rattle.std.specs.Prelude.{nat_le, nat_lt, ◌==◌, ◌&&◌}
use Rattle.std.specs.Char.{digit_value}
use Rattle.std.specs.Fmt.{decimal}
use Rattle.std.specs.Str.Parse.{AllDigits, digits_value, digits_value_after}
use Rattle.std.proofs.lemmas.Fmt.{decimal_is_IsNumeral}
use Rattle.std.proofs.lemmas.Str.{digit_value_digit}
use Rattle.std.proofs.lemmas.Str.Parse.{digit_from_value}
use Rattle.std.proofs.lemmas.Bool.{le-leb, lt-ltb, eqb-true}
use Rattle.sn_text.specs.Cutting.{is_digit, digit, digits_after, digits, has_dot, is_hex, number_of}
use Rattle.sn_base.proofs.Tests.{and_false_right}

abbrev pub Digits : List ℕ → Type 0
Digits [] = Unit {0}
Digits (c ∷ cs) = (48 ≤ c) × (c ≤ 57) × Digits cs

digits_of : (cs : List ℕ) → AllDigits 10 cs → Digits cs
digits_of [] h = tt
digits_of (c ∷ cs) h = let r = digit_from_value c h.0 in (r.0, r.1, digits_of cs h.1)

pub digit_byte : (c : ℕ) → 48 ≤ c → c ≤ 57 → is_digit c ≡ true
digit_byte c low high = let a : nat_le 48 c ≡ true = le-leb 48 c low in let b : nat_le c 57 ≡ true = le-leb c 57 high in rw (a, b) refl

digit_is : (c : ℕ) → 48 ≤ c → c ≤ 57 → digit 10 c ≡ Some (digit_value c)
digit_is c low high =
    let v = digit_value_digit c (low, high) in
    let e : c - 48 ≡ digit_value c = omega (arith, v) in
    rw (digit_byte c low high) (ap (λ (n : ℕ). Some n) e)

grows : (n : ℕ) (cs : List ℕ) → n ≤ digits_value_after 10 n cs
grows n [] = omega arith
grows n (c ∷ cs) = let k = grows (n * 10 + digit_value c) cs in omega (arith, k)

after_is : (n : ℕ) (cs : List ℕ) → Digits cs → digits_value_after 10 n cs < 2 ^ 64 → digits_after 10 n cs ≡ Some (digits_value_after 10 n cs)
after_is n [] d h = refl
after_is n (c ∷ cs) d h =
    let g = grows (n * 10 + digit_value c) cs in
    let l : n * 10 + digit_value c < 2 ^ 64 = omega (arith, g, h) in
    let t : nat_lt (n * 10 + digit_value c) (2 ^ 64) ≡ true = lt-ltb (n * 10 + digit_value c) (2 ^ 64) l in
    rw (digit_is c d.0 d.1, t) (after_is (n * 10 + digit_value c) cs d.2 h)

pub differ : (f : ℕ → Bool) (b j : ℕ) → f b ≡ true → f j ≡ false → (b == j) ≡ false
differ f b j e n = elim (either_way (b == j)) [
  | inl h ↦ (let k : true ≡ false = sym e ∙ ap f (eqb-true b j h) ∙ n in absurd cc)
  | inr h ↦ h
]

above : (b j : ℕ) → j < b → (b == j) ≡ false
above b j h = elim (either_way (b == j)) [
  | inl e ↦ (let k = eqb-true b j e in absurd (omega (arith, k)))
  | inr e ↦ e
]

below : (b j : ℕ) → b < j → (b == j) ≡ false
below b j h = elim (either_way (b == j)) [
  | inl e ↦ (let k = eqb-true b j e in absurd (omega (arith, k)))
  | inr e ↦ e
]

no_hex : (ds : List ℕ) → Digits ds → is_hex ds ≡ false
no_hex [] d = refl
no_hex (b ∷ []) d = refl
no_hex (b ∷ c ∷ ds) d = and_false_right (b == 48) (c == 120) (let h = d.2.1 in below c 120 (omega (arith, h)))

no_dot : (ds : List ℕ) → Digits ds → has_dot ds ≡ false
no_dot [] d = refl
no_dot (c ∷ ds) d = let h = d.0 in rw (above c 46 (omega (arith, h)), no_dot ds d.2) refl

digits_read : (ds : List ℕ) (n : ℕ) → 0 < length ds → Digits ds → digits_value 10 ds ≡ n → n < 2 ^ 64 → digits 10 ds ≡ Some n
digits_read [] n l d e h = absurd (omega (arith, l))
digits_read (c ∷ ds) n l d e h = let k : (length (c ∷ ds) == 0) ≡ false = above (length (c ∷ ds)) 0 l in rw k (after_is 0 (c ∷ ds) d (omega (arith, e, h)) ∙ ap (λ (m : ℕ). Some m) e)

pub number_read : (n : ℕ) → n < 2 ^ 64 → number_of (decimal n) ≡ Some n
unfolding number_of
number_read n h =
    let k = decimal_is_IsNumeral n h in
    let d = digits_of (decimal n) k.0.1 in
    rw (no_hex (decimal n) d, no_dot (decimal n) d) (digits_read (decimal n) n k.0.0 d k.1 h)

pub decimal_digits : (n : ℕ) → n < 2 ^ 64 → (0 < length (decimal n)) × Digits (decimal n)
decimal_digits n h = let k = decimal_is_IsNumeral n h in (k.0.0, digits_of (decimal n) k.0.1)
