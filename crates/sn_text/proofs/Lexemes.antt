-- Lexemes that are written are read back, and those that are cut out of a text can be written.
use Rattle.std.proofs.Common.{◌≡◌, ℕ, ◌^◌, ◌<◌, ◌≤◌, Bool, true, false, List, [], ◌∷◌, ◌++◌, length, take, Option, Some, None, refl, ap, ◌∙◌, arith}
use Rattle.std.specs.Prelude.{◌==◌, ◌||◌}
use Rattle.std.specs.Fmt.{decimal}
use Rattle.std.proofs.Math.Seq.{take-append_seam}
use Rattle.sn_text_rules.specs.Tokens.{Lexeme, word, number, symbol, finish, bad, is_last}
use Rattle.sn_text.specs.Cutting.{is_digit, is_name_start, is_word_byte, run, number_lexeme, number_of, lexeme_at, gap}
use Rattle.sn_text.specs.Writing.{lexeme_text}
use Rattle.sn_text.proofs.Numerals.{Digits, digit_byte, differ, number_read, decimal_digits}
use Rattle.sn_text.proofs.Symbols.{HeadOk, symbol_read}

abbrev pub AllWord : List ℕ → Type 0
AllWord [] = Unit {0}
AllWord (b ∷ bs) = (is_word_byte b ≡ true) × AllWord bs

-- a lexeme of a text, and no end of it
abbrev pub Fine : Lexeme → Type 0
Fine (word []) = ⊥
Fine (word (b ∷ bs)) = (is_digit b ≡ false) × (is_name_start b ≡ true) × AllWord (b ∷ bs)
Fine (number n) = n < 2 ^ 64
Fine (symbol k) = k ≤ 18
Fine finish = ⊥
Fine bad = ⊥

abbrev pub AllFine : List Lexeme → Type 0
AllFine [] = Unit {0}
AllFine (x ∷ xs) = Fine x × AllFine xs

pub fine_ahead : (x : Lexeme) → Fine x → is_last x ≡ false
fine_ahead (word w) f = refl
fine_ahead (number n) f = refl
fine_ahead (symbol k) f = refl
fine_ahead finish f = absurd f
fine_ahead bad f = absurd f

-- ---- one lexeme

abbrev pairs : Lexeme → ℕ → Lexeme × ℕ
pairs x n = (x, n)

run_all : (w t : List ℕ) → AllWord w → HeadOk t → run is_word_byte (w ++ t) ≡ length w
run_all [] [] a h = refl
run_all [] (b ∷ t) a h = rw h.0 refl
run_all (b ∷ w) t a h = rw (a.0, run_all w t a.1 h) refl

word_reads : (b : ℕ) (bs t : List ℕ) → Fine (word (b ∷ bs)) → HeadOk t → lexeme_at ((b ∷ bs) ++ t) ≡ pairs (word (b ∷ bs)) (length (b ∷ bs))
unfolding lexeme_at
word_reads b bs t f h =
    let e : run is_word_byte (b ∷ (bs ++ t)) ≡ length (b ∷ bs) = run_all (b ∷ bs) t f.2 h in
    rw (e, f.0, f.1) (ap (λ (w : List ℕ). pairs (word w) (length (b ∷ bs))) (take-append_seam (b ∷ bs) t))

pub or_middle : (a b c : Bool) → b ≡ true → ((a || b) || c) ≡ true
or_middle true b c e = refl
or_middle false true c e = refl
or_middle false false c e = absurd cc

digit_words : (ds : List ℕ) → Digits ds → AllWord ds
digit_words [] d = tt
digit_words (c ∷ ds) d = (or_middle (is_name_start c) (is_digit c) (c == 46) (digit_byte c d.0 d.1), digit_words ds d.2)

numeral_reads : (n : ℕ) (ds t : List ℕ) → number_of ds ≡ Some n → 0 < length ds → Digits ds → HeadOk t → lexeme_at (ds ++ t) ≡ pairs (number n) (length ds)
unfolding lexeme_at
numeral_reads n [] t e l d h = absurd (omega (arith, l))
numeral_reads n (c ∷ ds) t e l d h =
    let r : run is_word_byte (c ∷ (ds ++ t)) ≡ length (c ∷ ds) = run_all (c ∷ ds) t (digit_words (c ∷ ds) d) h in
    let w : take (length (c ∷ ds)) (c ∷ (ds ++ t)) ≡ c ∷ ds = take-append_seam (c ∷ ds) t in
    rw (r, digit_byte c d.0 d.1) (ap (λ (x : List ℕ). pairs (number_lexeme (number_of x)) (length (c ∷ ds))) w ∙ ap (λ (o : Option ℕ). pairs (number_lexeme o) (length (c ∷ ds))) e)

-- what is said of each lexeme
pub record Reads (x : Lexeme) : Type 0 where
  pub head : ℕ
  pub tail : List ℕ
  pub text : lexeme_text x ≡ head ∷ tail
  pub no_gap : gap false head ≡ None
  pub read : (t : List ℕ) → HeadOk t → lexeme_at ((head ∷ tail) ++ t) ≡ pairs x (length (head ∷ tail))

no_gap_of : (f : ℕ → Bool) (b : ℕ) → f b ≡ true → f 10 ≡ false → f 32 ≡ false → f 9 ≡ false → f 13 ≡ false → f 35 ≡ false → gap false b ≡ None
no_gap_of f b e a c d g h = rw (differ f b 10 e a, differ f b 32 e c, differ f b 9 e d, differ f b 13 e g, differ f b 35 e h) refl

number_reads : (n : ℕ) (ds : List ℕ) → decimal n ≡ ds → number_of ds ≡ Some n → 0 < length ds → Digits ds → Reads (number n)
number_reads n [] q e l d = absurd (omega (arith, l))
number_reads n (c ∷ ds) q e l d = record { head = c; tail = ds; text = q; no_gap = no_gap_of is_digit c (digit_byte c d.0 d.1) refl refl refl refl refl; read = λ t h. numeral_reads n (c ∷ ds) t e l d h }

pub fine_reads : (x : Lexeme) → Fine x → Reads x
fine_reads (word []) f = absurd f
fine_reads (word (b ∷ bs)) f = record { head = b; tail = bs; text = refl; no_gap = no_gap_of is_name_start b f.1 refl refl refl refl refl; read = λ t h. word_reads b bs t f h }
fine_reads (number n) f = let d = decimal_digits n f in number_reads n (decimal n) refl (number_read n f) d.0 d.1
fine_reads (symbol k) f = let r = symbol_read k f in record { head = r.head; tail = r.tail; text = r.text; no_gap = r.no_gap; read = λ t h. r.read t h }
fine_reads finish f = absurd f
fine_reads bad f = absurd f
