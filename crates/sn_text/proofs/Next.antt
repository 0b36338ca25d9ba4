-- The tokens are the first one and those after it.
use Rattle.std.proofs.Common.{◌≡◌, ℕ, zero, suc, ◌≤◌, Bool, true, false, cond, List, [], ◌∷◌, length, take, Option, Some, None, refl, sym, ap, ◌∙◌, arith, inl, inr, ◌⊎◌, length-drop}
use Rattle.std.specs.Prelude.{◌==◌, ◌||◌}
use Rattle.sn_text_rules.specs.Tokens.{Lexeme, word, Tok}
use Rattle.sn_text.specs.Cutting.{is_digit, is_name_start, is_word_byte, run, number_lexeme, number_of, long_symbol, short_symbol, short_lexeme, long_lexeme, symbol_at, lexeme_at, Place, gap, following, when_gap, skip_from, skip, tok_at, after_at, is_last, tokens_at, tokens}
use Rattle.sn_base.proofs.Tests.{either_way}
use Rattle.sn_text.proofs.Lexemes.{or_middle}

-- not last, so at least one byte
abbrev Some_or_last : Lexeme × ℕ → Type 0
Some_or_last x = is_last x.0 ≡ false → 1 ≤ x.1

short_one : (o : Option ℕ) → Some_or_last (short_lexeme o)
short_one None h = absurd cc
short_one (Some k) h = omega arith

long_one : (o : Option ℕ) (b : ℕ) → Some_or_last (long_lexeme o b)
long_one None b h = short_one (short_symbol b) h
long_one (Some k) b h = omega arith

symbol_one : (r : List ℕ) → Some_or_last (symbol_at r)
symbol_one [] h = absurd cc
symbol_one (b ∷ []) h = short_one (short_symbol b) h
symbol_one (b ∷ c ∷ bs) h = long_one (long_symbol b c) b h

pub or_first : (a b c : Bool) → a ≡ true → ((a || b) || c) ≡ true
or_first true b c h = refl
or_first false b c h = absurd cc

pub run_one : (b : ℕ) (bs : List ℕ) → is_word_byte b ≡ true → 1 ≤ run is_word_byte (b ∷ bs)
run_one b bs h = rw h (omega arith)

one_of : (d e : Bool) (x y z : Lexeme × ℕ) → (d ≡ true → Some_or_last x) → (e ≡ true → Some_or_last y) → Some_or_last z → Some_or_last (cond d x (cond e y z))
one_of true e x y z f g h = f refl
one_of false true x y z f g h = g refl
one_of false false x y z f g h = h

one_byte : (r : List ℕ) → Some_or_last (lexeme_at r)
unfolding lexeme_at
one_byte [] = λ h. absurd cc
one_byte (b ∷ bs) = one_of (is_digit b) (is_name_start b) (number_lexeme (number_of (take (run is_word_byte (b ∷ bs)) (b ∷ bs))), run is_word_byte (b ∷ bs)) (word (take (run is_word_byte (b ∷ bs)) (b ∷ bs)), run is_word_byte (b ∷ bs)) (symbol_at (b ∷ bs))
    (λ d _. run_one b bs (or_middle (is_name_start b) (is_digit b) (b == 46) d))
    (λ e _. run_one b bs (or_first (is_name_start b) (is_digit b) (b == 46) e))
    (symbol_one (b ∷ bs))

when_shorter : (o : Option Bool) (b : ℕ) (bs : List ℕ) (p : Place) → length p.rest ≡ suc (length bs) → ((on : Bool) → length (skip_from bs on (following b p bs)).rest ≤ length bs) → length (when_gap o p (λ on. skip_from bs on (following b p bs))).rest ≤ suc (length bs)
when_shorter None b bs p h ih = omega arith
when_shorter (Some on) b bs p h ih = let k = ih on in omega arith

skip_shorter_by : (bs : List ℕ) (inside : Bool) (p : Place) → length p.rest ≡ length bs → length (skip_from bs inside p).rest ≤ length bs
skip_shorter_by [] inside p h = omega arith
skip_shorter_by (b ∷ bs) inside p h = when_shorter (gap inside b) b bs p h (λ on. skip_shorter_by bs on (following b p bs) refl)

skip_shorter : (p : Place) → length (skip p).rest ≤ length p.rest
skip_shorter p = skip_shorter_by p.rest false p refl

some_byte : (r : List ℕ) → is_last (lexeme_at r).0 ≡ false → 1 ≤ length r
unfolding lexeme_at
some_byte [] h = absurd cc
some_byte (b ∷ bs) h = omega arith

-- what is left after a token that isn't the last
less : (p : Place) → is_last (tok_at (skip p)).face ≡ false → suc (length (after_at (skip p)).rest) ≤ length p.rest
less p h =
    let one = one_byte (skip p).rest h in
    let k = skip_shorter p in
    let some : 1 ≤ length (skip p).rest = some_byte (skip p).rest h in
    omega (arith, length-drop (lexeme_at (skip p).rest).1 (skip p).rest)

abbrev next_of : ℕ → Place → List Tok
next_of n p = tok_at (skip p) ∷ cond (is_last (tok_at (skip p)).face) [] (tokens_at n (after_at (skip p)))

last_one : (n : ℕ) (p : Place) → is_last (tok_at (skip p)).face ≡ true → tokens_at n p ≡ tok_at (skip p) ∷ []
last_one zero p h = refl
last_one (suc n) p h = rw h refl

goes : (n : ℕ) (p : Place) → is_last (tok_at (skip p)).face ≡ false → tokens_at (suc n) p ≡ tok_at (skip p) ∷ tokens_at n (after_at (skip p))
goes n p h = rw h refl

ended : (p : Place) → length p.rest ≤ 0 → is_last (tok_at (skip p)).face ≡ true
ended p h = elim (either_way (is_last (tok_at (skip p)).face)) [
  | inl e ↦ e
  | inr e ↦ (let l = less p e in absurd (omega arith))
]

enough : (n k : ℕ) (p : Place) → length p.rest ≤ n → length p.rest ≤ k → tokens_at n p ≡ tokens_at k p
enough zero k p g h = last_one zero p (ended p g) ∙ sym (last_one k p (ended p g))
enough (suc n) zero p g h = last_one (suc n) p (ended p h) ∙ sym (last_one zero p (ended p h))
enough (suc n) (suc k) p g h = elim (either_way (is_last (tok_at (skip p)).face)) [
  | inl e ↦ last_one (suc n) p e ∙ sym (last_one (suc k) p e)
  | inr e ↦ (let l = less p e in
      goes n p e ∙ ap (λ (ts : List Tok). tok_at (skip p) ∷ ts) (enough n k (after_at (skip p)) (omega arith) (omega arith)) ∙ sym (goes k p e))
]

goes_as : (n : ℕ) (p : Place) → length p.rest ≤ n → is_last (tok_at (skip p)).face ≡ false → tokens_at n p ≡ tok_at (skip p) ∷ tokens_at (length (after_at (skip p)).rest) (after_at (skip p))
goes_as zero p g e = let l = less p e in absurd (omega arith)
goes_as (suc n) p g e =
    let l = less p e in
    goes n p e ∙ ap (λ (ts : List Tok). tok_at (skip p) ∷ ts) (enough n (length (after_at (skip p)).rest) (after_at (skip p)) (omega arith) (omega arith))

pub tokens_next : (p : Place) → tokens p ≡ tok_at (skip p) ∷ cond (is_last (tok_at (skip p)).face) [] (tokens (after_at (skip p)))
unfolding tokens
tokens_next p = elim (either_way (is_last (tok_at (skip p)).face)) [
  | inl e ↦ last_one (length p.rest) p e ∙ rw e refl
  | inr e ↦ goes_as (length p.rest) p (omega arith) e ∙ rw e refl
]

pub scan_next : (p a : Place) (t : Tok) → t ≡ tok_at (skip p) → a ≡ after_at (skip p) → tokens p ≡ t ∷ cond (is_last t.face) [] (tokens a)
scan_next p a t e f = rw (e, f) (tokens_next p)
