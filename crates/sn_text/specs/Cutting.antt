-- to be believed
-- The cutting of a text into tokens.
use Rattle.std.specs.Prelude.{ℕ, zero, suc, ◌+◌, ◌-◌, ◌*◌, ◌^◌, Bool, true, false, List, [], ◌∷◌, length, take, drop, Option, Some, None, nat_lt, nat_le, ◌==◌}
use Rattle.std.specs.Prelude.{◌&&◌, ◌||◌, if◌then◌else◌}
use Rattle.sn_text_rules.specs.Tokens.{Lexeme, word, number, symbol, finish, bad, Tok}
pub use Rattle.sn_text_rules.specs.Tokens.{is_last}

abbrev pub is_digit : ℕ → Bool
is_digit b = nat_le 48 b && nat_le b 57

abbrev pub is_letter : ℕ → Bool
is_letter b = (nat_le 65 b && nat_le b 90) || (nat_le 97 b && nat_le b 122)

abbrev pub is_name_start : ℕ → Bool
is_name_start b = is_letter b || (b == 95)

-- letters, digits, _ and .
abbrev pub is_word_byte : ℕ → Bool
is_word_byte b = is_name_start b || is_digit b || (b == 46)

-- how many bytes at the front pass
abbrev pub run : (ℕ → Bool) → List ℕ → ℕ
run p [] = 0
run p (b ∷ bs) = if p b then suc (run p bs) else 0

-- ---- numbers

-- what a digit stands for
abbrev pub digit : ℕ → ℕ → Option ℕ
digit base b =
    if is_digit b then Some (b - 48) else if base == 10 then None
    else if nat_le 97 b && nat_le b 102 then Some (b - 87) else if nat_le 65 b && nat_le b 70 then Some (b - 55) else None

abbrev pub with_digit : ℕ → ℕ → Option ℕ → Option ℕ
with_digit base n None = None
with_digit base n (Some d) = if nat_lt (n * base + d) (2 ^ 64) then Some (n * base + d) else None

abbrev pub or_none : {A B : Type 0} → Option A → (A → Option B) → Option B
or_none None f = None
or_none (Some a) f = f a

-- the digits after a number; none past 64 bits
abbrev pub digits_after : ℕ → ℕ → List ℕ → Option ℕ
digits_after base n [] = Some n
digits_after base n (b ∷ bs) = or_none (with_digit base n (digit base b)) (λ m. digits_after base m bs)

-- at least one digit
abbrev pub digits : ℕ → List ℕ → Option ℕ
digits base w = if length w == 0 then None else digits_after base 0 w

-- one to three digits, at most 255, and what follows
abbrev pub part_of : Option ℕ → List ℕ → Option (ℕ × List ℕ)
part_of None after = None
part_of (Some n) after = if nat_le n 255 then Some (n, after) else None

unfoldable pub part : List ℕ → Option (ℕ × List ℕ)
part w = if nat_lt 3 (run is_digit w) then None else part_of (digits 10 (take (run is_digit w) w)) (drop (run is_digit w) w)

unfoldable pub dot_part : List ℕ → Option (ℕ × List ℕ)
dot_part [] = None
dot_part (b ∷ bs) = if b == 46 then part bs else None

-- four parts joined by dots
unfoldable pub address : List ℕ → Option ℕ
address w = or_none (part w) (λ a. or_none (dot_part a.1) (λ b. or_none (dot_part b.1) (λ c. or_none (dot_part c.1) (λ d.
    if length d.1 == 0 then Some (a.0 * 16777216 + b.0 * 65536 + c.0 * 256 + d.0) else None))))

abbrev pub has_dot : List ℕ → Bool
has_dot [] = false
has_dot (b ∷ bs) = (b == 46) || has_dot bs

abbrev pub is_hex : List ℕ → Bool
is_hex (b ∷ c ∷ bs) = (b == 48) && (c == 120)
is_hex _ = false

unfoldable pub number_of : List ℕ → Option ℕ
number_of w = if is_hex w then digits 16 (drop 2 w) else if has_dot w then address w else digits 10 w

-- ---- one token

abbrev pub number_lexeme : Option ℕ → Lexeme
number_lexeme None = bad
number_lexeme (Some n) = number n

-- the longest first, numbered from 0: { } ; , | ( ) : & + * / == != < <= > >= >>
abbrev pub long_symbol : ℕ → ℕ → Option ℕ
long_symbol b c =
    if (b == 61) && (c == 61) then Some 12 else if (b == 33) && (c == 61) then Some 13 else if (b == 60) && (c == 61) then Some 15
    else if (b == 62) && (c == 61) then Some 17 else if (b == 62) && (c == 62) then Some 18 else None

abbrev pub short_symbol : ℕ → Option ℕ
short_symbol b =
    if b == 123 then Some 0 else if b == 125 then Some 1 else if b == 59 then Some 2 else if b == 44 then Some 3
    else if b == 124 then Some 4 else if b == 40 then Some 5 else if b == 41 then Some 6 else if b == 58 then Some 7
    else if b == 38 then Some 8 else if b == 43 then Some 9 else if b == 42 then Some 10 else if b == 47 then Some 11
    else if b == 60 then Some 14 else if b == 62 then Some 16 else None

abbrev pub short_lexeme : Option ℕ → Lexeme × ℕ
short_lexeme None = (bad, 0)
short_lexeme (Some k) = (symbol k, 1)

abbrev pub long_lexeme : Option ℕ → ℕ → Lexeme × ℕ
long_lexeme None b = short_lexeme (short_symbol b)
long_lexeme (Some k) b = (symbol k, 2)

abbrev pub symbol_at : List ℕ → Lexeme × ℕ
symbol_at [] = (finish, 0)
symbol_at (b ∷ []) = short_lexeme (short_symbol b)
symbol_at (b ∷ c ∷ bs) = long_lexeme (long_symbol b c) b

-- the token at the front, and how many bytes it takes
unfoldable pub lexeme_at : List ℕ → Lexeme × ℕ
lexeme_at [] = (finish, 0)
lexeme_at (b ∷ bs) =
    if is_digit b then (number_lexeme (number_of (take (run is_word_byte (b ∷ bs)) (b ∷ bs))), run is_word_byte (b ∷ bs))
    else if is_name_start b then (word (take (run is_word_byte (b ∷ bs)) (b ∷ bs)), run is_word_byte (b ∷ bs))
    else symbol_at (b ∷ bs)

-- ---- the text

-- the rest of a text, and where it begins
pub record Place : Type 0 where
  pub rest : List ℕ
  pub start : ℕ
  pub line : ℕ
  pub column : ℕ

-- A byte between tokens: whether a comment goes on after it. None where a token begins.
abbrev pub gap : Bool → ℕ → Option Bool
gap inside b =
    if b == 10 then Some false else if inside then Some true else if (b == 32) || (b == 9) || (b == 13) then Some false
    else if b == 35 then Some true else None

abbrev pub following : ℕ → Place → List ℕ → Place
following b p bs = record { rest = bs; start = p.start + 1; line = (if b == 10 then p.line + 1 else p.line); column = (if b == 10 then 1 else p.column + 1) }

-- where the next token begins
abbrev pub when_gap : Option Bool → Place → (Bool → Place) → Place
when_gap None p f = p
when_gap (Some inside) p f = f inside

abbrev pub skip_from : List ℕ → Bool → Place → Place
skip_from [] inside p = p
skip_from (b ∷ bs) inside p = when_gap (gap inside b) p (λ on. skip_from bs on (following b p bs))

abbrev pub skip : Place → Place
skip p = skip_from p.rest false p

abbrev pub tok_at : Place → Tok
tok_at p = record { face = (lexeme_at p.rest).0; line = p.line; column = p.column; start = p.start; end = p.start + (lexeme_at p.rest).1 }

abbrev pub after_at : Place → Place
after_at p = record { rest = drop (lexeme_at p.rest).1 p.rest; start = p.start + (lexeme_at p.rest).1; line = p.line; column = p.column + (lexeme_at p.rest).1 }

-- no token comes after it
abbrev pub tokens_at : ℕ → Place → List Tok
tokens_at zero p = tok_at (skip p) ∷ []
tokens_at (suc n) p = tok_at (skip p) ∷ (if is_last (tok_at (skip p)).face then [] else tokens_at n (after_at (skip p)))

-- the tokens from a place on, the last of them finish or bad
unfoldable pub tokens : Place → List Tok
tokens p = tokens_at (length p.rest) p

-- the tokens of a text
abbrev pub tokens_of : List ℕ → List Tok
tokens_of text = tokens (record { rest = text; start = 0; line = 1; column = 1 })
