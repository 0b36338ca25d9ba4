-- Symbols that are written are read back.
use Rattle.std.proofs.Common.{◌≡◌, ℕ, zero, suc, ◌≤◌, false, List, [], ◌∷◌, ◌++◌, length, Some, None, refl, arith}
use Rattle.std.specs.Prelude.{◌==◌}
use Rattle.sn_text_rules.specs.Tokens.{Lexeme, symbol}
use Rattle.sn_text.specs.Cutting.{is_digit, is_name_start, is_word_byte, long_symbol, short_symbol, lexeme_at, gap}
use Rattle.sn_text.specs.Writing.{symbol_text}

-- a byte that makes no token longer
abbrev pub HeadOk : List ℕ → Type 0
HeadOk [] = Unit {0}
HeadOk (b ∷ bs) = (is_word_byte b ≡ false) × ((b == 61) ≡ false) × ((b == 62) ≡ false)

abbrev pub at_symbol : ℕ → ℕ → Lexeme × ℕ
at_symbol k n = (symbol k, n)

-- what is said of each symbol
pub record Read (k : ℕ) : Type 0 where
  pub head : ℕ
  pub tail : List ℕ
  pub text : symbol_text k ≡ head ∷ tail
  pub no_gap : gap false head ≡ None
  pub read : (t : List ℕ) → HeadOk t → lexeme_at ((head ∷ tail) ++ t) ≡ at_symbol k (length (head ∷ tail))

-- no digit and no name begins with the byte
abbrev Apart : ℕ → Type 0
Apart b = (is_digit b ≡ false) × (is_name_start b ≡ false) × (gap false b ≡ None)

-- of one byte
short_read : (k b : ℕ) → symbol_text k ≡ b ∷ [] → Apart b → short_symbol b ≡ Some k → ((c : ℕ) (t : List ℕ) → HeadOk (c ∷ t) → long_symbol b c ≡ None) → Read k
unfolding lexeme_at
short_read k b e a s l = record { head = b; tail = []; text = e; no_gap = a.2; read = read }
  where
    read : (t : List ℕ) → HeadOk t → lexeme_at (b ∷ t) ≡ at_symbol k 1
    read [] h = rw (a.0, a.1, s) refl
    read (c ∷ t) h = rw (a.0, a.1, l c t h, s) refl

-- of two bytes
long_read : (k b c : ℕ) → symbol_text k ≡ b ∷ c ∷ [] → Apart b → long_symbol b c ≡ Some k → Read k
unfolding lexeme_at
long_read k b c e a l = record { head = b; tail = c ∷ []; text = e; no_gap = a.2; read = λ t h. rw (a.0, a.1, l) refl }

abbrev sign : (k b : ℕ) → symbol_text k ≡ b ∷ [] → Apart b → short_symbol b ≡ Some k → ((c : ℕ) → long_symbol b c ≡ None) → Read k
sign k b e a s l = short_read k b e a s (λ c t h. l c)

pub symbol_read : (k : ℕ) → k ≤ 18 → Read k
symbol_read zero h = sign 0 123 refl (refl, refl, refl) refl (λ c. refl)
symbol_read (suc zero) h = sign 1 125 refl (refl, refl, refl) refl (λ c. refl)
symbol_read (suc (suc zero)) h = sign 2 59 refl (refl, refl, refl) refl (λ c. refl)
symbol_read (suc (suc (suc zero))) h = sign 3 44 refl (refl, refl, refl) refl (λ c. refl)
symbol_read (suc (suc (suc (suc zero)))) h = sign 4 124 refl (refl, refl, refl) refl (λ c. refl)
symbol_read (suc (suc (suc (suc (suc zero))))) h = sign 5 40 refl (refl, refl, refl) refl (λ c. refl)
symbol_read (suc (suc (suc (suc (suc (suc zero)))))) h = sign 6 41 refl (refl, refl, refl) refl (λ c. refl)
symbol_read (suc (suc (suc (suc (suc (suc (suc zero))))))) h = sign 7 58 refl (refl, refl, refl) refl (λ c. refl)
symbol_read (suc (suc (suc (suc (suc (suc (suc (suc k)))))))) h = later k (omega (arith, h))
  where
    later : (k : ℕ) → k ≤ 10 → Read (suc (suc (suc (suc (suc (suc (suc (suc k))))))))
    later zero h = sign 8 38 refl (refl, refl, refl) refl (λ c. refl)
    later (suc zero) h = sign 9 43 refl (refl, refl, refl) refl (λ c. refl)
    later (suc (suc zero)) h = sign 10 42 refl (refl, refl, refl) refl (λ c. refl)
    later (suc (suc (suc zero))) h = sign 11 47 refl (refl, refl, refl) refl (λ c. refl)
    later (suc (suc (suc (suc zero)))) h = long_read 12 61 61 refl (refl, refl, refl) refl
    later (suc (suc (suc (suc (suc zero))))) h = long_read 13 33 61 refl (refl, refl, refl) refl
    later (suc (suc (suc (suc (suc (suc zero)))))) h = short_read 14 60 refl (refl, refl, refl) refl (λ c t g. rw g.1 refl)
    later (suc (suc (suc (suc (suc (suc (suc zero))))))) h = long_read 15 60 61 refl (refl, refl, refl) refl
    later (suc (suc (suc (suc (suc (suc (suc (suc zero)))))))) h = short_read 16 62 refl (refl, refl, refl) refl (λ c t g. rw (g.1, g.2) refl)
    later (suc (suc (suc (suc (suc (suc (suc (suc (suc zero))))))))) h = long_read 17 62 61 refl (refl, refl, refl) refl
    later (suc (suc (suc (suc (suc (suc (suc (suc (suc (suc zero)))))))))) h = long_read 18 62 62 refl (refl, refl, refl) refl
    later (suc (suc (suc (suc (suc (suc (suc (suc (suc (suc (suc k))))))))))) h = absurd (omega (arith, h))

-- `(` is read whatever follows
pub open_read : (t : List ℕ) → lexeme_at (40 ∷ t) ≡ at_symbol 5 1
unfolding lexeme_at
open_read [] = refl
open_read (c ∷ t) = refl
