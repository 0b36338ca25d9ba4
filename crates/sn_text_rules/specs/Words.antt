-- to be believed
-- Rules of single tokens that all formats have, and lists with commas.
use Rattle.std.specs.Prelude.{◌≡◌, ℕ, Bool, true, false, List, [], length, Option, Some, None, Result, Ok, Err, nat_le, nat_eq, ◌==◌, ◌&&◌, if◌then◌else◌}
use Rattle.std.specs.Cmp.Lexicographic.{pointwise}
use Rattle.sn_text_rules.specs.declared.Flaw.{Flaw}
use Rattle.sn_text_rules.specs.declared.Flaw.TheVariants.{Lex, Expected}
use Rattle.sn_text_rules.specs.declared.symbols.TheConstants.{COMMA}
use Rattle.sn_text_rules.specs.Tokens.{Lexeme, word, number, symbol, finish, bad, lined}
use Rattle.sn_text_rules.specs.Rules.{Limits, Rule, one, token, pair, renamed, closed, series, past, either_rule}

abbrev pub same : List ℕ → List ℕ → Bool
same a b = pointwise nat_eq a b

-- what is wrong with a token that can't stand here
abbrev pub wrong : Lexeme → Flaw
wrong bad = Lex
wrong _ = Expected

abbrev pub is_word : List ℕ → Lexeme → Bool
is_word text (word w) = same w text
is_word text _ = false

abbrev pub is_symbol : ℕ → Lexeme → Bool
is_symbol k (symbol j) = j == k
is_symbol k _ = false

abbrev pub is_number : Lexeme → Bool
is_number (number n) = true
is_number _ = false

abbrev pub is_finish : Lexeme → Bool
is_finish finish = true
is_finish _ = false

-- ---- one token that is always the same

abbrev pub passed : {A : Type 0} → Bool → A → Lexeme → Result A Flaw
passed true a x = Ok a
passed false a x = Err (wrong x)

abbrev pub the : Lexeme → (Lexeme → Bool) → Rule (Unit {0})
the face goes = token (λ u. face) (λ l u. Unit {0}) (λ l x. passed (goes x) tt x)

abbrev pub keyword : List ℕ → Rule (Unit {0})
keyword text = the (word text) (is_word text)

abbrev pub sign : ℕ → Rule (Unit {0})
sign k = the (symbol k) (is_symbol k)

abbrev pub the_end : Rule (Unit {0})
the_end = the finish is_finish

-- the same, and its line is the value
abbrev pub line_at : Lexeme → (Lexeme → Bool) → Rule ℕ
line_at face goes = one (λ line. lined face line) (λ l line. Unit {0}) (λ l t. passed (goes t.face) t.line t.face) (λ line. 0)

abbrev pub line_of_word : List ℕ → Rule ℕ
line_of_word text = line_at (word text) (is_word text)

abbrev pub line_of_sign : ℕ → Rule ℕ
line_of_sign k = line_at (symbol k) (is_symbol k)

-- ---- one token that stands for a value, which a test may refuse

abbrev pub judged_as : {A : Type 0} → A → Option Flaw → Result A Flaw
judged_as a None = Ok a
judged_as a (Some x) = Err x

abbrev pub judged_by : {A : Type 0} → (A → Option Flaw) → Limits → Lexeme → Option A → Result A Flaw
judged_by test l x None = Err (wrong x)
judged_by test l x (Some a) = judged_as a (closed l (test a))

abbrev pub leaf : {A : Type 0} → (A → Lexeme) → (Lexeme → Option A) → (A → Option Flaw) → Rule A
leaf face get test = token face (λ l a. closed l (test a) ≡ None) (λ l x. judged_by test l x (get x))

abbrev pub word_in : Lexeme → Option (List ℕ)
word_in (word w) = Some w
word_in _ = None

abbrev pub number_at : Lexeme → Option ℕ
number_at (number n) = Some n
number_at _ = None

abbrev pub word_by : (List ℕ → Option Flaw) → Rule (List ℕ)
word_by test = leaf word word_in test

abbrev pub number_by : (ℕ → Option Flaw) → Rule ℕ
number_by test = leaf number number_at test

abbrev pub in_range : ℕ → ℕ → ℕ → Option Flaw
in_range low high n = if nat_le low n && nat_le n high then None else Some Expected

-- a number from low to high
abbrev pub number_in : ℕ → ℕ → Rule ℕ
number_in low high = number_by (in_range low high)

-- any number of 64 bits
abbrev pub any_number : Rule ℕ
any_number = number_in 0 18446744073709551615

-- ---- words and signs before and after a part

abbrev pub second : {A : Type 0} → Unit {0} × A → A
second x = x.1

abbrev pub as_second : {A : Type 0} → A → Unit {0} × A
as_second a = (tt, a)

abbrev pub first : {A : Type 0} → A × Unit {0} → A
first x = x.0

abbrev pub with_second : {A : Type 0} → A → A × Unit {0}
with_second a = (a, tt)

infixr 5 ◌▸◌
abbrev pub ◌▸◌ : {A : Type 0} → Rule (Unit {0}) → Rule A → Rule A
p ▸ q = renamed second as_second (pair p q)

infixr 5 ◌◂◌
abbrev pub ◌◂◌ : {A : Type 0} → Rule A → Rule (Unit {0}) → Rule A
p ◂ q = renamed first with_second (pair p q)

-- ---- lists

abbrev pub never : {A : Type 0} → List A → Option Flaw
never seen = None

-- no further item after this many; wrong says why
abbrev pub full : {A : Type 0} → ℕ → Flaw → List A → Option Flaw
full limit x seen = if nat_le limit (length seen) then Some x else None

-- One or more items with commas between them. After as many as the limit the comma passes, and the token after it is
-- judged by begun.
abbrev pub next_item : {A : Type 0} → ℕ → (Lexeme → Flaw) → (List A → Rule A) → List A → Rule A
next_item limit begun p seen = either_rule (nat_le limit (length seen)) (past begun (p [])) (p seen)

abbrev pub after_comma : {A : Type 0} → ℕ → (Lexeme → Flaw) → (List A → Rule A) → List A → Rule A
after_comma limit begun p seen = sign COMMA ▸ next_item limit begun p seen

abbrev pub commas : {A : Type 0} → ℕ → (Lexeme → Flaw) → (List A → Rule A) → Rule (List A)
commas limit begun p = series (p []) (is_symbol COMMA) never (after_comma limit begun p)
