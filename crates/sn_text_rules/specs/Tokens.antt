-- to be believed
-- Tokens as a grammar sees them, the marks that spell a value, and what reading gives.
use Rattle.std.specs.Prelude.{◌≡◌, ℕ, Bool, true, false, List, [], ◌∷◌, map, Option, Some, None}
use Rattle.sn_text_rules.specs.declared.Flaw.{Flaw}

-- finish is the end of the text; bad stands where no token begins
pub data Lexeme : Type 0 where
  word : List ℕ → Lexeme
  number : ℕ → Lexeme
  symbol : ℕ → Lexeme
  finish : Lexeme
  bad : Lexeme

-- a word, for contracts in which the constructor's name is that of a parameter
abbrev pub word_lexeme : List ℕ → Lexeme
word_lexeme w = word w

-- no token stands after these
abbrev pub is_last : Lexeme → Bool
is_last finish = true
is_last bad = true
is_last _ = false

-- a token, and where it stands: its line and column from 1, its first byte and the one after it from 0
pub record Tok : Type 0 where
  pub face : Lexeme
  pub line : ℕ
  pub column : ℕ
  pub start : ℕ
  pub end : ℕ

-- the line of the first of these tokens
abbrev pub first_line : List Tok → ℕ
first_line [] = 0
first_line (t ∷ ts) = t.line

-- What a token must be: its lexeme, and its line too where a value keeps that.
pub record Mark : Type 0 where
  pub face : Lexeme
  pub line : Option ℕ

abbrev pub plain : Lexeme → Mark
plain x = record { face = x; line = None }

abbrev pub lined : Lexeme → ℕ → Mark
lined x line = record { face = x; line = Some line }

abbrev pub IsLine : Option ℕ → ℕ → Type 0
IsLine None line = Unit {0}
IsLine (Some k) line = line ≡ k

abbrev pub Bears : Tok → Mark → Type 0
Bears t m = (t.face ≡ m.face) × IsLine m.line t.line

-- these tokens bear these marks, one by one
abbrev pub Spelled : List Tok → List Mark → Type 0
Spelled [] [] = Unit {0}
Spelled [] (m ∷ ms) = ⊥
Spelled (t ∷ ts) [] = ⊥
Spelled (t ∷ ts) (m ∷ ms) = Bears t m × Spelled ts ms

abbrev pub tok_face : Tok → Lexeme
tok_face t = t.face

abbrev pub faces : List Tok → List Lexeme
faces ts = map tok_face ts

abbrev pub mark_face : Mark → Lexeme
mark_face m = m.face

-- the marks without their lines
abbrev pub mark_faces : List Mark → List Lexeme
mark_faces ms = map mark_face ms

-- A value and the tokens after it; or a fault at the first of these tokens; or the tokens end before either is known.
pub data Read (A : Type 0) : Type 0 where
  got : A → List Tok → Read A
  fails : Flaw → List Tok → Read A
  short : Read A

abbrev pub bind : {A B : Type 0} → Read A → (A → List Tok → Read B) → Read B
bind (got a us) f = f a us
bind (fails x us) f = fails x us
bind short f = short
