-- serves proofs
-- What the calls of a lexer answer.
use Rattle.std.specs.Prelude.{◌≡◌, ℕ, false, List, [], ◌∷◌, if◌then◌else◌}
use Rattle.sn_text_rules.specs.Tokens.{Tok, bad}
use Rattle.sn_text.specs.Cutting.{is_last}
use Rattle.sn_text.specs.Lexing.{kind_of, is_bad}
use Rattle.sn_text.specs.declared.lexer.Token.{Token}

-- the token that the code shows for one of the text
abbrev pub shown : Tok → Token
shown t = record { kind = kind_of t.face; start = t.start; end = t.end; line = t.line; column = t.column }

-- the first of these tokens, and no fault
abbrev pub IsNext : Token → List Tok → Type 0
IsNext t [] = ⊥
IsNext t (u ∷ us) = (is_bad u.face ≡ false) × (shown u ≡ t)

-- at this place no token begins
abbrev pub IsBadAt : ℕ → ℕ → List Tok → Type 0
IsBadAt line column [] = ⊥
IsBadAt line column (u ∷ us) = (u.face ≡ bad) × (u.line ≡ line) × (u.column ≡ column)

-- after the first token; the last one comes again and again
abbrev pub after_first : List Tok → List Tok
after_first [] = []
after_first (t ∷ ts) = if is_last t.face then t ∷ ts else ts
