-- serves proofs
-- The lexer of the code, as a place in its text.
use Rattle.std.specs.Prelude.{Bool, true, false, List}
use Rattle.sn_text_rules.specs.Tokens.{Lexeme, Tok, word, number, symbol, finish, bad}
use Rattle.sn_text.specs.Cutting.{Place, tokens}
use Rattle.sn_text.specs.declared.place.Lexer.{Lexer}
use Rattle.sn_text.specs.declared.place.Piece.{Piece}
use Rattle.sn_text.specs.declared.place.Piece.TheVariants as pieces
use Rattle.sn_text.specs.declared.scan.Found.{Found}
use Rattle.sn_text.specs.declared.lexer.Kind.{Kind}
use Rattle.sn_text.specs.declared.lexer.Kind.TheVariants as kinds

abbrev pub place : Lexer → Place
place l = record { rest = l.rest.now; start = l.start; line = l.line; column = l.column }

-- the tokens that are left
abbrev pub left : Lexer → List Tok
left l = tokens (place l)

abbrev pub seen : Piece → Lexeme
seen (pieces.Word w) = word w.now
seen (pieces.Number n) = number n
seen (pieces.Symbol k) = symbol k
seen pieces.End = finish
seen pieces.Bad = bad

abbrev pub token_of : Found → Tok
token_of t = record { face = seen t.piece; line = t.line; column = t.column; start = t.start; end = t.end }

abbrev pub is_bad : Lexeme → Bool
is_bad bad = true
is_bad _ = false

abbrev pub kind_of : Lexeme → Kind
kind_of (word w) = kinds.Name
kind_of (number n) = kinds.Number n
kind_of (symbol k) = kinds.Symbol k
kind_of finish = kinds.End
kind_of bad = kinds.End
