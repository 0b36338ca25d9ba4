-- to be believed
-- How a lexeme is written.
use Rattle.std.specs.Prelude.{ℕ, List, [], ◌==◌, codes, if◌then◌else◌}
use Rattle.std.specs.Fmt.{decimal}
use Rattle.sn_text_rules.specs.Tokens.{Lexeme, word, number, symbol, finish, bad}

-- { } ; , | ( ) : & + * / == != < <= > >= >>
abbrev pub symbol_text : ℕ → List ℕ
symbol_text k =
    if k == 0 then codes "{" else if k == 1 then codes "}" else if k == 2 then codes ";" else if k == 3 then codes "," else if k == 4 then codes "|"
    else if k == 5 then codes "(" else if k == 6 then codes ")" else if k == 7 then codes ":" else if k == 8 then codes "&" else if k == 9 then codes "+"
    else if k == 10 then codes "*" else if k == 11 then codes "/" else if k == 12 then codes "==" else if k == 13 then codes "!=" else if k == 14 then codes "<"
    else if k == 15 then codes "<=" else if k == 16 then codes ">" else if k == 17 then codes ">=" else codes ">>"

abbrev pub lexeme_text : Lexeme → List ℕ
lexeme_text (word w) = w
lexeme_text (number n) = decimal n
lexeme_text (symbol k) = symbol_text k
lexeme_text finish = []
lexeme_text bad = []
