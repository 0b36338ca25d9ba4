-- Which tokens are the last.
use Rattle.std.proofs.Common.{◌≡◌, true, false, refl, ap}
use Rattle.sn_text_rules.specs.Tokens.{Lexeme, word, number, symbol, finish, bad}
use Rattle.sn_text.specs.Cutting.{is_last}
use Rattle.sn_text.specs.Lexing.{is_bad}
use Rattle.sn_text_rules.specs.Words.{is_finish}

pub bad_face : (x : Lexeme) → is_bad x ≡ true → x ≡ bad
bad_face (word w) e = absurd cc
bad_face (number n) e = absurd cc
bad_face (symbol k) e = absurd cc
bad_face finish e = absurd cc
bad_face bad e = refl

pub last_bad : (x : Lexeme) → is_bad x ≡ true → is_last x ≡ true
last_bad x e = ap is_last (bad_face x e)

pub last_finish : (x : Lexeme) → is_finish x ≡ true → is_last x ≡ true
last_finish (word w) e = absurd cc
last_finish (number n) e = absurd cc
last_finish (symbol k) e = absurd cc
last_finish finish e = refl
last_finish bad e = absurd cc

pub not_last : (x : Lexeme) → is_bad x ≡ false → is_finish x ≡ false → is_last x ≡ false
not_last (word w) e f = refl
not_last (number n) e f = refl
not_last (symbol k) e f = refl
not_last finish e f = absurd cc
not_last bad e f = absurd cc
