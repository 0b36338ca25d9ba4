-- serves proofs
-- What a reading function gives, in the words of the rules.
use Rattle.std.specs.Prelude.{◌≡◌, Bool, List, [], ◌∷◌, Result, Ok, Err}
use Rattle.sn_text_rules.specs.Tokens.{Lexeme, Tok, Read, got, fails}
use Rattle.sn_text.specs.declared.place.Lexer.{Lexer}
use Rattle.sn_text.specs.Lexing.{left}
use Rattle.sn_text.specs.declared.stop.Stop.{Stop}
use Rattle.sn_text.specs.declared.stop.Stop.TheVariants as stops

-- the fault of the reading and where it stands, unless memory ran out
abbrev pub Halts : {Y : Type 0} → Stop → Read Y → Type 0
Halts stops.NoMemory read = Unit {0}
Halts (stops.Fault x l) read = read ≡ fails x (left l)

-- the value of the reading and the tokens left
abbrev pub Reads : {Y : Type 0} → Result (Y × Lexer) Stop → Read Y → Type 0
Reads (Ok x) read = read ≡ got x.0 (left x.1)
Reads (Err e) read = Halts e read

-- the same for a part without a value
abbrev pub Passes : Result Lexer Stop → Read (Unit {0}) → Type 0
Passes (Ok l) read = read ≡ got tt (left l)
Passes (Err e) read = Halts e read

-- the same for a whole text
abbrev pub ReadsAll : {Y : Type 0} → Result Y Stop → Read Y → Type 0
ReadsAll (Ok y) read = read ≡ got y []
ReadsAll (Err e) read = Halts e read

abbrev pub EndsAll : Result (Unit {0}) Stop → Read (Unit {0}) → Type 0
EndsAll (Ok u) read = read ≡ got tt []
EndsAll (Err e) read = Halts e read

-- whether the next token passes
abbrev pub Peeked : Bool → (Lexeme → Bool) → List Tok → Type 0
Peeked b goes [] = ⊥
Peeked b goes (t ∷ ts) = b ≡ goes t.face

abbrev pub map_result : {A B E : Type 0} → (A → B) → Result A E → Result B E
map_result f (Ok a) = Ok (f a)
map_result f (Err e) = Err e
