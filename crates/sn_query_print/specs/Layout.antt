-- to be believed
-- The canonical text of a list of lexemes: each token with the blanks before it.
use Rattle.std.specs.Prelude.{ℕ, List, [], ◌∷◌, ◌++◌, fold, ◌==◌, ◌||◌, codes, if◌then◌else◌}
use Rattle.sn_text_rules.specs.Tokens.{Lexeme, word, number, symbol, finish, bad, Mark}
use Rattle.sn_text_rules.specs.Words.{same}
use Rattle.sn_text.specs.Writing.{lexeme_text}
use Rattle.sn_query_print.specs.declared.printer.Last.{Last}
use Rattle.sn_query_print.specs.declared.printer.Last.TheVariants as lasts

-- a line end, and as many spaces
abbrev pub new_line : List ℕ
new_line = 10 ∷ []

abbrev pub space : List ℕ
space = 32 ∷ []

-- A query begins a line; its parts begin lines indented by two spaces.
abbrev pub word_gap : List ℕ → List ℕ
word_gap w =
    if same w (codes "query") then new_line
    else if same w (codes "refine") || same w (codes "packets") || same w (codes "join") then new_line ++ codes "  "
    else space

-- An operator begins a line indented by four spaces; `}` begins a line; no space stands before `;`, `,`, `)` and `:`, nor before `(` but after `at`.
abbrev pub symbol_gap : Last → ℕ → List ℕ
symbol_gap lasts.At k = space
symbol_gap _ k =
    if k == 1 then new_line else if k == 4 then new_line ++ codes "    "
    else if (k == 2) || (k == 3) || (k == 5) || (k == 6) || (k == 7) then [] else space

-- no space stands after `(`, and none at the beginning
abbrev pub gap : Last → Lexeme → List ℕ
gap lasts.Begin x = []
gap lasts.Opening x = []
gap last (word w) = word_gap w
gap last (number n) = space
gap last (symbol k) = symbol_gap last k
gap last finish = new_line
gap last bad = []

abbrev pub last_of : Lexeme → Last
last_of (word w) = if same w (codes "at") then lasts.At else lasts.Other
last_of (symbol k) = if k == 5 then lasts.Opening else lasts.Other
last_of _ = lasts.Other

-- what is written so far, and what stands last in it
pub record State : Type 0 where
  pub text : List ℕ
  pub last : Last

abbrev pub put : State → Mark → State
put s m = record { text = s.text ++ gap s.last m.face ++ lexeme_text m.face; last = last_of m.face }

abbrev pub start : State
start = record { text = []; last = lasts.Begin }

-- the canonical text
abbrev pub layout : List Mark → List ℕ
layout ms = (fold put start ms).text
