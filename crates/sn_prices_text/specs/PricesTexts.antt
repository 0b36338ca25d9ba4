-- to be believed
-- Which texts stand for which costs, prices and what they show, and what the fault of another is.
use Rattle.std.specs.Prelude.{◌≡◌, ◌≢◌, ℕ, List, Result, Ok, Err}
use Rattle.sn_text_rules.specs.declared.Flaw.{Flaw}
use Rattle.sn_text_rules.specs.declared.Flaw.TheVariants as flaws
use Rattle.sn_text_rules.specs.Tokens.{Tok, first_line}
use Rattle.sn_text_rules.specs.Rules.{Accepts, FirstFault}
use Rattle.sn_text.specs.Cutting.{tokens_of}
use Rattle.sn_text.specs.Lexing.{left}
use Rattle.sn_text.specs.declared.stop.Stop.{Stop}
use Rattle.sn_text.specs.declared.stop.Stop.TheVariants as stops
use Rattle.sn_tree_text.specs.Places.{from_byte}
use Rattle.sn_prices_grammar.specs.declared.prices.Shown.{Shown}
use Rattle.sn_prices_grammar.specs.PricesGrammar.{shown_rule}
use Rattle.sn_prices_text.specs.declared.fault.PricesFault.{PricesFault}
use Rattle.sn_prices_text.specs.declared.fault.PricesFault.TheVariants as faults

-- The tokens are those that the grammar gives the cost, the prices and what they show.
abbrev pub StandsFor : List Tok → Shown → Type 0
StandsFor ts x = Accepts shown_rule ts x

-- some text stands for this
abbrev pub IsParsed : Shown → Type 0
IsParsed x = (text : List ℕ) × (byte : ℕ) × StandsFor (from_byte byte (tokens_of text)) x

-- the first fault of the text, on this line
abbrev pub FaultAt : List Tok → Flaw → ℕ → Type 0
FaultAt ts flaw line = (column : ℕ) × FirstFault shown_rule ts flaw line column

abbrev pub IsFault : List Tok → PricesFault → Type 0
IsFault ts (faults.Lex line) = FaultAt ts flaws.Lex line
IsFault ts (faults.Expected line) = FaultAt ts flaws.Expected line
IsFault ts faults.Memory = Unit {0}

abbrev pub IsValue : Shown → Result Shown PricesFault → Type 0
IsValue x (Ok y) = y ≡ x
IsValue x (Err e) = e ≡ faults.Memory

-- the fault that answers a flaw on a line
abbrev pub fault_of : Flaw → ℕ → PricesFault
fault_of flaws.Lex line = faults.Lex line
fault_of _ line = faults.Expected line

-- what is answered where reading stops
abbrev pub Answers : Stop → PricesFault → Type 0
Answers stops.NoMemory e = e ≡ faults.Memory
Answers (stops.Fault x l) e = e ≡ fault_of x (first_line (left l))

-- ---- the one reading of a text

-- a cost, prices and what they show, of the tokens of the text from a byte on
abbrev pub IsRead : List ℕ → ℕ → Result Shown PricesFault → Type 0
IsRead text byte (Ok x) = StandsFor (from_byte byte (tokens_of text)) x
IsRead text byte (Err e) = IsFault (from_byte byte (tokens_of text)) e × (e ≢ faults.Memory)

-- a text is read as something
pub record HasReading (text : List ℕ) (byte : ℕ) : Type 0 where
  pub reading : Result Shown PricesFault
  pub is : IsRead text byte reading
