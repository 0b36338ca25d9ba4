-- to be believed
-- Which texts stand for which costs and trees, and what the fault of another is.
use Rattle.std.specs.Prelude.{◌≡◌, ◌≢◌, ℕ, List, [], ◌∷◌, Result, Ok, Err}
use Rattle.sn_text_rules.specs.declared.Flaw.{Flaw}
use Rattle.sn_text_rules.specs.declared.Flaw.TheVariants as flaws
use Rattle.sn_text_rules.specs.Tokens.{Tok, first_line}
use Rattle.sn_text_rules.specs.Rules.{Accepts, FirstFault}
use Rattle.sn_text.specs.Cutting.{tokens_of}
use Rattle.sn_text.specs.Lexing.{left}
use Rattle.sn_text.specs.declared.stop.Stop.{Stop}
use Rattle.sn_text.specs.declared.stop.Stop.TheVariants as stops
use Rattle.sn_tree_space.specs.declared.node.Node.{Node}
use Rattle.sn_plan_grammar.specs.TreeGrammar.{tree_rule}
use Rattle.sn_tree_text.specs.declared.fault.TextFault.{TextFault}
use Rattle.sn_tree_text.specs.declared.fault.TextFault.TheVariants as faults
use Rattle.sn_tree_text.specs.Places.{from_byte}

-- The tokens are those that the grammar gives the cost and the nodes.
abbrev pub StandsFor : List Tok → ℕ → List Node → Type 0
StandsFor ts cost nodes = Accepts tree_rule ts (cost, nodes)

-- the first fault of the text, on this line
abbrev pub FaultAt : List Tok → Flaw → ℕ → Type 0
FaultAt ts flaw line = (column : ℕ) × FirstFault tree_rule ts flaw line column

abbrev pub IsFault : List Tok → TextFault → Type 0
IsFault ts (faults.Lex line) = FaultAt ts flaws.Lex line
IsFault ts (faults.Expected line) = FaultAt ts flaws.Expected line
IsFault ts faults.Memory = Unit {0}

abbrev pub IsValue : ℕ → List Node → Result (ℕ × List Node) TextFault → Type 0
IsValue cost nodes (Ok x) = (x.0 ≡ cost) × (x.1 ≡ nodes)
IsValue cost nodes (Err e) = e ≡ faults.Memory

-- the fault that answers a flaw on a line
abbrev pub fault_of : Flaw → ℕ → TextFault
fault_of flaws.Lex line = faults.Lex line
fault_of _ line = faults.Expected line

-- what is answered where reading stops
abbrev pub Answers : Stop → TextFault → Type 0
Answers stops.NoMemory e = e ≡ faults.Memory
Answers (stops.Fault x l) e = e ≡ fault_of x (first_line (left l))

-- ---- the one reading of a text

-- a cost and a tree, of the tokens of the text from a byte on
abbrev pub IsRead : List ℕ → ℕ → Result (ℕ × List Node) TextFault → Type 0
IsRead text byte (Ok x) = StandsFor (from_byte byte (tokens_of text)) x.0 x.1
IsRead text byte (Err e) = IsFault (from_byte byte (tokens_of text)) e × (e ≢ faults.Memory)

-- a text is read as something
pub record HasReading (text : List ℕ) (byte : ℕ) : Type 0 where
  pub reading : Result (ℕ × List Node) TextFault
  pub is : IsRead text byte reading
