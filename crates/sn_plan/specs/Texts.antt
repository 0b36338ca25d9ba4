-- to be believed
-- Which texts stand for which plans, and what the fault of another is.
use Rattle.std.specs.Prelude.{◌≡◌, ◌≢◌, ℕ, Bool, List, [], ◌∷◌, ◌++◌, length, Result, Ok, Err}
use Rattle.sn_text_rules.specs.declared.Flaw.{Flaw}
use Rattle.sn_text_rules.specs.declared.Flaw.TheVariants as flaws
use Rattle.sn_text_rules.specs.Tokens.{Tok, first_line}
use Rattle.sn_text_rules.specs.Rules.{Accepts, FirstFault}
use Rattle.sn_text.specs.Cutting.{tokens_of}
use Rattle.sn_text.specs.Lexing.{left}
use Rattle.sn_text.specs.declared.stop.Stop.{Stop}
use Rattle.sn_text.specs.declared.stop.Stop.TheVariants as stops
use Rattle.sn_plan_grammar.specs.declared.plan.Plan.{Plan}
use Rattle.sn_plan_grammar.specs.Grammar.{file_rule}
use Rattle.sn_plan.specs.declared.fault.PlanFault.{PlanFault}
use Rattle.sn_plan.specs.declared.fault.PlanFault.TheVariants as faults

-- The tokens begin with those of the plan and then the word "cost", or the end of the text, which begins at this byte. What follows doesn't matter.
pub record StandsFor (ts : List Tok) (plan : Plan) (byte : ℕ) : Type 0 where
  pub front : List Tok
  pub at : Tok
  pub rest : List Tok
  pub cost : Bool
  pub parts : ts ≡ (front ++ at ∷ []) ++ rest
  pub accepted : Accepts file_rule (front ++ at ∷ []) (plan, cost)
  pub starts : at.start ≡ byte

-- some text stands for the plan
abbrev pub IsParsed : Plan → Type 0
IsParsed plan = (text : List ℕ) × (byte : ℕ) × StandsFor (tokens_of text) plan byte

-- the whole text stands for the plan: what ends it is the end of the text
abbrev pub StandsAgain : List ℕ → Plan → Type 0
StandsAgain text plan = StandsFor (tokens_of text) plan (length text)

-- the first fault of the text, on this line
abbrev pub FaultAt : List Tok → Flaw → ℕ → Type 0
FaultAt ts flaw line = (column : ℕ) × FirstFault file_rule ts flaw line column

abbrev pub IsFault : List Tok → PlanFault → Type 0
IsFault ts (faults.Lex line) = FaultAt ts flaws.Lex line
IsFault ts (faults.Expected line) = FaultAt ts flaws.Expected line
IsFault ts faults.Memory = Unit {0}

abbrev pub IsValue : Plan → ℕ → Result (Plan × ℕ) PlanFault → Type 0
IsValue plan byte (Ok x) = (x.0 ≡ plan) × (x.1 ≡ byte)
IsValue plan byte (Err e) = e ≡ faults.Memory

-- the fault that answers a flaw on a line
abbrev pub fault_of : Flaw → ℕ → PlanFault
fault_of flaws.Lex line = faults.Lex line
fault_of _ line = faults.Expected line

-- what is answered where reading stops
abbrev pub Answers : Stop → PlanFault → Type 0
Answers stops.NoMemory e = e ≡ faults.Memory
Answers (stops.Fault x l) e = e ≡ fault_of x (first_line (left l))

-- ---- the one reading of a text

-- a plan, and the byte where what ends it begins
abbrev pub IsRead : List ℕ → Result (Plan × ℕ) PlanFault → Type 0
IsRead text (Ok x) = StandsFor (tokens_of text) x.0 x.1
IsRead text (Err e) = IsFault (tokens_of text) e × (e ≢ faults.Memory)

-- a text is read as something
pub record HasReading (text : List ℕ) : Type 0 where
  pub reading : Result (Plan × ℕ) PlanFault
  pub is : IsRead text reading
