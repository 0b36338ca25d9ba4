-- to be believed
-- Which texts stand for which switches, and what the fault of another is.
use Rattle.std.specs.Prelude.{◌≡◌, ◌≢◌, ◌⊎◌, ℕ, List, [], ◌∷◌, true, Option, None, Some, Result, Ok, Err}
use Rattle.std.specs.List.{filter}
use Rattle.sn_text_rules.specs.declared.Flaw.{Flaw}
use Rattle.sn_text_rules.specs.declared.Flaw.TheVariants as flaws
use Rattle.sn_text_rules.specs.Tokens.{Tok, first_line}
use Rattle.sn_text_rules.specs.Rules.{Accepts, FirstFault}
use Rattle.sn_text.specs.Cutting.{tokens_of}
use Rattle.sn_text.specs.Lexing.{left}
use Rattle.sn_text.specs.declared.stop.Stop.{Stop}
use Rattle.sn_text.specs.declared.stop.Stop.TheVariants as stops
use Rattle.sn_switch_grammar.specs.declared.item.Setting.{Setting}
use Rattle.sn_switch_grammar.specs.declared.item.Setting.TheVariants as settings
use Rattle.sn_switch_grammar.specs.declared.item.Item.{Item}
use Rattle.sn_switch_grammar.specs.Settings.{is_required, sets}
use Rattle.sn_switch_grammar.specs.Grammar.{lone, switch_rule}
use Rattle.sn_switch_grammar.specs.Wholes.{numbers_in, first_of, IsIn, IsSizes}
use Rattle.sn_switch.specs.declared.switch.Switch.{Switch}
use Rattle.sn_switch.specs.declared.fault.SwitchFault.{SwitchFault}
use Rattle.sn_switch.specs.declared.fault.SwitchFault.TheVariants as faults

-- a limit, if there is one, is in a range
abbrev pub IsLimit : ℕ → ℕ → Option ℕ → Type 0
IsLimit low high None = Unit {0}
IsLimit low high (Some n) = IsIn low high n

-- a switch that a text can stand for
pub record IsSwitch (s : Switch) : Type 0 where
  pub stages : IsIn 1 32 s.stages
  pub actions : IsIn 1 64 s.actions
  pub bits : IsIn 1 4294967296 s.bits
  pub meta : IsIn 0 65535 s.meta
  pub chain : IsIn 1 4 s.chain
  pub slots : IsSizes s.slots
  pub entries : IsLimit 1 4194304 s.entries
  pub weight : IsIn 0 65536 s.weight

-- the numbers that a switch has for one of the first six settings
abbrev pub numbers_of : Switch → Setting → List ℕ
numbers_of s settings.Stages = s.stages ∷ []
numbers_of s settings.Actions = s.actions ∷ []
numbers_of s settings.Bits = s.bits ∷ []
numbers_of s settings.Meta = s.meta ∷ []
numbers_of s settings.Chain = s.chain ∷ []
numbers_of s settings.Slots = s.slots
numbers_of s settings.Entries = []
numbers_of s settings.Weight = []

-- the switch whose numbers are those of the first items
abbrev pub switch_in : List Item → Switch
switch_in items = record {
  stages = first_of (numbers_in settings.Stages items);
  actions = first_of (numbers_in settings.Actions items);
  bits = first_of (numbers_in settings.Bits items);
  meta = first_of (numbers_in settings.Meta items);
  chain = first_of (numbers_in settings.Chain items);
  slots = numbers_in settings.Slots items;
  entries = lone (numbers_in settings.Entries items);
  weight = first_of (numbers_in settings.Weight items);
}

-- the one item of a setting has these numbers
abbrev pub Sets : List Item → Setting → List ℕ → Type 0
Sets items k ns = filter (sets k) items ≡ record { setting = k; numbers = ns } ∷ []

abbrev pub SetsEntries : List Item → Option ℕ → Type 0
SetsEntries items None = filter (sets settings.Entries) items ≡ []
SetsEntries items (Some n) = Sets items settings.Entries (n ∷ [])

-- Of each of the first six settings there is one item, with the switch's numbers. Without an item there is no limit of entries, and
-- the weight is 0.
pub record IsOf (items : List Item) (s : Switch) : Type 0 where
  pub each : (k : Setting) → is_required k ≡ true → Sets items k (numbers_of s k)
  pub entries : SetsEntries items s.entries
  pub weight : Sets items settings.Weight (s.weight ∷ []) ⊎ ((filter (sets settings.Weight) items ≡ []) × (s.weight ≡ 0))

-- The tokens are those of items that the grammar accepts, and the switch is what they set.
pub record StandsFor (ts : List Tok) (s : Switch) : Type 0 where
  pub items : List Item
  pub accepted : Accepts switch_rule ts items
  pub each : IsOf items s

-- the first fault of the text, on this line
abbrev pub FaultAt : List Tok → Flaw → ℕ → Type 0
FaultAt ts flaw line = (column : ℕ) × FirstFault switch_rule ts flaw line column

abbrev pub IsFault : List Tok → SwitchFault → Type 0
IsFault ts (faults.Lex line) = FaultAt ts flaws.Lex line
IsFault ts (faults.Expected line) = FaultAt ts flaws.Expected line
IsFault ts (faults.Range line) = FaultAt ts flaws.Range line
IsFault ts (faults.Twice line) = FaultAt ts flaws.Twice line
IsFault ts (faults.Missing line) = FaultAt ts flaws.Missing line
IsFault ts faults.Memory = Unit {0}

abbrev pub IsValue : Switch → Result Switch SwitchFault → Type 0
IsValue s (Ok r) = r ≡ s
IsValue s (Err e) = e ≡ faults.Memory

-- the fault that answers a flaw on a line
abbrev pub fault_of : Flaw → ℕ → SwitchFault
fault_of flaws.Lex line = faults.Lex line
fault_of flaws.Expected line = faults.Expected line
fault_of flaws.TooMany line = faults.Expected line
fault_of flaws.Range line = faults.Range line
fault_of flaws.Twice line = faults.Twice line
fault_of flaws.Missing line = faults.Missing line

-- what is answered where reading stops
abbrev pub Answers : Stop → SwitchFault → Type 0
Answers stops.NoMemory e = e ≡ faults.Memory
Answers (stops.Fault x l) e = e ≡ fault_of x (first_line (left l))

-- ---- the one reading of a text

abbrev pub IsRead : List ℕ → Result Switch SwitchFault → Type 0
IsRead text (Ok s) = StandsFor (tokens_of text) s
IsRead text (Err e) = IsFault (tokens_of text) e × (e ≢ faults.Memory)

-- a text is read as something
pub record HasReading (text : List ℕ) : Type 0 where
  pub reading : Result Switch SwitchFault
  pub is : IsRead text reading
