-- to be believed
-- What a query text stands for, and why one is refused.
use Rattle.std.specs.Prelude.{◌≡◌, ◌⊎◌, ℕ, List, Result, Ok, Err, Some}
use Rattle.sn_text_rules.specs.Rules.{Accepts}
use Rattle.sn_text.specs.Cutting.{tokens_of}
use Rattle.sn_query_grammar.specs.declared.ast.QueryFile.{QueryFile}
use Rattle.sn_query_grammar.specs.Grammar.{file_rule}
use Rattle.sn_query.specs.declared.fault.ParseFault.{ParseFault}
use Rattle.sn_query.specs.declared.fault.ParseFault.TheVariants as texts
use Rattle.sn_query.specs.Texts.{IsFault}
use Rattle.sn_types_faults.specs.declared.fault.TypeFault.{TypeFault}
use Rattle.sn_types_faults.specs.declared.fault.TypeFault.TheVariants as types
use Rattle.sn_types_faults.specs.Walk.{walk, first_fault}
use Rattle.sn_types.specs.declared.typed_query.TypedQuery.{TypedQuery}
use Rattle.sn_types.specs.Typed.{IsTypingOf}
use Rattle.sn_types_read.specs.declared.fault.Kind.{Kind}
use Rattle.sn_types_read.specs.declared.fault.Kind.TheVariants as kinds
use Rattle.sn_types_read.specs.declared.fault.QueryFault.{QueryFault}
use Rattle.sn_types_read.specs.declared.fault.Refused.{Refused}
use Rattle.sn_types_read.specs.declared.fault.Refused.TheVariants as refused

abbrev pub fault_at_line : Kind → ℕ → Refused
fault_at_line kind line = refused.Fault (record { kind = kind; line = line })

-- a fault of the text, under its name and with its line
abbrev pub text_fault : ParseFault → Refused
text_fault (texts.Lex line column) = fault_at_line kinds.Lex line
text_fault (texts.Expected line column) = fault_at_line kinds.Expected line
text_fault (texts.TooMany line column) = fault_at_line kinds.TooMany line
text_fault (texts.Twice line column) = fault_at_line kinds.Twice line
text_fault texts.Memory = refused.Memory

-- a fault of the types, under its name and with its line
abbrev pub type_fault : TypeFault → Refused
type_fault (types.UnknownField line) = fault_at_line kinds.UnknownField line
type_fault (types.UnknownColumn line) = fault_at_line kinds.UnknownColumn line
type_fault (types.TooWide line) = fault_at_line kinds.TooWide line
type_fault (types.NoMap line) = fault_at_line kinds.NoMap line
type_fault (types.RefineLost line) = fault_at_line kinds.RefineLost line
type_fault (types.RefineFilter line) = fault_at_line kinds.RefineFilter line
type_fault (types.Levels line) = fault_at_line kinds.Levels line
type_fault (types.JoinKeys line) = fault_at_line kinds.JoinKeys line
type_fault types.Memory = refused.Memory

-- A text stands for these queries: the grammar gives it a file, and they are the typing of that file.
abbrev pub StandsFor : List ℕ → ℕ → List TypedQuery → Type 0
StandsFor text window queries = (file : QueryFile) × Accepts file_rule (tokens_of text) file × IsTypingOf file window queries

-- the first fault of the text
abbrev pub IsTextFault : List ℕ → QueryFault → Type 0
IsTextFault text fault = (found : ParseFault) × IsFault (tokens_of text) found × (text_fault found ≡ refused.Fault fault)

-- the grammar gives the text a file, whose first place with a fault of types has this one
abbrev pub IsFileFault : List ℕ → QueryFault → Type 0
IsFileFault text fault = (file : QueryFile) × (found : TypeFault) × Accepts file_rule (tokens_of text) file × (first_fault (walk file) ≡ Some found)
    × (type_fault found ≡ refused.Fault fault)

abbrev pub IsRefusedFor : List ℕ → Refused → Type 0
IsRefusedFor text (refused.Fault fault) = IsTextFault text fault ⊎ IsFileFault text fault
IsRefusedFor text refused.Memory = Unit {0}

-- ---- the one reading of a text

-- the window in microseconds, and the queries
pub record Queries : Type 0 where
  pub window_us : ℕ
  pub queries : List TypedQuery

abbrev pub IsRead : List ℕ → Result Queries QueryFault → Type 0
IsRead text (Ok read) = StandsFor text read.window_us read.queries
IsRead text (Err fault) = IsRefusedFor text (refused.Fault fault)

-- a text is read as something
pub record HasReading (text : List ℕ) : Type 0 where
  pub reading : Result Queries QueryFault
  pub is : IsRead text reading
