-- to be believed
-- What parse answers for a text.
use Rattle.std.specs.Prelude.{◌≡◌, ℕ, List, Result, Ok, Err}
use Rattle.sn_text_rules.specs.declared.Flaw.{Flaw}
use Rattle.sn_text_rules.specs.declared.Flaw.TheVariants as flaws
use Rattle.sn_text_rules.specs.Tokens.{Tok}
use Rattle.sn_text_rules.specs.Rules.{FirstFault}
use Rattle.sn_query_grammar.specs.declared.ast.QueryFile.{QueryFile}
use Rattle.sn_query_grammar.specs.Grammar.{file_rule}
use Rattle.sn_query.specs.declared.fault.ParseFault.{ParseFault}
use Rattle.sn_query.specs.declared.fault.ParseFault.TheVariants as faults

-- the fault under its name; the last two are none of a query text
abbrev pub shown : Flaw → ℕ → ℕ → ParseFault
shown flaws.Lex line column = faults.Lex line column
shown flaws.Expected line column = faults.Expected line column
shown flaws.TooMany line column = faults.TooMany line column
shown flaws.Twice line column = faults.Twice line column
shown flaws.Range line column = faults.Expected line column
shown flaws.Missing line column = faults.Expected line column

-- the first fault of these tokens, unless memory ran out
abbrev pub IsFault : List Tok → ParseFault → Type 0
IsFault ts faults.Memory = Unit {0}
IsFault ts (faults.Lex line column) = FirstFault file_rule ts flaws.Lex line column
IsFault ts (faults.Expected line column) = FirstFault file_rule ts flaws.Expected line column
IsFault ts (faults.TooMany line column) = FirstFault file_rule ts flaws.TooMany line column
IsFault ts (faults.Twice line column) = FirstFault file_rule ts flaws.Twice line column

-- this file, unless memory ran out
abbrev pub IsFile : QueryFile → Result QueryFile ParseFault → Type 0
IsFile file (Ok f) = f ≡ file
IsFile file (Err e) = e ≡ faults.Memory
