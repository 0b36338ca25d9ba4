-- to be believed
-- A text that stands for a file, up to lines.
use Rattle.std.specs.Prelude.{◌≡◌, ℕ, List}
use Rattle.sn_text_rules.specs.Rules.{Accepts}
use Rattle.sn_text.specs.Cutting.{tokens_of}
use Rattle.sn_query_grammar.specs.declared.ast.QueryFile.{QueryFile}
use Rattle.sn_query_grammar.specs.Grammar.{file_rule}

-- some text stands for the file
abbrev pub IsParsed : QueryFile → Type 0
IsParsed f = (text : List ℕ) × Accepts file_rule (tokens_of text) f

-- the text stands for the file but for the lines in it
abbrev pub StandsFor : List ℕ → QueryFile → Type 0
StandsFor text f = (g : QueryFile) × Accepts file_rule (tokens_of text) g × (file_rule.bare g ≡ file_rule.bare f)
