-- The first fault of a file, under its name.
use Rattle.std.proofs.Common.{◌≡◌, ℕ, true, List, sym, subst}
use Rattle.sn_text_rules.specs.declared.Flaw.{Flaw}
use Rattle.sn_text_rules.specs.declared.Flaw.TheVariants.{Lex, Expected, TooMany, Range, Twice, Missing}
use Rattle.sn_text_rules.specs.Tokens.{Tok}
use Rattle.sn_text_rules.specs.Rules.{FirstFault}
use Rattle.sn_query_grammar.specs.Grammar.{file_rule}
use Rattle.sn_query_grammar.proofs.Bounded.{flaws}
use Rattle.sn_query.specs.declared.fault.ParseFault.{ParseFault}
use Rattle.sn_query.specs.Texts.{shown, IsFault}

pub fault_is : (ts : List Tok) (e : ParseFault) (flaw : Flaw) (line column : ℕ) → e ≡ shown flaw line column → flaws.ok flaw ≡ true → FirstFault file_rule ts flaw line column → IsFault ts e
fault_is ts e Lex line column q o f = subst (IsFault ts) (sym q) f
fault_is ts e Expected line column q o f = subst (IsFault ts) (sym q) f
fault_is ts e TooMany line column q o f = subst (IsFault ts) (sym q) f
fault_is ts e Range line column q o f = absurd cc
fault_is ts e Twice line column q o f = subst (IsFault ts) (sym q) f
fault_is ts e Missing line column q o f = absurd cc
