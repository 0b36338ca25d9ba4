-- Parts of a query that may be there.
use Rattle.std.proofs.Common.{◌≡◌, true, false, List, Some, None, refl, ◌∙◌}
use Rattle.std.specs.Prelude.{codes}
use Rattle.sn_text_rules.specs.Tokens.{Tok, got}
use Rattle.sn_text_rules.specs.Rules.{kept}
use Rattle.sn_text_rules.specs.Words.{is_word}
use Rattle.sn_text.specs.declared.stop.Stop.{Stop}
use Rattle.sn_text.specs.declared.stop.Stop.TheVariants as stops
use Rattle.sn_text.specs.Reading.{Halts, Peeked}
use Rattle.sn_text.proofs.Tokens.{there, not_there}
use Rattle.sn_query_grammar.specs.declared.ast.Refine.{Refine}
use Rattle.sn_query_grammar.specs.declared.ast.Branch.{Branch}
use Rattle.sn_query_grammar.specs.declared.ast.Join.{Join}
use Rattle.sn_query_grammar.specs.Grammar.{refine_rule}
use Rattle.sn_query.specs.Parts.{refined_rule, joined_rule, second_rule}

pub refined : (ts us : List Tok) (a : Refine) → Peeked true (is_word (codes "refine")) ts → refine_rule.read kept ts ≡ got a us → refined_rule.read kept ts ≡ got (Some a) us
refined ts us a p e = there (is_word (codes "refine")) (refine_rule.read kept) ts p ∙ rw e refl

pub refined_halts : (ts : List Tok) (x : Stop) → Peeked true (is_word (codes "refine")) ts → Halts x (refine_rule.read kept ts) → Halts x (refined_rule.read kept ts)
refined_halts ts stops.NoMemory p e = tt
refined_halts ts (stops.Fault x l) p e = there (is_word (codes "refine")) (refine_rule.read kept) ts p ∙ rw e refl

pub not_refined : (ts : List Tok) → Peeked false (is_word (codes "refine")) ts → refined_rule.read kept ts ≡ got None ts
not_refined ts p = not_there (is_word (codes "refine")) (refine_rule.read kept) ts p

pub second : (ts us : List Tok) (a : Branch × Join) → Peeked true (is_word (codes "packets")) ts → joined_rule.read kept ts ≡ got a us → second_rule.read kept ts ≡ got (Some a) us
second ts us a p e = there (is_word (codes "packets")) (joined_rule.read kept) ts p ∙ rw e refl

pub second_halts : (ts : List Tok) (x : Stop) → Peeked true (is_word (codes "packets")) ts → Halts x (joined_rule.read kept ts) → Halts x (second_rule.read kept ts)
second_halts ts stops.NoMemory p e = tt
second_halts ts (stops.Fault x l) p e = there (is_word (codes "packets")) (joined_rule.read kept) ts p ∙ rw e refl

pub no_second : (ts : List Tok) → Peeked false (is_word (codes "packets")) ts → second_rule.read kept ts ≡ got None ts
no_second ts p = not_there (is_word (codes "packets")) (joined_rule.read kept) ts p
