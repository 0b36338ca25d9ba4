-- serves proofs
-- The printer of the code, as a state.
use Rattle.std.specs.Prelude.{ℕ, zero, suc, List, [], ◌∷◌, ◌++◌, fold, Option, Some, None, codes}
use Rattle.sn_text_rules.specs.declared.symbols.TheConstants.{OPEN_BRACE, COMMA, OPEN, CLOSE, COLON, AND}
use Rattle.sn_text_rules.specs.Tokens.{Mark, plain, word, number, symbol}
use Rattle.sn_text_rules.specs.Rules.{series_spelled, maybe_spelled}
use Rattle.sn_query_grammar.specs.declared.ast.FoldWord.{FoldWord}
use Rattle.sn_query_grammar.specs.declared.ast.FoldWord.TheVariants as folds
use Rattle.sn_query_grammar.specs.declared.ast.Query.{Query}
use Rattle.sn_query_grammar.specs.declared.ast.Refine.{Refine}
use Rattle.sn_query_grammar.specs.declared.ast.Branch.{Branch}
use Rattle.sn_query_grammar.specs.declared.ast.Op.{Op}
use Rattle.sn_query_grammar.specs.Grammar.{keys_rule, op_rule, refine_rule, branch_rule, query_rule}
use Rattle.sn_query_print.specs.declared.printer.Printer.{Printer}
use Rattle.sn_query_print.specs.Layout.{State, put}

abbrev pub state : Printer → State
state p = record { text = p.text.items; last = p.last }

-- after these tokens
abbrev pub puts : State → List Mark → State
puts s ms = fold put s ms

-- items with commas between them
abbrev pub list_spelled : {A : Type 0} → (A → List Mark) → List A → List Mark
list_spelled spell items = series_spelled spell (λ item. plain (symbol COMMA) ∷ spell item) items

-- [ "&" NUM ]
abbrev pub and_spelled : Option ℕ → List Mark
and_spelled None = []
and_spelled (Some k) = plain (symbol AND) ∷ plain (number k) ∷ []

-- the word of a fold, and its column in brackets
abbrev pub folded_spelled : List ℕ → List ℕ → List Mark
folded_spelled text value = plain (word text) ∷ plain (symbol OPEN) ∷ plain (word value) ∷ plain (symbol CLOSE) ∷ []

-- a fold that has no width
abbrev pub plain_spelled : List (List ℕ) → List ℕ → List ℕ → ℕ → List Mark
plain_spelled keys text value zero = keys_rule.spell keys ++ plain (symbol COLON) ∷ folded_spelled text value
plain_spelled keys text value (suc width) = []

abbrev pub refined_spelled : Option Refine → List Mark
refined_spelled r = maybe_spelled refine_rule.spell r

abbrev pub ops_spelled : List Op → List Mark
ops_spelled ops = series_spelled op_rule.spell op_rule.spell ops

abbrev pub queries_spelled : List Query → List Mark
queries_spelled queries = series_spelled (query_rule []).spell (query_rule []).spell queries

-- what stands before the first branch's end: the word, the name and the refinement
abbrev pub head_spelled : List ℕ → Option Refine → Branch → List Mark
head_spelled n r b = plain (word (codes "query")) ∷ plain (word n) ∷ plain (symbol OPEN_BRACE) ∷ (refined_spelled r ++ branch_rule.spell b)

-- a sum with its width
abbrev pub summed_spelled : List ℕ → ℕ → List Mark
summed_spelled value width =
    plain (word (codes "sum")) ∷ plain (symbol OPEN) ∷ plain (word value) ∷ plain (symbol CLOSE) ∷ plain (word (codes "width")) ∷ plain (number width) ∷ []

abbrev pub sum_spelled : List (List ℕ) → List ℕ → ℕ → List Mark
sum_spelled keys value width = keys_rule.spell keys ++ plain (symbol COLON) ∷ summed_spelled value width

abbrev pub reduction_spelled : FoldWord → List (List ℕ) → List ℕ → ℕ → List Mark
reduction_spelled folds.Sum keys value width = sum_spelled keys value width
reduction_spelled folds.Max keys value width = plain_spelled keys (codes "max") value width
reduction_spelled folds.Min keys value width = plain_spelled keys (codes "min") value width
reduction_spelled folds.Or keys value width = plain_spelled keys (codes "or") value width
