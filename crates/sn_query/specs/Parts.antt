-- serves proofs
-- Parts of productions that the code reads by themselves.
use Rattle.std.specs.Prelude.{ℕ, List, [], Option, codes}
use Rattle.sn_text_rules.specs.declared.Flaw.TheVariants.{TooMany}
use Rattle.sn_text_rules.specs.declared.symbols.TheConstants.{BAR, OPEN, CLOSE, AND, PLUS, TIMES, OVER, SHIFT}
use Rattle.sn_text_rules.specs.Tokens.{Tok, Read, got, bind}
use Rattle.sn_text_rules.specs.Rules.{Rule, kept, pair, maybe, many, series}
use Rattle.sn_text_rules.specs.Words.{is_word, is_symbol, sign, number_in, full, ◌▸◌, ◌◂◌, any_number}
use Rattle.sn_query_grammar.specs.declared.ast.Query.{Query}
use Rattle.sn_query_grammar.specs.declared.ast.Refine.{Refine}
use Rattle.sn_query_grammar.specs.declared.ast.Branch.{Branch}
use Rattle.sn_query_grammar.specs.declared.ast.Join.{Join}
use Rattle.sn_query_grammar.specs.declared.ast.Op.{Op}
use Rattle.sn_query_grammar.specs.declared.ast.Reduce.{Reduce}
use Rattle.sn_query_grammar.specs.Names.{name, name_not}
use Rattle.sn_query_grammar.specs.Grammar.{Name, fold_rule, fold_to, op_rule, post_op_rule, refine_rule, branch_rule, join_rule, query_rule, query_names}

-- [ "&" NUM ]
abbrev pub and_rule : Rule (Option ℕ)
and_rule = maybe (is_symbol AND) (sign AND ▸ any_number)

-- "&" NUM
abbrev pub mask_rule : Rule ℕ
mask_rule = sign AND ▸ any_number

-- ">>" NUM
abbrev pub shift_rule : Rule ℕ
shift_rule = sign SHIFT ▸ number_in 0 63

-- "+" NAME
abbrev pub plus_rule : Rule Name
plus_rule = sign PLUS ▸ name

-- "*" NUM "/" NAME
abbrev pub ratio_rule : Rule (ℕ × Name)
ratio_rule = sign TIMES ▸ pair any_number (sign OVER ▸ name)

-- "(" NAME ")"
abbrev pub column_rule : List Name → Rule Name
column_rule keys = sign OPEN ▸ (name_not keys ◂ sign CLOSE)

-- fold, as what it makes of the keys
abbrev pub fold_read : List Name → List Tok → Read Reduce
fold_read keys ts = bind ((fold_rule keys).read kept ts) (λ x us. got (fold_to keys x) us)

-- op { op }
abbrev pub ops_rule : Rule (List Op)
ops_rule = series op_rule (is_symbol BAR) (full 12 TooMany) (λ seen. op_rule)

-- { "|" ( filter | postmap ) }
abbrev pub post_rule : Rule (List Op)
post_rule = many (is_symbol BAR) (full 12 TooMany) (λ seen. post_op_rule)

-- [ refine ]
abbrev pub refined_rule : Rule (Option Refine)
refined_rule = maybe (is_word (codes "refine")) refine_rule

-- branch join
abbrev pub joined_rule : Rule (Branch × Join)
joined_rule = pair branch_rule join_rule

-- [ branch join ]
abbrev pub second_rule : Rule (Option (Branch × Join))
second_rule = maybe (is_word (codes "packets")) joined_rule

-- query { query }
abbrev pub queries_rule : Rule (List Query)
queries_rule = series (query_rule []) (is_word (codes "query")) (full 8 TooMany) (λ seen. query_rule (query_names seen))

-- NUM of a level
abbrev pub level_rule : Rule ℕ
level_rule = number_in 0 128
