-- to be believed
-- The grammar of the query text, production by production. The production stands above each rule.
use Rattle.std.specs.Prelude.{ℕ, zero, suc, Bool, List, [], ◌∷◌, map, Option, Some, None, ◌||◌, codes}
use Rattle.std.proofs.Common.{inl, inr, ◌⊎◌}
use Rattle.sn_text_rules.specs.declared.Flaw.{Flaw}
use Rattle.sn_text_rules.specs.declared.Flaw.TheVariants.{TooMany}
use Rattle.sn_text_rules.specs.declared.symbols.TheConstants.{OPEN_BRACE, CLOSE_BRACE, SEMICOLON, BAR, OPEN, CLOSE, COLON, AND, PLUS, TIMES, OVER, SHIFT}
use Rattle.sn_text_rules.specs.Tokens.{Lexeme, number}
use Rattle.sn_text_rules.specs.Rules.{Rule, anything, pair, pair_on, embedded, renamed, maybe, either, many, series}
use Rattle.sn_text_rules.specs.Words.{is_word, is_symbol, is_number, keyword, sign, the_end, line_of_word, line_of_sign, number_in, ◌▸◌, ◌◂◌, full, commas}
use Rattle.sn_text_rules.specs.Words.{any_number}
use Rattle.sn_query_grammar.specs.Names.{name, name_not, past_name, past_number, comparison, plain_fold}
use Rattle.sn_query_grammar.specs.declared.ast.QueryFile.{QueryFile}
use Rattle.sn_query_grammar.specs.declared.ast.Query.{Query}
use Rattle.sn_query_grammar.specs.declared.ast.Refine.{Refine}
use Rattle.sn_query_grammar.specs.declared.ast.Branch.{Branch}
use Rattle.sn_query_grammar.specs.declared.ast.Join.{Join}
use Rattle.sn_query_grammar.specs.declared.ast.Op.{Op}
use Rattle.sn_query_grammar.specs.declared.ast.What.{What}
use Rattle.sn_query_grammar.specs.declared.ast.What.TheVariants as whats
use Rattle.sn_query_grammar.specs.declared.ast.Reduce.{Reduce}
use Rattle.sn_query_grammar.specs.declared.ast.FoldWord.{FoldWord}
use Rattle.sn_query_grammar.specs.declared.ast.FoldWord.TheVariants as folds
use Rattle.sn_query_grammar.specs.declared.ast.Cond.{Cond}
use Rattle.sn_query_grammar.specs.declared.ast.Relax.{Relax}
use Rattle.sn_query_grammar.specs.declared.ast.Cmp.{Cmp}
use Rattle.sn_query_grammar.specs.declared.ast.MapCol.{MapCol}
use Rattle.sn_query_grammar.specs.declared.ast.Expr.{Expr}
use Rattle.sn_query_grammar.specs.declared.ast.Expr.TheVariants as exprs

abbrev pub Name : Type 0
Name = List ℕ

-- ---- conditions

-- relax = NUM ":" NUM
abbrev pub to_relax : ℕ × ℕ → Relax
to_relax x = record { level = x.0; value = x.1 }

abbrev pub from_relax : Relax → ℕ × ℕ
from_relax r = (r.level, r.value)

unfoldable pub relax_rule : Rule Relax
relax_rule = renamed to_relax from_relax (pair (number_in 0 128) (sign COLON ▸ any_number))

-- [ "at" "(" relax { "," relax } ")" ]
abbrev pub to_relaxes : Option (List Relax) → List Relax
to_relaxes None = []
to_relaxes (Some rs) = rs

abbrev pub from_relaxes : List Relax → Option (Option (List Relax))
from_relaxes [] = Some None
from_relaxes (r ∷ rs) = Some (Some (r ∷ rs))

unfoldable pub relaxes_rule : Rule (List Relax)
relaxes_rule =
    embedded to_relaxes from_relaxes (maybe (is_word (codes "at"))
    (keyword (codes "at") ▸ sign OPEN ▸ (commas 4 (past_number 0 128) (λ seen. relax_rule) ◂ sign CLOSE)))

-- cond = NAME [ "&" NUM ] CMP NUM [ "at" .. ]
abbrev pub to_cond : Name × (Option ℕ × (Cmp × (ℕ × List Relax))) → Cond
to_cond x = record { name = x.0; and = x.1.0; cmp = x.1.1.0; own = x.1.1.1.0; relaxed = x.1.1.1.1 }

abbrev pub from_cond : Cond → Name × (Option ℕ × (Cmp × (ℕ × List Relax)))
from_cond c = (c.name, (c.and, (c.cmp, (c.own, c.relaxed))))

unfoldable pub cond_rule : Rule Cond
cond_rule = renamed to_cond from_cond (pair name (pair (maybe (is_symbol AND) (sign AND ▸ any_number)) (pair comparison (pair any_number relaxes_rule))))

-- filter = "filter" cond { "," cond }
unfoldable pub filter_rule : Rule (List Cond)
filter_rule = keyword (codes "filter") ▸ commas 8 past_name (λ seen. cond_rule)

-- ---- maps

-- NUM | NAME [ "&" NUM | ">>" NUM ]
abbrev pub Tail : Type 0
Tail = Option (ℕ ⊎ ℕ)

abbrev pub read_as : Name → Tail → Expr
read_as n None = exprs.Copy n
read_as n (Some (inl k)) = exprs.Mask n k
read_as n (Some (inr k)) = exprs.Shift n k

abbrev pub to_expr : ℕ ⊎ (Name × Tail) → Expr
to_expr (inl k) = exprs.Const k
to_expr (inr x) = read_as x.0 x.1

abbrev pub from_expr : Expr → Option (ℕ ⊎ (Name × Tail))
from_expr (exprs.Const k) = Some (inl k)
from_expr (exprs.Copy n) = Some (inr (n, None))
from_expr (exprs.Mask n k) = Some (inr (n, Some (inl k)))
from_expr (exprs.Shift n k) = Some (inr (n, Some (inr k)))
from_expr (exprs.Sum a b) = None
from_expr (exprs.Ratio a k b) = None

abbrev pub goes_tail : Lexeme → Bool
goes_tail x = is_symbol AND x || is_symbol SHIFT x

unfoldable pub expr_rule : Rule Expr
expr_rule = embedded to_expr from_expr (either is_number any_number
    (pair name (maybe goes_tail (either (is_symbol AND) (sign AND ▸ any_number) (sign SHIFT ▸ number_in 0 63)))))

-- what stands where a column past the limit would begin
abbrev pub past_col : Lexeme → Flaw
past_col (number n) = past_number 0 18446744073709551615 (number n)
past_col x = past_name x

abbrev pub to_col : Expr × Name → MapCol
to_col x = record { expr = x.0; name = x.1 }

abbrev pub from_col : MapCol → Expr × Name
from_col c = (c.expr, c.name)

abbrev pub col_name : MapCol → Name
col_name c = c.name

abbrev pub col_names : List MapCol → List Name
col_names cols = map col_name cols

-- col = ( NUM | NAME [ .. ] ) "as" NAME
unfoldable pub col_rule : List Name → Rule MapCol
col_rule seen = renamed to_col from_col (pair expr_rule (keyword (codes "as") ▸ name_not seen))

-- map = "map" col { "," col }
unfoldable pub map_rule : Rule (List MapCol)
map_rule = keyword (codes "map") ▸ commas 8 past_col (λ seen. col_rule (col_names seen))

-- NUM | NAME [ "&" NUM | ">>" NUM | "+" NAME | "*" NUM "/" NAME ]
abbrev pub PostTail : Type 0
PostTail = Option (ℕ ⊎ (ℕ ⊎ (Name ⊎ (ℕ × Name))))

abbrev pub read_post : Name → PostTail → Expr
read_post n None = exprs.Copy n
read_post n (Some (inl k)) = exprs.Mask n k
read_post n (Some (inr (inl k))) = exprs.Shift n k
read_post n (Some (inr (inr (inl b)))) = exprs.Sum n b
read_post n (Some (inr (inr (inr x)))) = exprs.Ratio n x.0 x.1

abbrev pub to_post_expr : ℕ ⊎ (Name × PostTail) → Expr
to_post_expr (inl k) = exprs.Const k
to_post_expr (inr x) = read_post x.0 x.1

abbrev pub from_post_expr : Expr → ℕ ⊎ (Name × PostTail)
from_post_expr (exprs.Const k) = inl k
from_post_expr (exprs.Copy n) = inr (n, None)
from_post_expr (exprs.Mask n k) = inr (n, Some (inl k))
from_post_expr (exprs.Shift n k) = inr (n, Some (inr (inl k)))
from_post_expr (exprs.Sum a b) = inr (a, Some (inr (inr (inl b))))
from_post_expr (exprs.Ratio a k b) = inr (a, Some (inr (inr (inr (k, b)))))

abbrev pub goes_post_tail : Lexeme → Bool
goes_post_tail x = is_symbol AND x || is_symbol SHIFT x || is_symbol PLUS x || is_symbol TIMES x

unfoldable pub post_expr_rule : Rule Expr
post_expr_rule = renamed to_post_expr from_post_expr (either is_number any_number
    (pair name (maybe goes_post_tail (either (is_symbol AND) (sign AND ▸ any_number) (either (is_symbol SHIFT) (sign SHIFT ▸ number_in 0 63)
    (either (is_symbol PLUS) (sign PLUS ▸ name) (sign TIMES ▸ pair any_number (sign OVER ▸ name))))))))

-- pcol = col | NAME ( "+" NAME | "*" NUM "/" NAME ) "as" NAME
unfoldable pub post_col_rule : List Name → Rule MapCol
post_col_rule seen = renamed to_col from_col (pair post_expr_rule (keyword (codes "as") ▸ name_not seen))

-- postmap = "map" pcol { "," pcol }
unfoldable pub post_map_rule : Rule (List MapCol)
post_map_rule = keyword (codes "map") ▸ commas 8 past_col (λ seen. post_col_rule (col_names seen))

-- ---- folds

-- NAME { "," NAME }, no two equal
unfoldable pub keys_rule : Rule (List Name)
keys_rule = commas 8 past_name (λ seen. name_not seen)

-- fold = "sum" "(" NAME ")" "width" NUM | ( "max" | "min" | "or" ) "(" NAME ")", the name none of the keys
unfoldable pub fold_rule : List Name → Rule ((Name × ℕ) ⊎ (FoldWord × Name))
fold_rule keys = either (is_word (codes "sum"))
    (keyword (codes "sum") ▸ pair (sign OPEN ▸ (name_not keys ◂ sign CLOSE)) (keyword (codes "width") ▸ number_in 1 64))
    (pair plain_fold (sign OPEN ▸ (name_not keys ◂ sign CLOSE)))

abbrev pub fold_to : List Name → (Name × ℕ) ⊎ (FoldWord × Name) → Reduce
fold_to keys (inl x) = record { keys = keys; fold = folds.Sum; value = x.0; width = x.1 }
fold_to keys (inr x) = record { keys = keys; fold = x.0; value = x.1; width = 0 }

abbrev pub to_reduce : List Name × ((Name × ℕ) ⊎ (FoldWord × Name)) → Reduce
to_reduce x = fold_to x.0 x.1

abbrev pub fold_from : List Name → FoldWord → Name → ℕ → Option (List Name × ((Name × ℕ) ⊎ (FoldWord × Name)))
fold_from keys folds.Sum value width = Some (keys, inl (value, width))
fold_from keys folds.Max value zero = Some (keys, inr (folds.Max, value))
fold_from keys folds.Max value (suc width) = None
fold_from keys folds.Min value zero = Some (keys, inr (folds.Min, value))
fold_from keys folds.Min value (suc width) = None
fold_from keys folds.Or value zero = Some (keys, inr (folds.Or, value))
fold_from keys folds.Or value (suc width) = None

abbrev pub from_reduce : Reduce → Option (List Name × ((Name × ℕ) ⊎ (FoldWord × Name)))
from_reduce r = fold_from r.keys r.fold r.value r.width

-- reduce = "reduce" NAME { "," NAME } ":" fold
unfoldable pub reduce_rule : Rule Reduce
reduce_rule = keyword (codes "reduce") ▸ embedded to_reduce from_reduce (pair_on keys_rule (λ keys. sign COLON ▸ fold_rule keys) anything)

-- ---- operators

abbrev pub to_what : List Cond ⊎ (List MapCol ⊎ (Unit {0} ⊎ Reduce)) → What
to_what (inl conds) = whats.Filter conds
to_what (inr (inl cols)) = whats.Map cols
to_what (inr (inr (inl u))) = whats.Distinct
to_what (inr (inr (inr r))) = whats.Reduce r

abbrev pub from_what : What → List Cond ⊎ (List MapCol ⊎ (Unit {0} ⊎ Reduce))
from_what (whats.Filter conds) = inl conds
from_what (whats.Map cols) = inr (inl cols)
from_what whats.Distinct = inr (inr (inl tt))
from_what (whats.Reduce r) = inr (inr (inr r))

-- filter | map | "distinct" | reduce
unfoldable pub what_rule : Rule What
what_rule = renamed to_what from_what (either (is_word (codes "filter")) filter_rule (either (is_word (codes "map")) map_rule
    (either (is_word (codes "distinct")) (keyword (codes "distinct")) reduce_rule)))

abbrev pub to_op : ℕ × What → Op
to_op x = record { line = x.0; what = x.1 }

abbrev pub from_op : Op → ℕ × What
from_op o = (o.line, o.what)

-- op = "|" ( filter | map | "distinct" | reduce )
unfoldable pub op_rule : Rule Op
op_rule = renamed to_op from_op (pair (line_of_sign BAR) what_rule)

abbrev pub to_post_what : List Cond ⊎ List MapCol → What
to_post_what (inl conds) = whats.Filter conds
to_post_what (inr cols) = whats.Map cols

abbrev pub from_post_what : What → Option (List Cond ⊎ List MapCol)
from_post_what (whats.Filter conds) = Some (inl conds)
from_post_what (whats.Map cols) = Some (inr cols)
from_post_what whats.Distinct = None
from_post_what (whats.Reduce r) = None

-- filter | postmap
unfoldable pub post_what_rule : Rule What
post_what_rule = embedded to_post_what from_post_what (either (is_word (codes "filter")) filter_rule post_map_rule)

-- "|" ( filter | postmap )
unfoldable pub post_op_rule : Rule Op
post_op_rule = renamed to_op from_op (pair (line_of_sign BAR) post_what_rule)

-- ---- queries

abbrev pub to_refine : ℕ × (Name × List ℕ) → Refine
to_refine x = record { line = x.0; field = x.1.0; levels = x.1.1 }

abbrev pub from_refine : Refine → ℕ × (Name × List ℕ)
from_refine r = (r.line, (r.field, r.levels))

-- NUM { "," NUM }
unfoldable pub levels_rule : Rule (List ℕ)
levels_rule = commas 4 (past_number 0 128) (λ seen. number_in 0 128)

-- refine = "refine" NAME ":" NUM { "," NUM } ";"
unfoldable pub refine_rule : Rule Refine
refine_rule = renamed to_refine from_refine (pair (line_of_word (codes "refine")) (pair name (sign COLON ▸ (levels_rule ◂ sign SEMICOLON))))

abbrev pub to_branch : List Op → Branch
to_branch ops = record { ops = ops }

abbrev pub from_branch : Branch → List Op
from_branch b = b.ops

-- branch = "packets" op { op } ";"
unfoldable pub branch_rule : Rule Branch
branch_rule = renamed to_branch from_branch (keyword (codes "packets") ▸ (series op_rule (is_symbol BAR) (full 12 TooMany) (λ seen. op_rule) ◂ sign SEMICOLON))

abbrev pub to_join : ℕ × (List Name × List Op) → Join
to_join x = record { line = x.0; keys = x.1.0; post = x.1.1 }

abbrev pub from_join : Join → ℕ × (List Name × List Op)
from_join j = (j.line, (j.keys, j.post))

-- join = "join" NAME { "," NAME } { "|" ( filter | postmap ) } ";"
unfoldable pub join_rule : Rule Join
join_rule =
    renamed to_join from_join (pair (line_of_word (codes "join"))
    (pair keys_rule (many (is_symbol BAR) (full 12 TooMany) (λ seen. post_op_rule) ◂ sign SEMICOLON)))

-- branch [ branch join ]
abbrev pub Body : Type 0
Body = Branch × Option (Branch × Join)

-- [ branch join ] after the first branch
unfoldable pub body_rule : Rule Body
body_rule = pair branch_rule (maybe (is_word (codes "packets")) (pair branch_rule join_rule))

abbrev pub with_body : Name → Option Refine → Branch → Option (Branch × Join) → Query
with_body n r b None = record { name = n; refine = r; branches = b ∷ []; join = None }
with_body n r b (Some x) = record { name = n; refine = r; branches = b ∷ x.0 ∷ []; join = Some x.1 }

abbrev pub to_query : Name × (Option Refine × Body) → Query
to_query x = with_body x.0 x.1.0 x.1.1.0 x.1.1.1

abbrev pub body_of : List Branch → Option Join → Option Body
body_of (b ∷ []) None = Some (b, None)
body_of (b ∷ c ∷ []) (Some j) = Some (b, Some (c, j))
body_of _ _ = None

abbrev pub with_name : Name → Option Refine → Option Body → Option (Name × (Option Refine × Body))
with_name n r None = None
with_name n r (Some b) = Some (n, (r, b))

abbrev pub from_query : Query → Option (Name × (Option Refine × Body))
from_query q = with_name q.name q.refine (body_of q.branches q.join)

-- query = "query" NAME "{" [ refine ] branch [ branch join ] "}"
unfoldable pub query_rule : List Name → Rule Query
query_rule names =
    embedded to_query from_query (keyword (codes "query")
    ▸ pair (name_not names) (sign OPEN_BRACE ▸ (pair (maybe (is_word (codes "refine")) refine_rule) body_rule ◂ sign CLOSE_BRACE)))

abbrev pub query_name : Query → Name
query_name q = q.name

abbrev pub query_names : List Query → List Name
query_names qs = map query_name qs

abbrev pub to_file : ℕ × List Query → QueryFile
to_file x = record { window_us = x.0; queries = x.1 }

abbrev pub from_file : QueryFile → ℕ × List Query
from_file f = (f.window_us, f.queries)

-- file = "window" NUM query { query }
unfoldable pub file_rule : Rule QueryFile
file_rule = renamed to_file from_file (keyword (codes "window") ▸ pair (number_in 1 3600000000)
    (series (query_rule []) (is_word (codes "query")) (full 8 TooMany) (λ seen. query_rule (query_names seen)) ◂ the_end))
