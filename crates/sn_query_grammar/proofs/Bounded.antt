-- A query text is read to its end or to a fault of four kinds.
use Rattle.std.proofs.Common.{◌≡◌, ℕ, Bool, true, false, cond, List, [], length, Some, None, refl}
use Rattle.std.specs.Prelude.{codes, nat_lt, nat_le, ◌==◌, ◌||◌, ◌&&◌}
use Rattle.std.specs.List.{list_any}
use Rattle.sn_text_rules.specs.declared.Flaw.{Flaw}
use Rattle.sn_text_rules.specs.declared.Flaw.TheVariants.{Expected, TooMany, Range, Twice, Missing}
use Rattle.sn_text_rules.specs.Tokens.{Lexeme, word, number, symbol, finish, bad}
use Rattle.sn_text_rules.specs.Rules.{anything}
use Rattle.sn_text_rules.specs.Words.{same, is_word, is_symbol, is_number, keyword, sign, number_in, ◌▸◌, ◌◂◌, any_number}
use Rattle.sn_text_rules.proofs.Bounded.{Flaws, Bounded, Whole, Allows, if_allows, full_allows, leaf_bounded, word_by_bounded, number_in_bounded, keyword_bounded, sign_bounded, line_of_word_bounded, line_of_sign_bounded, pair_on_bounded, pair_bounded, embedded_bounded, renamed_bounded, after_bounded, before_bounded, maybe_bounded, either_bounded, many_bounded, series_bounded, commas_bounded, the_end_whole, pair_whole, renamed_whole, after_whole, before_whole}
use Rattle.sn_query_grammar.specs.declared.ast.FoldWord.{FoldWord}
use Rattle.sn_query_grammar.specs.declared.ast.FoldWord.TheVariants as folds
use Rattle.sn_query_grammar.specs.Names.{is_keyword, name_test, name_not, name, past_name, past_number, cmp_face, cmp_in, any_cmp, comparison, fold_face, fold_in, no_sum, plain_fold}
use Rattle.sn_query_grammar.specs.Grammar.{Name, to_relax, from_relax, relax_rule, to_relaxes, from_relaxes, relaxes_rule, to_cond, from_cond, cond_rule, filter_rule, to_expr, from_expr, goes_tail, expr_rule, past_col, to_col, from_col, col_names, col_rule, map_rule, to_post_expr, from_post_expr, goes_post_tail, post_expr_rule, post_col_rule, post_map_rule, keys_rule, fold_rule, to_reduce, from_reduce, reduce_rule, to_what, from_what, what_rule, to_op, from_op, op_rule, to_post_what, from_post_what, post_what_rule, post_op_rule, to_refine, from_refine, levels_rule, refine_rule, to_branch, from_branch, branch_rule, to_join, from_join, join_rule, body_rule, to_query, from_query, query_rule, query_names, to_file, from_file, file_rule}
use Rattle.sn_query_grammar.proofs.Names.{comparisons_stand, folds_stand}
use Rattle.sn_query_grammar.proofs.Goods.{relax_listed, cond_listed, col_listed, post_col_listed}
use Rattle.sn_query_grammar.proofs.Queries.{keys_listed, levels_listed, ops_alike, post_ops_alike, queries_alike}

abbrev of_queries : Flaw → Bool
of_queries Range = false
of_queries Missing = false
of_queries _ = true

abbrev pub flaws : Flaws
flaws = record { ok = of_queries; lex = refl; expected = refl }

-- ---- single tokens

name_bounded : (seen : List Name) → Bounded flaws (name_not seen)
name_bounded seen = word_by_bounded flaws (name_test seen) (λ w. if_allows flaws (is_keyword w || (length w == 0)) (Some Expected) _ refl (if_allows flaws (nat_lt 32 (length w)) (Some TooMany) _ refl (if_allows flaws (list_any (same w) seen) (Some Twice) None refl tt)))

any_bounded : Bounded flaws any_number
any_bounded = number_in_bounded flaws 0 18446744073709551615

comparison_bounded : Bounded flaws comparison
comparison_bounded = leaf_bounded flaws cmp_face cmp_in any_cmp comparisons_stand (λ c. refl) (λ c. tt)

plain_fold_bounded : Bounded flaws plain_fold
plain_fold_bounded = leaf_bounded flaws fold_face fold_in no_sum folds_stand (λ f. refl) no_sum_allows
  where
    no_sum_allows : (f : FoldWord) → Allows flaws (no_sum f)
    no_sum_allows folds.Sum = refl
    no_sum_allows folds.Max = tt
    no_sum_allows folds.Min = tt
    no_sum_allows folds.Or = tt

-- a sign, and a number or a name after it
signed_any : (k : ℕ) → Bounded flaws (sign k ▸ any_number)
signed_any k = after_bounded (sign_bounded flaws k) any_bounded

signed_shift : Bounded flaws (sign 18 ▸ number_in 0 63)
signed_shift = after_bounded (sign_bounded flaws 18) (number_in_bounded flaws 0 63)

signed_name : (k : ℕ) → Bounded flaws (sign k ▸ name)
signed_name k = after_bounded (sign_bounded flaws k) (name_bounded [])

-- ---- past a limit

abbrev Ok : Flaw → Type 0
Ok x = of_queries x ≡ true

if_ok : (b : Bool) (x y : Flaw) → Ok x → Ok y → Ok (cond b x y)
if_ok true x y h k = h
if_ok false x y h k = k

past_name_ok : (x : Lexeme) → Ok (past_name x)
past_name_ok (word w) = if_ok (is_keyword w || (length w == 0)) Expected TooMany refl refl
past_name_ok (number n) = refl
past_name_ok (symbol k) = refl
past_name_ok finish = refl
past_name_ok bad = refl

past_number_ok : (low high : ℕ) (x : Lexeme) → Ok (past_number low high x)
past_number_ok low high (word w) = refl
past_number_ok low high (number n) = if_ok (nat_le low n && nat_le n high) TooMany Expected refl refl
past_number_ok low high (symbol k) = refl
past_number_ok low high finish = refl
past_number_ok low high bad = refl

past_col_ok : (x : Lexeme) → Ok (past_col x)
past_col_ok (word w) = past_name_ok (word w)
past_col_ok (number n) = past_number_ok 0 18446744073709551615 (number n)
past_col_ok (symbol k) = refl
past_col_ok finish = refl
past_col_ok bad = refl

-- ---- conditions

relax_bounded : Bounded flaws relax_rule
unfolding relax_rule
relax_bounded = renamed_bounded to_relax from_relax (pair_bounded (number_in_bounded flaws 0 128) (signed_any 7))

relaxes_bounded : Bounded flaws relaxes_rule
unfolding relaxes_rule
relaxes_bounded = embedded_bounded to_relaxes from_relaxes (maybe_bounded (is_word (codes "at")) (after_bounded (keyword_bounded flaws (codes "at")) (after_bounded (sign_bounded flaws 5)
    (before_bounded (commas_bounded 4 relax_listed (past_number_ok 0 128) (λ seen. relax_bounded)) (sign_bounded flaws 6)))))

cond_bounded : Bounded flaws cond_rule
unfolding cond_rule
cond_bounded = renamed_bounded to_cond from_cond (pair_bounded (name_bounded []) (pair_bounded (maybe_bounded (is_symbol 8) (signed_any 8)) (pair_bounded comparison_bounded (pair_bounded any_bounded relaxes_bounded))))

filter_bounded : Bounded flaws filter_rule
unfolding filter_rule
filter_bounded = after_bounded (keyword_bounded flaws (codes "filter")) (commas_bounded 8 cond_listed past_name_ok (λ seen. cond_bounded))

-- ---- maps

expr_bounded : Bounded flaws expr_rule
unfolding expr_rule
expr_bounded = embedded_bounded to_expr from_expr (either_bounded is_number any_bounded (pair_bounded (name_bounded []) (maybe_bounded goes_tail (either_bounded (is_symbol 8) (signed_any 8) signed_shift))))

as_bounded : (seen : List Name) → Bounded flaws (keyword (codes "as") ▸ name_not seen)
as_bounded seen = after_bounded (keyword_bounded flaws (codes "as")) (name_bounded seen)

col_bounded : (seen : List Name) → Bounded flaws (col_rule seen)
unfolding col_rule
col_bounded seen = renamed_bounded to_col from_col (pair_bounded expr_bounded (as_bounded seen))

map_bounded : Bounded flaws map_rule
unfolding map_rule
map_bounded = after_bounded (keyword_bounded flaws (codes "map")) (commas_bounded 8 col_listed past_col_ok (λ seen. col_bounded (col_names seen)))

post_expr_bounded : Bounded flaws post_expr_rule
unfolding post_expr_rule
post_expr_bounded = renamed_bounded to_post_expr from_post_expr (either_bounded is_number any_bounded (pair_bounded (name_bounded []) (maybe_bounded goes_post_tail
    (either_bounded (is_symbol 8) (signed_any 8) (either_bounded (is_symbol 18) signed_shift (either_bounded (is_symbol 9) (signed_name 9) (after_bounded (sign_bounded flaws 10) (pair_bounded any_bounded (signed_name 11)))))))))

post_col_bounded : (seen : List Name) → Bounded flaws (post_col_rule seen)
unfolding post_col_rule
post_col_bounded seen = renamed_bounded to_col from_col (pair_bounded post_expr_bounded (as_bounded seen))

post_map_bounded : Bounded flaws post_map_rule
unfolding post_map_rule
post_map_bounded = after_bounded (keyword_bounded flaws (codes "map")) (commas_bounded 8 post_col_listed past_col_ok (λ seen. post_col_bounded (col_names seen)))

-- ---- folds

keys_bounded : Bounded flaws keys_rule
unfolding keys_rule
keys_bounded = commas_bounded 8 keys_listed past_name_ok name_bounded

column_bounded : (keys : List Name) → Bounded flaws (sign 5 ▸ (name_not keys ◂ sign 6))
column_bounded keys = after_bounded (sign_bounded flaws 5) (before_bounded (name_bounded keys) (sign_bounded flaws 6))

fold_bounded : (keys : List Name) → Bounded flaws (fold_rule keys)
unfolding fold_rule
fold_bounded keys = either_bounded (is_word (codes "sum")) (after_bounded (keyword_bounded flaws (codes "sum")) (pair_bounded (column_bounded keys) (after_bounded (keyword_bounded flaws (codes "width")) (number_in_bounded flaws 1 64))))
    (pair_bounded plain_fold_bounded (column_bounded keys))

reduce_bounded : Bounded flaws reduce_rule
unfolding reduce_rule
reduce_bounded = after_bounded (keyword_bounded flaws (codes "reduce")) (embedded_bounded to_reduce from_reduce (pair_on_bounded anything keys_bounded (λ keys. after_bounded (sign_bounded flaws 7) (fold_bounded keys))))

-- ---- operators

what_bounded : Bounded flaws what_rule
unfolding what_rule
what_bounded = renamed_bounded to_what from_what (either_bounded (is_word (codes "filter")) filter_bounded (either_bounded (is_word (codes "map")) map_bounded (either_bounded (is_word (codes "distinct")) (keyword_bounded flaws (codes "distinct")) reduce_bounded)))

op_bounded : Bounded flaws op_rule
unfolding op_rule
op_bounded = renamed_bounded to_op from_op (pair_bounded (line_of_sign_bounded flaws 4) what_bounded)

post_op_bounded : Bounded flaws post_op_rule
unfolding post_op_rule post_what_rule
post_op_bounded = renamed_bounded to_op from_op (pair_bounded (line_of_sign_bounded flaws 4) (embedded_bounded to_post_what from_post_what (either_bounded (is_word (codes "filter")) filter_bounded post_map_bounded)))

-- ---- queries

refine_bounded : Bounded flaws refine_rule
unfolding refine_rule levels_rule
refine_bounded = renamed_bounded to_refine from_refine (pair_bounded (line_of_word_bounded flaws (codes "refine")) (pair_bounded (name_bounded [])
    (after_bounded (sign_bounded flaws 7) (before_bounded (commas_bounded 4 levels_listed (past_number_ok 0 128) (λ seen. number_in_bounded flaws 0 128)) (sign_bounded flaws 2)))))

branch_bounded : Bounded flaws branch_rule
unfolding branch_rule
branch_bounded = renamed_bounded to_branch from_branch (after_bounded (keyword_bounded flaws (codes "packets")) (before_bounded (series_bounded ops_alike (full_allows flaws 12 TooMany refl) (λ seen. op_bounded) op_bounded) (sign_bounded flaws 2)))

join_bounded : Bounded flaws join_rule
unfolding join_rule
join_bounded = renamed_bounded to_join from_join (pair_bounded (line_of_word_bounded flaws (codes "join")) (pair_bounded keys_bounded (before_bounded (many_bounded post_ops_alike (full_allows flaws 12 TooMany refl) (λ seen. post_op_bounded)) (sign_bounded flaws 2))))

body_bounded : Bounded flaws body_rule
unfolding body_rule
body_bounded = pair_bounded branch_bounded (maybe_bounded (is_word (codes "packets")) (pair_bounded branch_bounded join_bounded))

query_bounded : (names : List Name) → Bounded flaws (query_rule names)
unfolding query_rule
query_bounded names = embedded_bounded to_query from_query (after_bounded (keyword_bounded flaws (codes "query")) (pair_bounded (name_bounded names)
    (after_bounded (sign_bounded flaws 0) (before_bounded (pair_bounded (maybe_bounded (is_word (codes "refine")) refine_bounded) body_bounded) (sign_bounded flaws 1)))))

-- ---- the file

pub file_whole : Whole flaws file_rule
unfolding file_rule
file_whole = renamed_whole to_file from_file (after_whole (keyword_bounded flaws (codes "window")) (pair_whole (number_in_bounded flaws 1 3600000000)
    (before_whole (series_bounded queries_alike (full_allows flaws 8 TooMany refl) (λ seen. query_bounded (query_names seen)) (query_bounded [])) (the_end_whole flaws))))
