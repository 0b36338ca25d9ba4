-- Tokens of the query text that are read without a fault begin an accepted one.
use Rattle.std.proofs.Common.{◌≡◌, ◌≤◌, ◌<◌, List, [], length, map, None, refl, arith}
use Rattle.std.specs.Prelude.{codes}
use Rattle.std.proofs.lemmas.List.{length-map}
use Rattle.sn_text_rules.specs.declared.Flaw.TheVariants.{TooMany}
use Rattle.sn_text_rules.specs.Rules.{kept, anything}
use Rattle.sn_text_rules.specs.Words.{is_word, is_symbol, is_number, sign, ◌▸◌, ◌◂◌, full, any_number}
use Rattle.sn_text_rules.proofs.Choices.{maybe_good}
use Rattle.sn_text_rules.proofs.Words.{number_in_good, line_of_word_good, line_of_sign_good, after_word, after_sign, sign_starts, word_starts}
use Rattle.sn_text_rules.proofs.Items.{not_full, commas_list}
use Rattle.sn_text_rules.proofs.Starts.{Able, Starting, starting, pair_able, pair_on_able, embedded_able, renamed_able, maybe_able, either_able, keyword_able, sign_able, end_able, line_of_word_able, line_of_sign_able, leaf_able, number_in_able, before_able, after_word_able, after_sign_able, kept_steps, many_able, series_able, able_next, commas_able}
use Rattle.sn_query_grammar.specs.declared.ast.Query.{Query}
use Rattle.sn_query_grammar.specs.declared.ast.Cmp.TheVariants as cmps
use Rattle.sn_query_grammar.specs.declared.ast.FoldWord.TheVariants as folds
use Rattle.sn_query_grammar.specs.Names.{name, name_not, past_name, cmp_face, cmp_in, any_cmp, comparison, fold_face, fold_in, no_sum}
use Rattle.sn_query_grammar.specs.Grammar.{Name, to_relax, from_relax, relax_rule, to_relaxes, from_relaxes, relaxes_rule, to_cond, from_cond, cond_rule, filter_rule, to_expr, from_expr, goes_tail, expr_rule, to_col, from_col, col_name, col_names, col_rule, map_rule, to_post_expr, from_post_expr, goes_post_tail, post_expr_rule, post_col_rule, post_map_rule, keys_rule, fold_rule, to_reduce, from_reduce, reduce_rule, to_what, from_what, what_rule, to_op, from_op, op_rule, to_post_what, from_post_what, post_what_rule, post_op_rule, to_refine, from_refine, levels_rule, refine_rule, to_branch, from_branch, branch_rule, to_join, from_join, join_rule, body_rule, to_query, from_query, query_rule, query_name, query_names, to_file, from_file, file_rule}
use Rattle.sn_query_grammar.proofs.Names.{name_good, any_good, comparison_good, plain_fold_good}
use Rattle.sn_query_grammar.proofs.Goods.{relax_listed, relaxes_good_in, at_good, relaxes_undone, relaxes, cond_listed, mask_rule, shift_rule, expr_in_good, expr_undone, expr_good, col_listed, post_back, post_expr_good, post_col_listed}
use Rattle.sn_query_grammar.proofs.Queries.{keys_listed, keys_good, column_rule, column_good, folded_good, folded_undone, ops_alike, op_good, post_on_good, post_undone, post_ops_alike, levels_listed, levels_good, ops_rule, ops_good, branch_good, post_rule, post_good, joined_rule, refined_good, inner_rule, inner_good, named_good, query_undone, query_good, queries_alike, queries_rule, queries_good, what_back}
use Rattle.sn_query_grammar.proofs.Fresh.{name_able}

one_name : Able name
one_name = name_able [] (omega arith)

any_able : Able any_number
any_able = number_in_able 0 18446744073709551615 (omega arith)

mapped_few : {A : Type 0} (f : A → Name) (seen : List A) → length seen < 8 → length (map f seen) ≤ 31
mapped_few f seen h = omega (arith, length-map seen f)

-- ---- conditions

relax_able : Able relax_rule
unfolding relax_rule
relax_able = renamed_able to_relax from_relax (λ a. refl) (pair_able (number_in_good 0 128 (omega arith)) (number_in_able 0 128 (omega arith)) (after_sign_able 7 any_able))

relaxes_able : Able relaxes_rule
unfolding relaxes_rule
relaxes_able =
    let listed = commas_able 4 relax_listed relax_able (λ seen l. able_next relax_able) in
    let at = after_word_able (codes "at") (after_sign_able 5 (before_able relaxes_good_in listed (sign_able 6))) in
    embedded_able to_relaxes from_relaxes relaxes_undone (maybe_good (is_word (codes "at")) at_good (word_starts (codes "at") (sign 5 ▸ (relaxes ◂ sign 6)))) (maybe_able (is_word (codes "at")) at.keeps)

comparison_able : Able comparison
comparison_able = leaf_able cmp_face cmp_in any_cmp cmps.Eq refl

cond_able : Able cond_rule
unfolding cond_rule
cond_able =
    let own = pair_able any_good any_able relaxes_able in
    let test = pair_able comparison_good comparison_able own in
    let and = maybe_able (is_symbol 8) (after_sign_able 8 any_able).keeps in
    let and_good = maybe_good (is_symbol 8) (after_sign 8 any_good) (sign_starts 8 any_number) in
    renamed_able to_cond from_cond (λ a. refl) (pair_able (name_good []) one_name (pair_able and_good and test))

filter_able : Able filter_rule
unfolding filter_rule
filter_able = after_word_able (codes "filter") (commas_able 8 cond_listed cond_able (λ seen l. able_next cond_able))

-- ---- maps

mask_able : Able mask_rule
mask_able = after_sign_able 8 any_able

shift_able : Able shift_rule
shift_able = after_sign_able 18 (number_in_able 0 63 (omega arith))

expr_able : Able expr_rule
unfolding expr_rule
expr_able =
    let tail = maybe_able goes_tail (either_able (is_symbol 8) mask_able shift_able).keeps in
    embedded_able to_expr from_expr expr_undone expr_in_good (either_able is_number any_able (pair_able (name_good []) one_name tail))

col_able : (seen : List Name) → length seen ≤ 31 → Able (col_rule seen)
unfolding col_rule
col_able seen h = renamed_able to_col from_col (λ a. refl) (pair_able expr_good expr_able (after_word_able (codes "as") (name_able seen h)))

map_able : Able map_rule
unfolding map_rule
map_able = after_word_able (codes "map") (commas_able 8 col_listed (col_able [] (omega arith)) (λ seen l. able_next (col_able (col_names seen) (mapped_few col_name seen l))))

post_expr_able : Able post_expr_rule
unfolding post_expr_rule
post_expr_able =
    let ratio = after_sign_able 10 (pair_able any_good any_able (after_sign_able 11 one_name)) in
    let joined = either_able (is_symbol 9) (after_sign_able 9 one_name) ratio in
    let tail = either_able (is_symbol 8) mask_able (either_able (is_symbol 18) shift_able joined) in
    renamed_able to_post_expr from_post_expr post_back (either_able is_number any_able (pair_able (name_good []) one_name (maybe_able goes_post_tail tail.keeps)))

post_col_able : (seen : List Name) → length seen ≤ 31 → Able (post_col_rule seen)
unfolding post_col_rule
post_col_able seen h = renamed_able to_col from_col (λ a. refl) (pair_able post_expr_good post_expr_able (after_word_able (codes "as") (name_able seen h)))

post_map_able : Able post_map_rule
unfolding post_map_rule
post_map_able = after_word_able (codes "map") (commas_able 8 post_col_listed (post_col_able [] (omega arith)) (λ seen l. able_next (post_col_able (col_names seen) (mapped_few col_name seen l))))

-- ---- folds

keys_able : Able keys_rule
unfolding keys_rule
keys_able = commas_able 8 keys_listed one_name (λ seen l. able_next (name_able seen (omega (arith, l))))

keys_few : (keys : List Name) → keys_rule.fits kept keys → length keys ≤ 31
unfolding keys_rule
keys_few keys f = let k = (commas_list 8 past_name (λ seen. name_not seen) keys (omega arith) f).count in omega (arith, k.1)

column_able : (seen : List Name) → length seen ≤ 31 → Able (column_rule seen)
column_able seen h = after_sign_able 5 (before_able (name_good seen) (name_able seen h) (sign_able 6))

fold_able : (seen : List Name) → length seen ≤ 31 → Able (fold_rule seen)
unfolding fold_rule
fold_able seen h =
    let width = after_word_able (codes "width") (number_in_able 1 64 (omega arith)) in
    let sum = after_word_able (codes "sum") (pair_able (column_good seen) (column_able seen h) width) in
    either_able (is_word (codes "sum")) sum (pair_able plain_fold_good (leaf_able fold_face fold_in no_sum folds.Max refl) (column_able seen h))

reduce_able : Able reduce_rule
unfolding reduce_rule
reduce_able =
    let folded = pair_on_able anything keys_good keys_able (λ keys f. after_sign_able 7 (fold_able keys (keys_few keys f))) in
    after_word_able (codes "reduce") (embedded_able to_reduce from_reduce folded_undone folded_good folded)

-- ---- operators

what_able : Able what_rule
unfolding what_rule
what_able = renamed_able to_what from_what what_back (either_able (is_word (codes "filter")) filter_able (either_able (is_word (codes "map")) map_able (either_able (is_word (codes "distinct")) (keyword_able (codes "distinct")) reduce_able)))

op_able : Able op_rule
unfolding op_rule
op_able = renamed_able to_op from_op (λ a. refl) (pair_able (line_of_sign_good 4) (line_of_sign_able 4) what_able)

ops_able : Able ops_rule
ops_able = series_able ops_alike (λ seen e. kept_steps op_able.keeps) op_good op_able

post_what_able : Able post_what_rule
unfolding post_what_rule
post_what_able = embedded_able to_post_what from_post_what post_undone post_on_good (either_able (is_word (codes "filter")) filter_able post_map_able)

post_op_able : Able post_op_rule
unfolding post_op_rule
post_op_able = renamed_able to_op from_op (λ a. refl) (pair_able (line_of_sign_good 4) (line_of_sign_able 4) post_what_able)

post_able : Able post_rule
post_able = many_able post_ops_alike (λ seen e. kept_steps post_op_able.keeps)

-- ---- queries

levels_able : Able levels_rule
unfolding levels_rule
levels_able = let level = number_in_able 0 128 (omega arith) in commas_able 4 levels_listed level (λ seen l. able_next level)

refine_able : Able refine_rule
unfolding refine_rule
refine_able =
    let levels = after_sign_able 7 (before_able levels_good levels_able (sign_able 2)) in
    renamed_able to_refine from_refine (λ a. refl) (pair_able (line_of_word_good (codes "refine")) (line_of_word_able (codes "refine")) (pair_able (name_good []) one_name levels))

branch_able : Able branch_rule
unfolding branch_rule
branch_able = renamed_able to_branch from_branch (λ a. refl) (after_word_able (codes "packets") (before_able ops_good ops_able (sign_able 2)))

join_able : Able join_rule
unfolding join_rule
join_able =
    let rest = pair_able keys_good keys_able (before_able post_good post_able (sign_able 2)) in
    renamed_able to_join from_join (λ a. refl) (pair_able (line_of_word_good (codes "join")) (line_of_word_able (codes "join")) rest)

joined_able : Able joined_rule
joined_able = pair_able branch_good branch_able join_able

body_able : Able body_rule
unfolding body_rule
body_able = pair_able branch_good branch_able (maybe_able (is_word (codes "packets")) joined_able.keeps)

inner_able : Able inner_rule
inner_able = pair_able refined_good (maybe_able (is_word (codes "refine")) refine_able.keeps) body_able

query_able : (names : List Name) → length names ≤ 31 → Able (query_rule names)
unfolding query_rule
query_able names h =
    let named = pair_able (name_good names) (name_able names h) (after_sign_able 0 (before_able inner_good inner_able (sign_able 1))) in
    embedded_able to_query from_query (query_undone names) (after_word (codes "query") (named_good names)) (after_word_able (codes "query") named)

few_queries : (seen : List Query) → full 8 TooMany seen ≡ None → length (query_names seen) ≤ 31
few_queries seen e = mapped_few query_name seen (not_full 8 (length seen) TooMany e)

queries_able : Able queries_rule
queries_able = series_able queries_alike (λ seen e. kept_steps (query_able (query_names seen) (few_queries seen e)).keeps) (query_good []) (query_able [] (omega arith))

file_able : Able file_rule
unfolding file_rule
file_able = renamed_able to_file from_file (λ a. refl) (after_word_able (codes "window") (pair_able (number_in_good 1 3600000000 (omega arith)) (number_in_able 1 3600000000 (omega arith)) (before_able queries_good queries_able end_able)))

pub file_starts : Starting file_rule
file_starts = starting file_able
