-- The productions of folds, operators and queries keep the laws.
use Rattle.std.proofs.Common.{◌≡◌, ℕ, zero, suc, Bool, true, false, cond, List, [], ◌∷◌, ◌++◌, Option, Some, None, refl, sym, ap, subst, ◌∙◌, arith, inl, inr, ◌⊎◌}
use Rattle.std.specs.Prelude.{codes, not, ◌||◌, ◌==◌}
use Rattle.sn_text_rules.specs.declared.Flaw.TheVariants.{Expected, TooMany}
use Rattle.sn_text_rules.specs.Tokens.{Lexeme, word, number, symbol, finish, bad, Tok, Mark, plain, Spelled}
use Rattle.sn_text_rules.specs.Rules.{kept, aside, Rule, anything, pair, pair_on, maybe, either, many, series, holds_of, spelled_as, bared_as}
use Rattle.sn_text_rules.specs.Words.{is_word, is_symbol, keyword, sign, the_end, number_in, ◌▸◌, ◌◂◌, full, commas, after_comma}
use Rattle.sn_text_rules.proofs.Common.{Heads, either_way, bearers, bearers_spelled, heads_append, both_made}
use Rattle.std.proofs.lemmas.Bool.{eqb-true}
use Rattle.sn_text_rules.proofs.Laws.{Good, pair_on_good, Follows, pair_good, free_pair, headed_follows, headed_pair}
use Rattle.sn_text_rules.proofs.Choices.{Undoes, embedded_good, renamed_good, Starts, maybe_good, either_good}
use Rattle.sn_text_rules.proofs.Series.{Alike, many_good, series_good}
use Rattle.sn_text_rules.proofs.Words.{keyword_good, end_good, line_of_word_good, line_of_sign_good, number_in_good, word_mark, symbol_mark, before_good, before_sign, after_word, after_sign, word_starts, Listed, always_listed, commas_good}
use Rattle.sn_text_rules.proofs.Lists.{keyed, unmapped, full_steady, always_alike, commas_sign, open_follow}
use Rattle.sn_query_grammar.specs.declared.ast.Query.{Query}
use Rattle.sn_query_grammar.specs.declared.ast.Refine.{Refine}
use Rattle.sn_query_grammar.specs.declared.ast.Branch.{Branch}
use Rattle.sn_query_grammar.specs.declared.ast.Join.{Join}
use Rattle.sn_query_grammar.specs.declared.ast.Op.{Op}
use Rattle.sn_query_grammar.specs.declared.ast.What.{What}
use Rattle.sn_query_grammar.specs.declared.ast.What.TheVariants as whats
use Rattle.sn_query_grammar.specs.declared.ast.Reduce.{Reduce}
use Rattle.sn_query_grammar.specs.declared.ast.FoldWord.{FoldWord}
use Rattle.sn_query_grammar.specs.declared.ast.FoldWord.TheVariants as folds
use Rattle.sn_query_grammar.specs.declared.ast.Cond.{Cond}
use Rattle.sn_query_grammar.specs.declared.ast.MapCol.{MapCol}
use Rattle.sn_query_grammar.specs.Names.{name, name_not, past_name, past_number, fold_text, plain_fold}
use Rattle.sn_query_grammar.specs.Grammar.{Name, filter_rule, map_rule, post_map_rule, keys_rule, fold_rule, fold_to, to_reduce, fold_from, from_reduce, reduce_rule, to_what, from_what, what_rule, to_op, from_op, op_rule, to_post_what, from_post_what, post_what_rule, post_op_rule, to_refine, from_refine, levels_rule, refine_rule, to_branch, from_branch, branch_rule, to_join, from_join, join_rule, Body, body_rule, with_body, to_query, body_of, with_name, from_query, query_rule, query_name, query_names, to_file, from_file, file_rule}
use Rattle.sn_query_grammar.proofs.Names.{name_good, name_past, number_past, plain_fold_good}
use Rattle.sn_query_grammar.proofs.Goods.{filter_good, filter_end, map_good, map_end, post_map_good, post_map_end}

-- ---- keys and folds

pub keys_listed : Listed past_name (λ (seen : List Name). name_not seen)
keys_listed = record {
  good = λ seen. name_good seen;
  spells = λ seen a. refl;
  follows = λ seen us. refl;
  comma = λ t us e. refl;
  past = name_past [];
  bares = λ seen a. refl;
  steady = λ seen other e a f. subst (λ (names : List Name). (name_not names).fits kept a) (unmapped name.bare (λ b. refl) seen other e) f;
}

abbrev keys : Rule (List Name)
keys = commas 8 past_name (λ seen. name_not seen)

keys_good_in : Good keys
keys_good_in = commas_good 8 keys_listed

pub keys_good : Good keys_rule
unfolding keys_rule
keys_good = keys_good_in

keys_end : (k : ℕ) → (k == 3) ≡ false → (t : Tok) (us : List Tok) → t.face ≡ symbol k → keys_rule.follow (t ∷ us) ≡ true
unfolding keys_rule
keys_end k n t us e = commas_sign 8 past_name (λ seen. name_not seen) t us (ap (is_symbol 3) e ∙ n) refl

keys_same : (a b : List Name) → keys_rule.bare a ≡ keys_rule.bare b → a ≡ b
unfolding keys_rule
keys_same a b e = unmapped (after_comma 8 past_name (λ seen. name_not seen) []).bare (λ n. refl) a b e

abbrev pub column_rule : List Name → Rule Name
column_rule seen = sign 5 ▸ (name_not seen ◂ sign 6)

pub column_good : (seen : List Name) → Good (column_rule seen)
column_good seen = after_sign 5 (before_sign 6 (name_good seen) (λ t us e. refl))

abbrev pub width_rule : Rule ℕ
width_rule = keyword (codes "width") ▸ number_in 1 64

pub width_good : Good width_rule
width_good = after_word (codes "width") (number_in_good 1 64 (omega arith))

abbrev sum_rule : List Name → Rule (Name × ℕ)
sum_rule seen = keyword (codes "sum") ▸ pair (column_rule seen) width_rule

pub sum_good : (seen : List Name) → Good (sum_rule seen)
sum_good seen = after_word (codes "sum") (free_pair (column_good seen) width_good (λ us. refl))

abbrev plain_rule : List Name → Rule (FoldWord × Name)
plain_rule seen = pair plain_fold (column_rule seen)

pub plain_good : (seen : List Name) → Good (plain_rule seen)
plain_good seen = free_pair plain_fold_good (column_good seen) (λ us. refl)

abbrev not_sum : Lexeme → Bool
not_sum x = not (is_word (codes "sum") x)

fold_heads : (f : FoldWord) → plain_fold.fits aside f → not_sum (word (fold_text f)) ≡ true
fold_heads folds.Sum h = absurd cc
fold_heads folds.Max h = refl
fold_heads folds.Min h = refl
fold_heads folds.Or h = refl

pub fold_good : (seen : List Name) → Good (fold_rule seen)
unfolding fold_rule
fold_good seen = either_good (is_word (codes "sum")) (sum_good seen) (plain_good seen) (word_starts (codes "sum") (pair (column_rule seen) width_rule)) (record { heads = λ a f. fold_heads a.0 f.0 })

fold_free : (seen : List Name) (us : List Tok) → (fold_rule seen).follow us ≡ true
unfolding fold_rule
fold_free seen us = refl

abbrev pub folded_rule : Rule (List Name × ((Name × ℕ) ⊎ (FoldWord × Name)))
folded_rule = pair_on keys_rule (λ seen. sign 7 ▸ fold_rule seen) anything

steady_if_same : {A B : Type 0} (q : A → Rule B) (a c : A) (b : B) → a ≡ c → ((q a).spell b ≡ (q c).spell b) × ((q a).fits kept b → (q c).fits kept b) × ((q a).bare b ≡ (q c).bare b)
steady_if_same q a c b e = (ap (λ x. (q x).spell b) e, λ f. subst (λ x. (q x).fits kept b) e f, ap (λ x. (q x).bare b) e)

pub folded_good : Good folded_rule
folded_good = pair_on_good keys_good (λ seen. after_sign 7 (fold_good seen)) (record {
  meets = λ a front us b f s e. (headed_follows keys_rule (sign 7 ▸ fold_rule a) (is_symbol 7) (λ b f. refl) (λ t us e. keys_end 7 refl t us ((symbol_mark 7).only t.face e))).meets front us b f s (fold_free a us);
  ends = λ a us e. fold_free a us;
  steady = λ a c b e. steady_if_same (λ seen. sign 7 ▸ fold_rule seen) a c b (keys_same a c e);
})

back : (seen : List Name) (x : (Name × ℕ) ⊎ (FoldWord × Name)) → (fold_rule seen).fits aside x → from_reduce (fold_to seen x) ≡ Some (seen, x)
unfolding fold_rule
back seen (inl x) f = refl
back seen (inr (folds.Sum, v)) f = let h : Some Expected ≡ None = f.0 in absurd cc
back seen (inr (folds.Max, v)) f = refl
back seen (inr (folds.Min, v)) f = refl
back seen (inr (folds.Or, v)) f = refl

abbrev Folded : Type 0
Folded = List Name × ((Name × ℕ) ⊎ (FoldWord × Name))

abbrev reduction : List Name → FoldWord → Name → ℕ → Reduce
reduction seen f v w = record { keys = seen; fold = f; value = v; width = w }

forth : (seen : List Name) (f : FoldWord) (v : Name) (w : ℕ) (a : Folded) → fold_from seen f v w ≡ Some a → to_reduce a ≡ reduction seen f v w
forth seen folds.Sum v w a e = let h : (seen, inl (v, w)) ≡ a = cc in ap to_reduce (sym h)
forth seen folds.Max v zero a e = let h : (seen, inr (folds.Max, v)) ≡ a = cc in ap to_reduce (sym h)
forth seen folds.Max v (suc w) a e = absurd cc
forth seen folds.Min v zero a e = let h : (seen, inr (folds.Min, v)) ≡ a = cc in ap to_reduce (sym h)
forth seen folds.Min v (suc w) a e = absurd cc
forth seen folds.Or v zero a e = let h : (seen, inr (folds.Or, v)) ≡ a = cc in ap to_reduce (sym h)
forth seen folds.Or v (suc w) a e = absurd cc

pub folded_undone : Undoes to_reduce from_reduce folded_rule
unfolding fold_rule
folded_undone = record { back = λ a f. back a.0 a.1 f.1.1; forth = λ b a e. forth b.keys b.fold b.value b.width a e }

pub reduce_good : Good reduce_rule
unfolding reduce_rule
reduce_good = after_word (codes "reduce") (embedded_good to_reduce from_reduce folded_undone folded_good)

-- ---- operators

abbrev no_filter : Lexeme → Bool
no_filter x = not (is_word (codes "filter") x)

abbrev no_map : Lexeme → Bool
no_map x = not (is_word (codes "map") x)

abbrev no_distinct : Lexeme → Bool
no_distinct x = not (is_word (codes "distinct") x)

abbrev distinct_on : Rule (Unit {0} ⊎ Reduce)
distinct_on = either (is_word (codes "distinct")) (keyword (codes "distinct")) reduce_rule

abbrev map_on : Rule (List MapCol ⊎ (Unit {0} ⊎ Reduce))
map_on = either (is_word (codes "map")) map_rule distinct_on

abbrev filter_on : Rule (List Cond ⊎ (List MapCol ⊎ (Unit {0} ⊎ Reduce)))
filter_on = either (is_word (codes "filter")) filter_rule map_on

reduce_heads : (r : Reduce) → Heads (is_word (codes "reduce")) (reduce_rule.spell r)
unfolding reduce_rule
reduce_heads r = refl

map_heads : (x : List MapCol) → Heads (is_word (codes "map")) (map_rule.spell x)
unfolding map_rule
map_heads x = refl

filter_heads : (x : List Cond) → Heads (is_word (codes "filter")) (filter_rule.spell x)
unfolding filter_rule
filter_heads x = refl

post_map_heads : (x : List MapCol) → Heads (is_word (codes "map")) (post_map_rule.spell x)
unfolding post_map_rule
post_map_heads x = refl

-- a word that is this one is none of the others
other_head : (goes other : Lexeme → Bool) (ms : List Mark) → ((x : Lexeme) → goes x ≡ true → other x ≡ true) → Heads goes ms → Heads other ms
other_head goes other [] h k = absurd k
other_head goes other (m ∷ ms) h k = h m.face k

is_only : (text : List ℕ) (other : Lexeme → Bool) → other (word text) ≡ true → (x : Lexeme) → is_word text x ≡ true → other x ≡ true
is_only text other e x h = ap other ((word_mark text).only x h) ∙ e

distinct_on_good : Good distinct_on
distinct_on_good = either_good (is_word (codes "distinct")) (keyword_good (codes "distinct")) reduce_good (record { heads = λ a f. refl })
    (record { heads = λ a f. other_head (is_word (codes "reduce")) no_distinct (reduce_rule.spell a) (is_only (codes "reduce") no_distinct refl) (reduce_heads a) })

after_map : (x : Unit {0} ⊎ Reduce) → Heads no_map (distinct_on.spell x)
after_map (inl u) = refl
after_map (inr r) = other_head (is_word (codes "reduce")) no_map (reduce_rule.spell r) (is_only (codes "reduce") no_map refl) (reduce_heads r)

map_on_good : Good map_on
map_on_good = either_good (is_word (codes "map")) map_good distinct_on_good (record { heads = λ a f. map_heads a }) (record { heads = λ a f. after_map a })

after_filter : (x : List MapCol ⊎ (Unit {0} ⊎ Reduce)) → Heads no_filter (map_on.spell x)
after_filter (inl cols) = other_head (is_word (codes "map")) no_filter (map_rule.spell cols) (is_only (codes "map") no_filter refl) (map_heads cols)
after_filter (inr (inl u)) = refl
after_filter (inr (inr r)) = other_head (is_word (codes "reduce")) no_filter (reduce_rule.spell r) (is_only (codes "reduce") no_filter refl) (reduce_heads r)

filter_on_good : Good filter_on
filter_on_good = either_good (is_word (codes "filter")) filter_good map_on_good (record { heads = λ a f. filter_heads a }) (record { heads = λ a f. after_filter a })

pub what_back : (a : List Cond ⊎ (List MapCol ⊎ (Unit {0} ⊎ Reduce))) → from_what (to_what a) ≡ a
what_back (inl conds) = refl
what_back (inr (inl cols)) = refl
what_back (inr (inr (inl u))) = refl
what_back (inr (inr (inr r))) = refl

what_forth : (b : What) → to_what (from_what b) ≡ b
what_forth (whats.Filter conds) = refl
what_forth (whats.Map cols) = refl
what_forth whats.Distinct = refl
what_forth (whats.Reduce r) = refl

pub what_good : Good what_rule
unfolding what_rule
what_good = renamed_good to_what from_what what_back what_forth filter_on_good

reduce_free : (us : List Tok) → reduce_rule.follow us ≡ true
unfolding reduce_rule
reduce_free us = refl

what_end : (k : ℕ) → (k == 3) ≡ false → (t : Tok) (us : List Tok) → t.face ≡ symbol k → what_rule.follow (t ∷ us) ≡ true
unfolding what_rule
what_end k n t us e = both_made (filter_rule.follow (t ∷ us)) (map_on.follow (t ∷ us)) (filter_end k n t us e) (both_made (map_rule.follow (t ∷ us)) (distinct_on.follow (t ∷ us)) (map_end k n t us e) (reduce_free (t ∷ us)))

pub op_good : Good op_rule
unfolding op_rule
op_good = renamed_good to_op from_op (λ a. refl) (λ b. refl) (free_pair (line_of_sign_good 4) what_good (λ us. refl))

op_end : (k : ℕ) → (k == 3) ≡ false → (t : Tok) (us : List Tok) → t.face ≡ symbol k → op_rule.follow (t ∷ us) ≡ true
unfolding op_rule
op_end k n t us e = what_end k n t us e

op_opens : (t : Tok) → is_symbol 4 t.face ≡ true → (a : Op) × (more : List Tok) × op_rule.fits aside a × Spelled (t ∷ more) (op_rule.spell a)
unfolding op_rule
op_opens t e =
    let b = what_good.some in
    (to_op (t.line, b.0), bearers (what_rule.spell b.0), (tt, b.1), (((symbol_mark 4).only t.face e, refl), bearers_spelled (what_rule.spell b.0)))

op_heads : (a : Op) → Heads (is_symbol 4) (op_rule.spell a)
unfolding op_rule
op_heads a = refl

pub ops_alike : Alike (is_symbol 4) (full 12 TooMany) (λ (seen : List Op). op_rule)
ops_alike = always_alike (is_symbol 4) 12 TooMany op_good (λ t us e. op_end 4 refl t us ((symbol_mark 4).only t.face e)) (λ a f. op_heads a) op_opens

abbrev pub post_on : Rule (List Cond ⊎ List MapCol)
post_on = either (is_word (codes "filter")) filter_rule post_map_rule

pub post_on_good : Good post_on
post_on_good = either_good (is_word (codes "filter")) filter_good post_map_good (record { heads = λ a f. filter_heads a })
    (record { heads = λ a f. other_head (is_word (codes "map")) no_filter (post_map_rule.spell a) (is_only (codes "map") no_filter refl) (post_map_heads a) })

pub post_undone : Undoes to_post_what from_post_what post_on
post_undone = record { back = λ a f. there a; forth = again }
  where
    there : (a : List Cond ⊎ List MapCol) → from_post_what (to_post_what a) ≡ Some a
    there (inl conds) = refl
    there (inr cols) = refl

    again : (b : What) (a : List Cond ⊎ List MapCol) → from_post_what b ≡ Some a → to_post_what a ≡ b
    again (whats.Filter conds) a e = let h : inl conds ≡ a = cc in ap to_post_what (sym h)
    again (whats.Map cols) a e = let h : inr cols ≡ a = cc in ap to_post_what (sym h)
    again whats.Distinct a e = absurd cc
    again (whats.Reduce r) a e = absurd cc

pub post_what_good : Good post_what_rule
unfolding post_what_rule
post_what_good = embedded_good to_post_what from_post_what post_undone post_on_good

post_what_end : (k : ℕ) → (k == 3) ≡ false → (t : Tok) (us : List Tok) → t.face ≡ symbol k → post_what_rule.follow (t ∷ us) ≡ true
unfolding post_what_rule
post_what_end k n t us e = both_made (filter_rule.follow (t ∷ us)) (post_map_rule.follow (t ∷ us)) (filter_end k n t us e) (post_map_end k n t us e)

pub post_op_good : Good post_op_rule
unfolding post_op_rule
post_op_good = renamed_good to_op from_op (λ a. refl) (λ b. refl) (free_pair (line_of_sign_good 4) post_what_good (λ us. refl))

post_op_end : (k : ℕ) → (k == 3) ≡ false → (t : Tok) (us : List Tok) → t.face ≡ symbol k → post_op_rule.follow (t ∷ us) ≡ true
unfolding post_op_rule
post_op_end k n t us e = post_what_end k n t us e

post_op_opens : (t : Tok) → is_symbol 4 t.face ≡ true → (a : Op) × (more : List Tok) × post_op_rule.fits aside a × Spelled (t ∷ more) (post_op_rule.spell a)
unfolding post_op_rule
post_op_opens t e =
    let b = post_what_good.some in
    (to_op (t.line, b.0), bearers (post_what_rule.spell b.0), (tt, b.1), (((symbol_mark 4).only t.face e, refl), bearers_spelled (post_what_rule.spell b.0)))

post_op_heads : (a : Op) → Heads (is_symbol 4) (post_op_rule.spell a)
unfolding post_op_rule
post_op_heads a = refl

pub post_ops_alike : Alike (is_symbol 4) (full 12 TooMany) (λ (seen : List Op). post_op_rule)
post_ops_alike = always_alike (is_symbol 4) 12 TooMany post_op_good (λ t us e. post_op_end 4 refl t us ((symbol_mark 4).only t.face e)) (λ a f. post_op_heads a) post_op_opens

-- ---- refinement

pub levels_listed : Listed (past_number 0 128) (λ (seen : List ℕ). number_in 0 128)
levels_listed = always_listed (past_number 0 128) (number_in_good 0 128 (omega arith)) (λ t us e. refl) (number_past 0 128)

pub levels_good : Good levels_rule
unfolding levels_rule
levels_good = commas_good 4 levels_listed

levels_end : (k : ℕ) → (k == 3) ≡ false → (t : Tok) (us : List Tok) → t.face ≡ symbol k → levels_rule.follow (t ∷ us) ≡ true
unfolding levels_rule
levels_end k n t us e = commas_sign 4 (past_number 0 128) (λ seen. number_in 0 128) t us (ap (is_symbol 3) e ∙ n) refl

pub refine_good : Good refine_rule
unfolding refine_rule
refine_good =
    let levels = after_sign 7 (before_sign 2 levels_good (λ t us e. levels_end 2 refl t us e)) in
    let rest = free_pair (name_good []) levels (λ us. refl) in
    renamed_good to_refine from_refine (λ a. refl) (λ b. refl)
    (free_pair (line_of_word_good (codes "refine")) rest (λ us. refl))

refine_heads : (a : Refine) → Heads (is_word (codes "refine")) (refine_rule.spell a)
unfolding refine_rule
refine_heads a = refl

refine_free : (us : List Tok) → refine_rule.follow us ≡ true
unfolding refine_rule
refine_free us = refl

-- ---- branches and joins

abbrev pub ops_rule : Rule (List Op)
ops_rule = series op_rule (is_symbol 4) (full 12 TooMany) (λ seen. op_rule)

pub ops_good : Good ops_rule
ops_good = series_good ops_alike (record { good = op_good; marked = λ t us e. op_end 4 refl t us ((symbol_mark 4).only t.face e); bares = λ a. refl })

no_sign : (k j : ℕ) (t : Tok) → t.face ≡ symbol j → (j == k) ≡ false → not (is_symbol k t.face) ≡ true
no_sign k j t e n = ap (λ (x : Lexeme). not (is_symbol k x)) e ∙ ap not n

ops_end : (t : Tok) (us : List Tok) → t.face ≡ symbol 2 → ops_rule.follow (t ∷ us) ≡ true
ops_end t us e = open_follow (not (is_symbol 4 t.face)) (op_rule.follow (t ∷ us)) (op_rule.follow (t ∷ us)) (no_sign 4 2 t e refl) (op_end 2 refl t us e) (op_end 2 refl t us e)

pub branch_good : Good branch_rule
unfolding branch_rule
branch_good = renamed_good to_branch from_branch (λ a. refl) (λ b. refl) (after_word (codes "packets") (before_sign 2 ops_good ops_end))

branch_free : (us : List Tok) → branch_rule.follow us ≡ true
unfolding branch_rule
branch_free us = refl

branch_heads : (a : Branch) → Heads (is_word (codes "packets")) (branch_rule.spell a)
unfolding branch_rule
branch_heads a = refl

abbrev pub post_rule : Rule (List Op)
post_rule = many (is_symbol 4) (full 12 TooMany) (λ seen. post_op_rule)

pub post_good : Good post_rule
post_good = many_good post_ops_alike

post_end : (t : Tok) (us : List Tok) → t.face ≡ symbol 2 → post_rule.follow (t ∷ us) ≡ true
post_end t us e = both_made (not (is_symbol 4 t.face)) (post_op_rule.follow (t ∷ us)) (no_sign 4 2 t e refl) (post_op_end 2 refl t us e)

-- a list of operators, or its end
abbrev ends_keys : Lexeme → Bool
ends_keys x = is_symbol 4 x || is_symbol 2 x

post_heads : (x : List Op) → Heads ends_keys ((post_rule ◂ sign 2).spell x)
unfolding post_op_rule
post_heads [] = refl
post_heads (a ∷ x) = refl

second_true : (a b : Bool) → a ≡ false → (a || b) ≡ true → b ≡ true
second_true true b e h = absurd cc
second_true false b e h = h

ends_keys_at : (y : Lexeme) (t : Tok) (us : List Tok) → t.face ≡ y → ends_keys y ≡ true → keys_rule.follow (t ∷ us) ≡ true
ends_keys_at (word w) t us e h = absurd cc
ends_keys_at (number n) t us e h = absurd cc
ends_keys_at (symbol k) t us e h = keys_end k (not_comma (either_way (k == 4)) h) t us e
  where
    not_comma : ((k == 4) ≡ true) ⊎ ((k == 4) ≡ false) → ((k == 4) || (k == 2)) ≡ true → (k == 3) ≡ false
    not_comma (inl a) h = ap (λ (n : ℕ). n == 3) (eqb-true k 4 a)
    not_comma (inr a) h = ap (λ (n : ℕ). n == 3) (eqb-true k 2 (second_true (k == 4) (k == 2) a h))
ends_keys_at finish t us e h = absurd cc
ends_keys_at bad t us e h = absurd cc

pub join_good : Good join_rule
unfolding join_rule
join_good =
    let post = before_sign 2 post_good post_end in
    let rest = headed_pair ends_keys keys_good post (λ b f. post_heads b) (λ t us e. ends_keys_at t.face t us refl e) in
    renamed_good to_join from_join (λ a. refl) (λ b. refl)
    (free_pair (line_of_word_good (codes "join")) rest (λ us. refl))

join_free : (us : List Tok) → join_rule.follow us ≡ true
unfolding join_rule
join_free us = refl

-- ---- queries

abbrev pub joined_rule : Rule (Branch × Join)
joined_rule = pair branch_rule join_rule

pub joined_good : Good joined_rule
joined_good = free_pair branch_good join_good branch_free

joined_starts : Starts (is_word (codes "packets")) joined_rule
joined_starts = record { heads = λ a f. heads_append (is_word (codes "packets")) (branch_rule.spell a.0) (join_rule.spell a.1) (branch_heads a.0) }

pub body_good : Good body_rule
unfolding body_rule
body_good = free_pair branch_good (maybe_good (is_word (codes "packets")) joined_good joined_starts) branch_free

body_end : (t : Tok) (us : List Tok) → t.face ≡ symbol 1 → body_rule.follow (t ∷ us) ≡ true
unfolding body_rule
body_end t us e = both_made (not (is_word (codes "packets") t.face)) (join_rule.follow (t ∷ us)) (ap (λ (x : Lexeme). not (is_word (codes "packets") x)) e) (join_free (t ∷ us))

body_heads : (b : Body) → Heads (is_word (codes "packets")) (body_rule.spell b)
unfolding body_rule
body_heads b = heads_append (is_word (codes "packets")) (branch_rule.spell b.0) ((maybe (is_word (codes "packets")) joined_rule).spell b.1) (branch_heads b.0)

abbrev pub refined_rule : Rule (Option Refine)
refined_rule = maybe (is_word (codes "refine")) refine_rule

pub refined_good : Good refined_rule
refined_good = maybe_good (is_word (codes "refine")) refine_good (record { heads = λ a f. refine_heads a })

refined_follows : Follows refined_rule body_rule
refined_follows = headed_follows refined_rule body_rule (is_word (codes "packets")) (λ b f. body_heads b)
    (λ t us e. both_made (not (is_word (codes "refine") t.face)) (refine_rule.follow (t ∷ us)) (ap (λ (x : Lexeme). not (is_word (codes "refine") x)) ((word_mark (codes "packets")).only t.face e)) (refine_free (t ∷ us)))

abbrev pub inner_rule : Rule (Option Refine × Body)
inner_rule = pair refined_rule body_rule

pub inner_good : Good inner_rule
inner_good = pair_good refined_good body_good refined_follows

abbrev pub named_rule : List Name → Rule (Name × (Option Refine × Body))
named_rule names = pair (name_not names) (sign 0 ▸ (inner_rule ◂ sign 1))

pub named_good : (names : List Name) → Good (named_rule names)
named_good names = free_pair (name_good names) (after_sign 0 (before_sign 1 inner_good body_end)) (λ us. refl)

abbrev Named : Type 0
Named = Name × (Option Refine × Body)

query_back : (n : Name) (r : Option Refine) (b : Branch) (o : Option (Branch × Join)) → from_query (with_body n r b o) ≡ Some (n, (r, (b, o)))
query_back n r b None = refl
query_back n r b (Some x) = refl

abbrev query_with : Name → Option Refine → List Branch → Option Join → Query
query_with n r bs j = record { name = n; refine = r; branches = bs; join = j }

query_forth : (n : Name) (r : Option Refine) (bs : List Branch) (j : Option Join) (a : Named) → with_name n r (body_of bs j) ≡ Some a → to_query a ≡ query_with n r bs j
query_forth n r [] j a e = absurd cc
query_forth n r (b ∷ []) None a e = let h : (n, (r, (b, None))) ≡ a = cc in ap to_query (sym h)
query_forth n r (b ∷ []) (Some j) a e = absurd cc
query_forth n r (b ∷ c ∷ []) None a e = absurd cc
query_forth n r (b ∷ c ∷ []) (Some j) a e = let h : (n, (r, (b, Some (c, j)))) ≡ a = cc in ap to_query (sym h)
query_forth n r (b ∷ c ∷ d ∷ bs) None a e = absurd cc
query_forth n r (b ∷ c ∷ d ∷ bs) (Some j) a e = absurd cc

abbrev pub after_query : List Name → Rule Named
after_query names = keyword (codes "query") ▸ named_rule names

pub query_undone : (names : List Name) → Undoes to_query from_query (after_query names)
query_undone names = record { back = λ a f. query_back a.0 a.1.0 a.1.1.0 a.1.1.1; forth = λ b a e. query_forth b.name b.refine b.branches b.join a e }

pub query_good : (names : List Name) → Good (query_rule names)
unfolding query_rule
query_good names = embedded_good to_query from_query (query_undone names) (after_word (codes "query") (named_good names))

query_heads : (names : List Name) (q : Query) → (query_rule names).fits aside q → Heads (is_word (codes "query")) ((query_rule names).spell q)
unfolding query_rule
query_heads names q f = go (from_query q) f
  where
    go : (o : Option Named) → holds_of ((after_query names).fits aside) o → Heads (is_word (codes "query")) (spelled_as (after_query names).spell o)
    go None h = absurd h
    go (Some a) h = refl

query_opens : (names : List Name) (t : Tok) → is_word (codes "query") t.face ≡ true → (a : Query) × (more : List Tok) × (query_rule names).fits aside a × Spelled (t ∷ more) ((query_rule []).spell a)
unfolding query_rule
query_opens names t e =
    let b = (named_good names).some in
    let a = query_back b.0.0 b.0.1.0 b.0.1.1.0 b.0.1.1.1 in
    let ms = (named_rule names).spell b.0 in (
      to_query b.0,
      bearers ms,
      subst (λ o. holds_of ((after_query names).fits aside) o) (sym a) (tt, b.1),
      subst (λ o. Spelled (t ∷ bearers ms) (spelled_as (after_query []).spell o)) (sym a) (((word_mark (codes "query")).only t.face e, tt), bearers_spelled ms),
    )

query_name_bare : (q : Query) → query_name ((query_rule []).bare q) ≡ query_name q
unfolding query_rule body_rule
query_name_bare q = go q.name q.refine (body_of q.branches q.join) refl
  where
    go : (n : Name) (r : Option Refine) (b : Option Body) → q.name ≡ n → query_name (bared_as to_query (after_query []).bare q (with_name n r b)) ≡ q.name
    go n r None e = refl
    go n r (Some (b, None)) e = sym e
    go n r (Some (b, Some x)) e = sym e

query_free : (names : List Name) (us : List Tok) → (query_rule names).follow us ≡ true
unfolding query_rule
query_free names us = refl

pub queries_alike : Alike (is_word (codes "query")) (full 8 TooMany) (λ seen. query_rule (query_names seen))
unfolding query_rule
queries_alike = record {
  good = λ seen. query_good (query_names seen);
  spells = λ seen a. refl;
  follows = λ seen us. refl;
  marked = λ t us e. query_free [] (t ∷ us);
  heads = λ seen a f. query_heads (query_names seen) a f;
  opens = λ seen t e. query_opens (query_names seen) t e;
  bares = λ seen a. refl;
  steady = λ seen other e. (
    λ h. full_steady 8 TooMany (query_rule []).bare seen other e h,
    λ a f. subst (λ (names : List Name). (query_rule names).fits kept a) (keyed query_name (query_rule []).bare query_name_bare seen other e) f,
  );
}

-- ---- the file

abbrev pub queries_rule : Rule (List Query)
queries_rule = series (query_rule []) (is_word (codes "query")) (full 8 TooMany) (λ seen. query_rule (query_names seen))

pub queries_good : Good queries_rule
queries_good = series_good queries_alike (record { good = query_good []; marked = λ t us e. query_free [] (t ∷ us); bares = λ a. refl })

queries_end : (t : Tok) (us : List Tok) → t.face ≡ finish → queries_rule.follow (t ∷ us) ≡ true
queries_end t us e = open_follow (not (is_word (codes "query") t.face)) ((query_rule []).follow (t ∷ us)) ((query_rule []).follow (t ∷ us)) (ap (λ (x : Lexeme). not (is_word (codes "query") x)) e) (query_free [] (t ∷ us)) (query_free [] (t ∷ us))

end_follows : Follows queries_rule the_end
end_follows = record { meets = meets }
  where
    meets : (front us : List Tok) (b : Unit {0}) → Unit {0} → Spelled front (plain finish ∷ []) → true ≡ true → queries_rule.follow (front ++ us) ≡ true
    meets [] us b f s e = absurd s
    meets (t ∷ ts) us b f s e = queries_end t (ts ++ us) s.0.0

abbrev pub window_rule : Rule ℕ
window_rule = number_in 1 3600000000

pub file_good : Good file_rule
unfolding file_rule
file_good =
    let ended = before_good queries_good end_good end_follows in
    renamed_good to_file from_file (λ a. refl) (λ b. refl)
    (after_word (codes "window") (free_pair (number_in_good 1 3600000000 (omega arith)) ended (λ us. refl)))

pub file_ends : file_rule.follow [] ≡ true
unfolding file_rule
file_ends = refl
