-- What the productions of operators say of their values.
use Rattle.std.proofs.Common.{◌≡◌, ℕ, zero, suc, ◌<◌, ◌≤◌, ◌^◌, false, List, [], ◌∷◌, length, map, refl, sym, ap, subst, arith, inl, inr}
use Rattle.std.specs.List.{AllByRecursion, list_any}
use Rattle.sn_base.specs.Groups.{Apart, same_row}
use Rattle.sn_text_rules.specs.Rules.{kept}
use Rattle.sn_text_rules.specs.Words.{number_in}
use Rattle.sn_query_grammar.specs.declared.ast.Op.{Op}
use Rattle.sn_query_grammar.specs.declared.ast.What.{What}
use Rattle.sn_query_grammar.specs.declared.ast.What.TheVariants as what
use Rattle.sn_query_grammar.specs.declared.ast.Reduce.{Reduce}
use Rattle.sn_query_grammar.specs.declared.ast.FoldWord.{FoldWord}
use Rattle.sn_query_grammar.specs.declared.ast.FoldWord.TheVariants as fold
use Rattle.sn_query_grammar.specs.declared.ast.Cond.{Cond}
use Rattle.sn_query_grammar.specs.declared.ast.Relax.{Relax}
use Rattle.sn_query_grammar.specs.declared.ast.MapCol.{MapCol}
use Rattle.sn_query_grammar.specs.declared.ast.Expr.{Expr}
use Rattle.sn_query_grammar.specs.declared.ast.Expr.TheVariants.{Const, Copy, Mask, Shift, Sum, Ratio}
use Rattle.sn_query_grammar.specs.Names.{past_name, past_number, name_not}
use Rattle.sn_query_grammar.specs.Grammar.{Name, relax_rule, relaxes_rule, cond_rule, filter_rule, expr_rule, past_col, col_names, col_rule, map_rule, post_expr_rule, post_col_rule, post_map_rule, keys_rule, fold_rule, reduce_rule, what_rule, op_rule, post_what_rule, post_op_rule}
use Rattle.sn_query_grammar.specs.Limits.{Within, CondLimits, IsBranchExpr, IsPostExpr, FoldWidth, ReduceLimits, BranchOp, PostOp}
use Rattle.sn_text_rules.proofs.Items.{IsListOf, commas_list, items_are}
use Rattle.sn_query_grammar.proofs.ItemLimits.{counted, items_apart}
use Rattle.sn_query_grammar.proofs.TokenLimits.{number_within, name_unseen}

-- ---- filters

relax_keeps : (r : Relax) → relax_rule.fits kept r → r.level ≤ 128
unfolding relax_rule
relax_keeps r h = (number_within 0 128 r.level h.0).to_most

relaxes_keep : (rs : List Relax) → relaxes_rule.fits kept rs → (length rs ≤ 4) × AllByRecursion (λ r. r.level ≤ 128) rs
unfolding relaxes_rule
relaxes_keep [] h = (omega arith, tt)
relaxes_keep (r ∷ rs) h =
    let items : IsListOf 4 (λ seen. relax_rule) (r ∷ rs) = commas_list 4 (past_number 0 128) (λ seen. relax_rule) (r ∷ rs) (omega arith) h.1.1.0 in
    (items.count.1, items_are 4 (λ seen. relax_rule) (λ r. r.level ≤ 128) (r ∷ rs) (λ seen a f. relax_keeps a f) items.items)

cond_keeps : (c : Cond) → cond_rule.fits kept c → CondLimits c
unfolding cond_rule
cond_keeps c h = let k = relaxes_keep c.relaxed h.1.1.1.1 in record { count = k.0; levels = k.1 }

filter_keeps : (conds : List Cond) → filter_rule.fits kept conds → Within 1 8 (length conds) × AllByRecursion CondLimits conds
unfolding filter_rule
filter_keeps conds h =
    let items : IsListOf 8 (λ seen. cond_rule) conds = commas_list 8 past_name (λ seen. cond_rule) conds (omega arith) h.1 in
    (counted items, items_are 8 (λ seen. cond_rule) CondLimits conds (λ seen a f. cond_keeps a f) items.items)

-- ---- maps

shift_small : (k : ℕ) → (number_in 0 63).fits kept k → k < 64
shift_small k h = let most : k ≤ 63 = (number_within 0 63 k h).to_most in omega (arith, most)

constant_small : (n : ℕ) → (number_in 0 18446744073709551615).fits kept n → n < 2 ^ 64
constant_small n h = let most : n ≤ 18446744073709551615 = (number_within 0 18446744073709551615 n h).to_most in omega (arith, most)

expr_keeps : (e : Expr) → expr_rule.fits kept e → IsBranchExpr e
unfolding expr_rule
expr_keeps (Const n) h = constant_small n h
expr_keeps (Copy a) h = tt
expr_keeps (Mask a bits) h = tt
expr_keeps (Shift a k) h = shift_small k h.1.1
expr_keeps (Sum a b) h = h
expr_keeps (Ratio a k b) h = h

post_expr_keeps : (e : Expr) → post_expr_rule.fits kept e → IsPostExpr e
unfolding post_expr_rule
post_expr_keeps (Const n) h = constant_small n h
post_expr_keeps (Copy a) h = tt
post_expr_keeps (Mask a bits) h = tt
post_expr_keeps (Shift a k) h = shift_small k h.1.1
post_expr_keeps (Sum a b) h = tt
post_expr_keeps (Ratio a k b) h = tt

col_keeps : (seen : List Name) (c : MapCol) → (col_rule seen).fits kept c → IsBranchExpr c.expr × (list_any (same_row c.name) seen ≡ false)
unfolding col_rule
col_keeps seen c h = (expr_keeps c.expr h.0, name_unseen seen c.name h.1.1)

post_col_keeps : (seen : List Name) (c : MapCol) → (post_col_rule seen).fits kept c → IsPostExpr c.expr × (list_any (same_row c.name) seen ≡ false)
unfolding post_col_rule
post_col_keeps seen c h = (post_expr_keeps c.expr h.0, name_unseen seen c.name h.1.1)

map_keeps : (cols : List MapCol) → map_rule.fits kept cols → Within 1 8 (length cols) × Apart same_row (map (λ c. c.name) cols) × AllByRecursion (λ c. IsBranchExpr c.expr) cols
unfolding map_rule
map_keeps cols h =
    let items : IsListOf 8 (λ seen. col_rule (col_names seen)) cols = commas_list 8 past_col (λ seen. col_rule (col_names seen)) cols (omega arith) h.1 in (
      counted items,
      items_apart 8 (λ seen. col_rule (col_names seen)) (λ c. c.name) cols (λ seen a f. (col_keeps (col_names seen) a f).1) items.items,
      items_are 8 (λ seen. col_rule (col_names seen)) (λ c. IsBranchExpr c.expr) cols (λ seen a f. (col_keeps (col_names seen) a f).0) items.items,
    )

post_map_keeps : (cols : List MapCol) → post_map_rule.fits kept cols → Within 1 8 (length cols) × Apart same_row (map (λ c. c.name) cols) × AllByRecursion (λ c. IsPostExpr c.expr) cols
unfolding post_map_rule
post_map_keeps cols h =
    let items : IsListOf 8 (λ seen. post_col_rule (col_names seen)) cols = commas_list 8 past_col (λ seen. post_col_rule (col_names seen)) cols (omega arith) h.1 in (
      counted items,
      items_apart 8 (λ seen. post_col_rule (col_names seen)) (λ c. c.name) cols (λ seen a f. (post_col_keeps (col_names seen) a f).1) items.items,
      items_are 8 (λ seen. post_col_rule (col_names seen)) (λ c. IsPostExpr c.expr) cols (λ seen a f. (post_col_keeps (col_names seen) a f).0) items.items,
    )

-- ---- reduces

unmapped : (names : List Name) → map (λ n. n) names ≡ names
unmapped [] = refl
unmapped (n ∷ names) = ap (λ ns. n ∷ ns) (unmapped names)

pub keys_keep : (keys : List Name) → keys_rule.fits kept keys → Within 1 8 (length keys) × Apart same_row keys
unfolding keys_rule
keys_keep keys h =
    let items : IsListOf 8 (λ seen. name_not seen) keys = commas_list 8 past_name (λ seen. name_not seen) keys (omega arith) h in
    let fresh : (seen : List Name) (a : Name) → (name_not seen).fits kept a → list_any (same_row a) (map (λ n. n) seen) ≡ false =
    λ seen a f. subst (λ ns. list_any (same_row a) ns ≡ false) (sym (unmapped seen)) (name_unseen seen a f) in
    (counted items, subst (λ ns. Apart same_row ns) (unmapped keys) (items_apart 8 (λ seen. name_not seen) (λ n. n) keys fresh items.items))

-- the value's name is none of the keys
sum_keeps : (keys : List Name) (value : Name) (width : ℕ) → (fold_rule keys).fits kept (inl (value, width)) → (list_any (same_row value) keys ≡ false) × Within 1 64 width
unfolding fold_rule
sum_keeps keys value width h = (name_unseen keys value h.1.0.1.0, number_within 1 64 width h.1.1.1)

plain_keeps : (keys : List Name) (f : FoldWord) (value : Name) → (fold_rule keys).fits kept (inr (f, value)) → list_any (same_row value) keys ≡ false
unfolding fold_rule
plain_keeps keys f value h = name_unseen keys value h.1.1.0

reduction : (keys : List Name) (f : FoldWord) (value : Name) (width : ℕ) → keys_rule.fits kept keys → list_any (same_row value) keys ≡ false → FoldWidth f width
    → ReduceLimits (record { keys = keys; fold = f; value = value; width = width })
reduction keys f value width k fresh w = let parts = keys_keep keys k in record { count = parts.0; apart = parts.1; no_key = fresh; width = w }

reduce_parts : (keys : List Name) (f : FoldWord) (value : Name) (width : ℕ) → reduce_rule.fits kept (record { keys = keys; fold = f; value = value; width = width })
    → ReduceLimits (record { keys = keys; fold = f; value = value; width = width })
unfolding reduce_rule
reduce_parts keys fold.Sum value width h = let k = sum_keeps keys value width h.1.1.1 in reduction keys fold.Sum value width h.1.0 k.0 k.1
reduce_parts keys fold.Max value zero h = reduction keys fold.Max value zero h.1.0 (plain_keeps keys fold.Max value h.1.1.1) refl
reduce_parts keys fold.Max value (suc width) h = absurd h.1
reduce_parts keys fold.Min value zero h = reduction keys fold.Min value zero h.1.0 (plain_keeps keys fold.Min value h.1.1.1) refl
reduce_parts keys fold.Min value (suc width) h = absurd h.1
reduce_parts keys fold.Or value zero h = reduction keys fold.Or value zero h.1.0 (plain_keeps keys fold.Or value h.1.1.1) refl
reduce_parts keys fold.Or value (suc width) h = absurd h.1

reduce_keeps : (r : Reduce) → reduce_rule.fits kept r → ReduceLimits r
reduce_keeps r h = reduce_parts r.keys r.fold r.value r.width h

-- ---- operators

what_keeps : (w : What) → what_rule.fits kept w → BranchOp w
unfolding what_rule
what_keeps (what.Filter conds) h = filter_keeps conds h
what_keeps (what.Map cols) h = map_keeps cols h
what_keeps what.Distinct h = tt
what_keeps (what.Reduce r) h = reduce_keeps r h

pub op_keeps : (op : Op) → op_rule.fits kept op → BranchOp op.what
unfolding op_rule
op_keeps op h = what_keeps op.what h.1

post_what_keeps : (w : What) → post_what_rule.fits kept w → PostOp w
unfolding post_what_rule
post_what_keeps (what.Filter conds) h = filter_keeps conds h
post_what_keeps (what.Map cols) h = post_map_keeps cols h
post_what_keeps what.Distinct h = h
post_what_keeps (what.Reduce r) h = h

pub post_op_keeps : (op : Op) → post_op_rule.fits kept op → PostOp op.what
unfolding post_op_rule
post_op_keeps op h = post_what_keeps op.what h.1
