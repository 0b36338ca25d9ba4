-- The productions of the query text keep the laws.
use Rattle.std.proofs.Common.{◌≡◌, ℕ, Bool, true, false, List, [], ◌∷◌, Option, Some, None, refl, sym, ap, subst, ◌∙◌, arith, inl, inr, ◌⊎◌}
use Rattle.std.specs.Prelude.{codes, not, ◌==◌}
use Rattle.sn_text_rules.specs.declared.Flaw.{Flaw}
use Rattle.sn_text_rules.specs.Tokens.{Lexeme, word, number, symbol, finish, bad, Tok, Spelled, got, fails, bind}
use Rattle.sn_text_rules.specs.Rules.{kept, aside, is_limit, Rule, pair, maybe, either}
use Rattle.sn_text_rules.specs.Words.{is_word, is_symbol, is_number, keyword, sign, number_in, ◌▸◌, ◌◂◌, commas, any_number}
use Rattle.sn_text_rules.proofs.Common.{Heads}
use Rattle.sn_text_rules.proofs.Laws.{Good, Follows, pair_good, free_pair, headed_follows, headed_pair}
use Rattle.sn_text_rules.proofs.Choices.{Undoes, embedded_good, renamed_good, maybe_good, either_good, Past}
use Rattle.sn_text_rules.proofs.Words.{number_in_good, word_mark, before_sign, after_word, after_sign, word_starts, sign_starts, Listed, always_listed, commas_good}
use Rattle.sn_text_rules.proofs.Lists.{pair_past, embedded_past, keyed, commas_sign}
use Rattle.sn_query_grammar.specs.declared.ast.Cond.{Cond}
use Rattle.sn_query_grammar.specs.declared.ast.Relax.{Relax}
use Rattle.sn_query_grammar.specs.declared.ast.Cmp.{Cmp}
use Rattle.sn_query_grammar.specs.declared.ast.Cmp.TheVariants as cmps
use Rattle.sn_query_grammar.specs.declared.ast.Expr.{Expr}
use Rattle.sn_query_grammar.specs.declared.ast.Expr.TheVariants as exprs
use Rattle.sn_query_grammar.specs.Names.{name, name_not, past_name, past_number, cmp_sign, comparison}
use Rattle.sn_query_grammar.specs.Grammar.{Name, to_relax, from_relax, relax_rule, to_relaxes, from_relaxes, relaxes_rule, to_cond, from_cond, cond_rule, filter_rule, Tail, to_expr, from_expr, goes_tail, expr_rule, past_col, to_col, from_col, col_name, col_names, col_rule, map_rule, PostTail, to_post_expr, from_post_expr, goes_post_tail, post_expr_rule, post_col_rule, post_map_rule}
use Rattle.sn_query_grammar.proofs.Names.{name_good, name_past, any_good, number_past, comparison_good}

-- ---- conditions

pub relax_good : Good relax_rule
unfolding relax_rule
relax_good = renamed_good to_relax from_relax (λ a. refl) (λ b. refl)
    (free_pair (number_in_good 0 128 (omega arith)) (after_sign 7 any_good) (λ us. refl))

relax_free : (t : Tok) (us : List Tok) → relax_rule.follow (t ∷ us) ≡ true
unfolding relax_rule
relax_free t us = refl

relax_past : Past (past_number 0 128) relax_rule
unfolding relax_rule
relax_past = embedded_past (past_number 0 128) to_relax (λ b. Some (from_relax b)) (record { back = λ a f. refl; forth = λ b a e. let h : from_relax b ≡ a = cc in ap to_relax (sym h) })
    (pair_past (past_number 0 128) (after_sign 7 any_good) (number_past 0 128))

pub relax_listed : Listed (past_number 0 128) (λ (seen : List Relax). relax_rule)
relax_listed = always_listed (past_number 0 128) relax_good (λ t us e. relax_free t us) relax_past

abbrev pub relaxes : Rule (List Relax)
relaxes = commas 4 (past_number 0 128) (λ seen. relax_rule)

pub relaxes_good_in : Good relaxes
relaxes_good_in = commas_good 4 relax_listed

relaxes_sign : (t : Tok) (us : List Tok) → t.face ≡ symbol 6 → relaxes.follow (t ∷ us) ≡ true
relaxes_sign t us e = commas_sign 4 (past_number 0 128) (λ seen. relax_rule) t us (ap (is_symbol 3) e) (relax_free t us)

abbrev pub at_rule : Rule (List Relax)
at_rule = keyword (codes "at") ▸ sign 5 ▸ (relaxes ◂ sign 6)

pub at_good : Good at_rule
at_good = after_word (codes "at") (after_sign 5 (before_sign 6 relaxes_good_in relaxes_sign))

pub relaxes_undone : Undoes to_relaxes from_relaxes (maybe (is_word (codes "at")) at_rule)
relaxes_undone = record { back = back; forth = forth }
  where
    back : (a : Option (List Relax)) → (maybe (is_word (codes "at")) at_rule).fits aside a → from_relaxes (to_relaxes a) ≡ Some a
    back None f = refl
    back (Some []) f = absurd f.1.1.0
    back (Some (r ∷ rs)) f = refl

    forth : (b : List Relax) (a : Option (List Relax)) → from_relaxes b ≡ Some a → to_relaxes a ≡ b
    forth [] a e = let h : None ≡ a = cc in ap to_relaxes (sym h)
    forth (r ∷ rs) a e = let h : Some (r ∷ rs) ≡ a = cc in ap to_relaxes (sym h)

pub relaxes_good : Good relaxes_rule
unfolding relaxes_rule
relaxes_good = embedded_good to_relaxes from_relaxes relaxes_undone
    (maybe_good (is_word (codes "at")) at_good (word_starts (codes "at") (sign 5 ▸ (relaxes ◂ sign 6))))

relaxes_end : (k : ℕ) (t : Tok) (us : List Tok) → t.face ≡ symbol k → relaxes_rule.follow (t ∷ us) ≡ true
unfolding relaxes_rule
relaxes_end k t us e = rw e refl

abbrev pub and_rule : Rule (Option ℕ)
and_rule = maybe (is_symbol 8) (sign 8 ▸ any_number)

abbrev pub own_rule : Rule (ℕ × List Relax)
own_rule = pair any_number relaxes_rule

abbrev pub test_rule : Rule (Cmp × (ℕ × List Relax))
test_rule = pair comparison own_rule

abbrev no_and : Lexeme → Bool
no_and x = not (is_symbol 8 x)

cmp_heads : (c : Cmp) → no_and (symbol (cmp_sign c)) ≡ true
cmp_heads cmps.Eq = refl
cmp_heads cmps.Ne = refl
cmp_heads cmps.Lt = refl
cmp_heads cmps.Le = refl
cmp_heads cmps.Gt = refl
cmp_heads cmps.Ge = refl

and_free : (t : Tok) (us : List Tok) → no_and t.face ≡ true → and_rule.follow (t ∷ us) ≡ true
and_free t us e = rw e refl

pub cond_good : Good cond_rule
unfolding cond_rule
cond_good =
    let own = free_pair any_good relaxes_good (λ us. refl) in
    let test = free_pair comparison_good own (λ us. refl) in
    let and = maybe_good (is_symbol 8) (after_sign 8 any_good) (sign_starts 8 any_number) in
    let tail = headed_pair no_and and test (λ b f. cmp_heads b.0) and_free in
    renamed_good to_cond from_cond (λ a. refl) (λ b. refl) (free_pair (name_good []) tail (λ us. refl))

pub cond_end : (k : ℕ) (t : Tok) (us : List Tok) → t.face ≡ symbol k → cond_rule.follow (t ∷ us) ≡ true
unfolding cond_rule
cond_end k t us e = relaxes_end k t us e

cond_past : Past past_name cond_rule
unfolding cond_rule
cond_past =
    let own = free_pair any_good relaxes_good (λ us. refl) in
    let test = free_pair comparison_good own (λ us. refl) in
    let and = maybe_good (is_symbol 8) (after_sign 8 any_good) (sign_starts 8 any_number) in
    let tail = headed_pair no_and and test (λ b f. cmp_heads b.0) and_free in
    embedded_past past_name to_cond (λ b. Some (from_cond b)) (record { back = λ a f. refl; forth = λ b a e. let h : from_cond b ≡ a = cc in ap to_cond (sym h) })
    (pair_past past_name tail (name_past []))

pub cond_listed : Listed past_name (λ (seen : List Cond). cond_rule)
cond_listed = always_listed past_name cond_good (λ t us e. cond_end 3 t us e) cond_past

pub filter_good : Good filter_rule
unfolding filter_rule
filter_good = after_word (codes "filter") (commas_good 8 cond_listed)

pub filter_end : (k : ℕ) → (k == 3) ≡ false → (t : Tok) (us : List Tok) → t.face ≡ symbol k → filter_rule.follow (t ∷ us) ≡ true
unfolding filter_rule
filter_end k n t us e = commas_sign 8 past_name (λ seen. cond_rule) t us (ap (is_symbol 3) e ∙ n) (cond_end k t us e)

-- ---- maps

abbrev pub mask_rule : Rule ℕ
mask_rule = sign 8 ▸ any_number

abbrev pub shift_rule : Rule ℕ
shift_rule = sign 18 ▸ number_in 0 63

abbrev pub tail_rule : Rule Tail
tail_rule = maybe goes_tail (either (is_symbol 8) mask_rule shift_rule)

pub shift_good : Good shift_rule
shift_good = after_sign 18 (number_in_good 0 63 (omega arith))

pub mask_good : Good mask_rule
mask_good = after_sign 8 any_good

tail_good : Good tail_rule
tail_good = maybe_good goes_tail (either_good (is_symbol 8) mask_good shift_good (sign_starts 8 any_number) (record { heads = λ a f. refl })) (record { heads = heads })
  where
    heads : (a : ℕ ⊎ ℕ) → (either (is_symbol 8) mask_rule shift_rule).fits aside a → Heads goes_tail ((either (is_symbol 8) mask_rule shift_rule).spell a)
    heads (inl k) f = refl
    heads (inr k) f = refl

abbrev no_number : Lexeme → Bool
no_number x = not (is_number x)

abbrev pub copied_rule : Rule (Name × Tail)
copied_rule = pair name tail_rule

pub copied_good : Good copied_rule
copied_good = free_pair (name_good []) tail_good (λ us. refl)

abbrev pub expr_in : Rule (ℕ ⊎ (Name × Tail))
expr_in = either is_number any_number copied_rule

pub expr_in_good : Good expr_in
expr_in_good = either_good is_number any_good copied_good (record { heads = λ a f. refl }) (record { heads = λ a f. refl })

pub expr_undone : Undoes to_expr from_expr expr_in
expr_undone = record { back = back; forth = forth }
  where
    back : (a : ℕ ⊎ (Name × Tail)) → expr_in.fits aside a → from_expr (to_expr a) ≡ Some a
    back (inl k) f = refl
    back (inr (n, None)) f = refl
    back (inr (n, Some (inl k))) f = refl
    back (inr (n, Some (inr k))) f = refl

    forth : (b : Expr) (a : ℕ ⊎ (Name × Tail)) → from_expr b ≡ Some a → to_expr a ≡ b
    forth (exprs.Const k) a e = let h : inl k ≡ a = cc in ap to_expr (sym h)
    forth (exprs.Copy n) a e = let h : inr (n, None) ≡ a = cc in ap to_expr (sym h)
    forth (exprs.Mask n k) a e = let h : inr (n, Some (inl k)) ≡ a = cc in ap to_expr (sym h)
    forth (exprs.Shift n k) a e = let h : inr (n, Some (inr k)) ≡ a = cc in ap to_expr (sym h)
    forth (exprs.Sum n k) a e = absurd cc
    forth (exprs.Ratio n k m) a e = absurd cc

pub expr_good : Good expr_rule
unfolding expr_rule
expr_good = embedded_good to_expr from_expr expr_undone expr_in_good

-- a number or a name begins a column
module _ {A : Type 0} (q : Rule A) (w : Past past_name q) where
  abbrev most : ℕ
  most = 18446744073709551615

  abbrev W : Rule (ℕ ⊎ A)
  W = either is_number any_number q

  on_number : (t : Tok) (ts : List Tok) → is_number t.face ≡ true → W.read aside (t ∷ ts) ≡ bind (any_number.read aside (t ∷ ts)) (λ a us. got (inl a) us)
  on_number t ts h = rw h refl

  on_other : (t : Tok) (ts : List Tok) → is_number t.face ≡ false → W.read aside (t ∷ ts) ≡ bind (q.read aside (t ∷ ts)) (λ a us. got (inr a) us)
  on_other t ts h = rw h refl

  other_no_item : (y : Lexeme) (t : Tok) (ts : List Tok) → t.face ≡ y → is_number y ≡ false → past_col y ≡ past_name y → is_limit (past_col y) ≡ false → W.read aside (t ∷ ts) ≡ fails (past_col y) (t ∷ ts)
  other_no_item y t ts e m c n =
      on_other t ts (ap is_number e ∙ m)
      ∙ rw (w.no_item t ts (ap (λ (x : Lexeme). is_limit (past_name x)) e ∙ ap is_limit (sym c) ∙ n)) (ap (λ (x : Flaw). fails x (t ∷ ts)) (ap past_name e ∙ sym c))

  col_no_item : (y : Lexeme) (t : Tok) (ts : List Tok) → t.face ≡ y → is_limit (past_col y) ≡ false → W.read aside (t ∷ ts) ≡ fails (past_col y) (t ∷ ts)
  col_no_item (word b) t ts e n = other_no_item (word b) t ts e refl refl n
  col_no_item (number m) t ts e n =
      on_number t ts (ap is_number e)
      ∙ rw ((number_past 0 most).no_item t ts (ap (λ (x : Lexeme). is_limit (past_number 0 most x)) e ∙ n)) (ap (λ (x : Lexeme). fails (past_number 0 most x) (t ∷ ts)) e)
  col_no_item (symbol k) t ts e n = other_no_item (symbol k) t ts e refl refl n
  col_no_item finish t ts e n = other_no_item finish t ts e refl refl n
  col_no_item bad t ts e n = other_no_item bad t ts e refl refl n

  abbrev An_item : Tok → Type 0
  An_item t = (a : ℕ ⊎ A) × (more : List Tok) × W.fits aside a × Spelled (t ∷ more) (W.spell a)

  other_item : (y : Lexeme) (t : Tok) → t.face ≡ y → past_col y ≡ past_name y → is_limit (past_col y) ≡ true → An_item t
  other_item y t e c n = let k = w.item t (ap (λ (x : Lexeme). is_limit (past_name x)) e ∙ ap is_limit (sym c) ∙ n) in (inr k.0, k.1, k.2, k.3)

  col_item : (y : Lexeme) (t : Tok) → t.face ≡ y → is_limit (past_col y) ≡ true → An_item t
  col_item (word b) t e n = other_item (word b) t e refl n
  col_item (number m) t e n = let k = (number_past 0 most).item t (ap (λ (x : Lexeme). is_limit (past_number 0 most x)) e ∙ n) in (inl k.0, k.1, k.2, k.3)
  col_item (symbol k) t e n = other_item (symbol k) t e refl n
  col_item finish t e n = other_item finish t e refl n
  col_item bad t e n = other_item bad t e refl n

  numbered_past : Past past_col (either is_number any_number q)
  numbered_past = record { no_item = λ t ts n. col_no_item t.face t ts refl n; item = λ t n. col_item t.face t refl n }

expr_past : Past past_col expr_rule
unfolding expr_rule
expr_past = embedded_past past_col to_expr from_expr expr_undone (numbered_past copied_rule (pair_past past_name tail_good (name_past [])))

tail_end : (t : Tok) (us : List Tok) → goes_tail t.face ≡ false → tail_rule.follow (t ∷ us) ≡ true
tail_end t us e = rw e refl

expr_end : (t : Tok) (us : List Tok) → goes_tail t.face ≡ false → expr_rule.follow (t ∷ us) ≡ true
unfolding expr_rule
expr_end t us e = rw e refl

-- "as" after what a column holds
abbrev pub as_rule : List Name → Rule Name
as_rule seen = keyword (codes "as") ▸ name_not seen

as_good : (seen : List Name) → Good (as_rule seen)
as_good seen = after_word (codes "as") (name_good seen)

as_follows : (p : Rule Expr) (seen : List Name) → ((t : Tok) (us : List Tok) → t.face ≡ word (codes "as") → p.follow (t ∷ us) ≡ true) → Follows p (as_rule seen)
as_follows p seen h = headed_follows p (as_rule seen) (is_word (codes "as")) (λ b f. refl) (λ t us e. h t us ((word_mark (codes "as")).only t.face e))

col_undone : (p : Rule (Expr × Name)) → Undoes to_col (λ b. Some (from_col b)) p
col_undone p = record { back = λ a f. refl; forth = λ b a e. let h : from_col b ≡ a = cc in ap to_col (sym h) }

pub col_good : (seen : List Name) → Good (col_rule seen)
unfolding col_rule
col_good seen = renamed_good to_col from_col (λ a. refl) (λ b. refl)
    (pair_good expr_good (as_good seen) (as_follows expr_rule seen (λ t us e. expr_end t us (ap goes_tail e))))

col_past : Past past_col (col_rule [])
unfolding col_rule
col_past = embedded_past past_col to_col (λ b. Some (from_col b)) (col_undone (pair expr_rule (as_rule []))) (pair_past past_col (as_good []) expr_past)

pub col_listed : Listed past_col (λ seen. col_rule (col_names seen))
unfolding col_rule
col_listed = record {
  good = λ seen. col_good (col_names seen);
  spells = λ seen a. refl;
  follows = λ seen us. refl;
  comma = λ t us e. refl;
  past = col_past;
  bares = λ seen a. refl;
  steady = λ seen other e a f. subst (λ (names : List Name). (col_rule names).fits kept a) (keyed col_name (col_rule []).bare (λ b. refl) seen other e) f;
}

pub map_good : Good map_rule
unfolding map_rule
map_good = after_word (codes "map") (commas_good 8 col_listed)

col_free : (t : Tok) (us : List Tok) → (col_rule []).follow (t ∷ us) ≡ true
unfolding col_rule
col_free t us = refl

pub map_end : (k : ℕ) → (k == 3) ≡ false → (t : Tok) (us : List Tok) → t.face ≡ symbol k → map_rule.follow (t ∷ us) ≡ true
unfolding map_rule
map_end k n t us e = commas_sign 8 past_col (λ seen. col_rule (col_names seen)) t us (ap (is_symbol 3) e ∙ n) (col_free t us)

-- ---- maps after a join

abbrev sum_tail : Rule Name
sum_tail = sign 9 ▸ name

abbrev ratio_tail : Rule (ℕ × Name)
ratio_tail = sign 10 ▸ pair any_number (sign 11 ▸ name)

abbrev pub join_tail : Rule (Name ⊎ (ℕ × Name))
join_tail = either (is_symbol 9) sum_tail ratio_tail

abbrev pub shift_on : Rule (ℕ ⊎ (Name ⊎ (ℕ × Name)))
shift_on = either (is_symbol 18) shift_rule join_tail

abbrev pub mask_on : Rule (ℕ ⊎ (ℕ ⊎ (Name ⊎ (ℕ × Name))))
mask_on = either (is_symbol 8) mask_rule shift_on

abbrev pub post_tail : Rule PostTail
post_tail = maybe goes_post_tail mask_on

pub ratio_good : Good ratio_tail
ratio_good = after_sign 10 (free_pair any_good (after_sign 11 (name_good [])) (λ us. refl))

join_tail_good : Good join_tail
join_tail_good = either_good (is_symbol 9) (after_sign 9 (name_good [])) ratio_good (sign_starts 9 name) (record { heads = λ a f. refl })

join_heads : (a : Name ⊎ (ℕ × Name)) → Heads (λ x. not (is_symbol 18 x)) (join_tail.spell a)
join_heads (inl a) = refl
join_heads (inr a) = refl

shift_on_good : Good shift_on
shift_on_good = either_good (is_symbol 18) shift_good join_tail_good (sign_starts 18 (number_in 0 63)) (record { heads = λ a f. join_heads a })

shift_heads : (a : ℕ ⊎ (Name ⊎ (ℕ × Name))) → Heads (λ x. not (is_symbol 8 x)) (shift_on.spell a)
shift_heads (inl a) = refl
shift_heads (inr (inl a)) = refl
shift_heads (inr (inr a)) = refl

mask_on_good : Good mask_on
mask_on_good = either_good (is_symbol 8) mask_good shift_on_good (sign_starts 8 any_number) (record { heads = λ a f. shift_heads a })

mask_heads : (a : ℕ ⊎ (ℕ ⊎ (Name ⊎ (ℕ × Name)))) → Heads goes_post_tail (mask_on.spell a)
mask_heads (inl a) = refl
mask_heads (inr (inl a)) = refl
mask_heads (inr (inr (inl a))) = refl
mask_heads (inr (inr (inr a))) = refl

post_tail_good : Good post_tail
post_tail_good = maybe_good goes_post_tail mask_on_good (record { heads = λ a f. mask_heads a })

abbrev pub post_copied : Rule (Name × PostTail)
post_copied = pair name post_tail

post_copied_good : Good post_copied
post_copied_good = free_pair (name_good []) post_tail_good (λ us. refl)

abbrev pub post_expr_in : Rule (ℕ ⊎ (Name × PostTail))
post_expr_in = either is_number any_number post_copied

post_expr_in_good : Good post_expr_in
post_expr_in_good = either_good is_number any_good post_copied_good (record { heads = λ a f. refl }) (record { heads = λ a f. refl })

pub post_back : (a : ℕ ⊎ (Name × PostTail)) → from_post_expr (to_post_expr a) ≡ a
post_back (inl k) = refl
post_back (inr (n, None)) = refl
post_back (inr (n, Some (inl k))) = refl
post_back (inr (n, Some (inr (inl k)))) = refl
post_back (inr (n, Some (inr (inr (inl b))))) = refl
post_back (inr (n, Some (inr (inr (inr x))))) = refl

post_forth : (b : Expr) → to_post_expr (from_post_expr b) ≡ b
post_forth (exprs.Const k) = refl
post_forth (exprs.Copy n) = refl
post_forth (exprs.Mask n k) = refl
post_forth (exprs.Shift n k) = refl
post_forth (exprs.Sum n k) = refl
post_forth (exprs.Ratio n k m) = refl

pub post_expr_good : Good post_expr_rule
unfolding post_expr_rule
post_expr_good = renamed_good to_post_expr from_post_expr post_back post_forth post_expr_in_good

post_expr_past : Past past_col post_expr_rule
unfolding post_expr_rule
post_expr_past = embedded_past past_col to_post_expr (λ b. Some (from_post_expr b)) (record { back = λ a f. ap (λ (x : ℕ ⊎ (Name × PostTail)). Some x) (post_back a); forth = λ b a e. let h : from_post_expr b ≡ a = cc in ap to_post_expr (sym h) ∙ post_forth b })
    (numbered_past post_copied (pair_past past_name post_tail_good (name_past [])))

post_expr_end : (t : Tok) (us : List Tok) → goes_post_tail t.face ≡ false → post_expr_rule.follow (t ∷ us) ≡ true
unfolding post_expr_rule
post_expr_end t us e = rw e refl

pub post_col_good : (seen : List Name) → Good (post_col_rule seen)
unfolding post_col_rule
post_col_good seen = renamed_good to_col from_col (λ a. refl) (λ b. refl)
    (pair_good post_expr_good (as_good seen) (as_follows post_expr_rule seen (λ t us e. post_expr_end t us (ap goes_post_tail e))))

post_col_past : Past past_col (post_col_rule [])
unfolding post_col_rule
post_col_past = embedded_past past_col to_col (λ b. Some (from_col b)) (col_undone (pair post_expr_rule (as_rule []))) (pair_past past_col (as_good []) post_expr_past)

pub post_col_listed : Listed past_col (λ seen. post_col_rule (col_names seen))
unfolding post_col_rule
post_col_listed = record {
  good = λ seen. post_col_good (col_names seen);
  spells = λ seen a. refl;
  follows = λ seen us. refl;
  comma = λ t us e. refl;
  past = post_col_past;
  bares = λ seen a. refl;
  steady = λ seen other e a f. subst (λ (names : List Name). (post_col_rule names).fits kept a) (keyed col_name (post_col_rule []).bare (λ b. refl) seen other e) f;
}

pub post_map_good : Good post_map_rule
unfolding post_map_rule
post_map_good = after_word (codes "map") (commas_good 8 post_col_listed)

post_col_free : (t : Tok) (us : List Tok) → (post_col_rule []).follow (t ∷ us) ≡ true
unfolding post_col_rule
post_col_free t us = refl

pub post_map_end : (k : ℕ) → (k == 3) ≡ false → (t : Tok) (us : List Tok) → t.face ≡ symbol k → post_map_rule.follow (t ∷ us) ≡ true
unfolding post_map_rule
post_map_end k n t us e = commas_sign 8 past_col (λ seen. post_col_rule (col_names seen)) t us (ap (is_symbol 3) e ∙ n) (post_col_free t us)
