-- Folds as the code reads them.
use Rattle.std.proofs.Common.{◌≡◌, ℕ, true, false, List, Result, refl, sym, ◌∙◌, subst, ◌⊎◌}
use Rattle.std.specs.Prelude.{codes}
use Rattle.sn_text_rules.specs.Tokens.{Tok, Read, got, fails, short, bind}
use Rattle.sn_text_rules.specs.Rules.{kept, Rule}
use Rattle.sn_text_rules.specs.Words.{is_word, keyword, sign, number_in}
use Rattle.sn_text.specs.declared.place.Lexer.{Lexer}
use Rattle.sn_text.specs.declared.stop.Stop.{Stop}
use Rattle.sn_text.specs.declared.stop.Stop.TheVariants as stops
use Rattle.sn_text.specs.Reading.{Halts, Reads, Peeked}
use Rattle.sn_query_grammar.specs.declared.ast.Reduce.{Reduce}
use Rattle.sn_query_grammar.specs.declared.ast.FoldWord.{FoldWord}
use Rattle.sn_query_grammar.specs.declared.ast.FoldWord.TheVariants as folds
use Rattle.sn_query_grammar.specs.Names.{plain_fold}
use Rattle.sn_query_grammar.specs.Grammar.{Name, keys_rule, fold_rule, fold_to, to_reduce, reduce_rule}
use Rattle.sn_query.specs.Parts.{column_rule, fold_read}
use Rattle.sn_query.proofs.Picks.{fold_sum, fold_other}

abbrev sum_word : Rule (Unit {0})
sum_word = keyword (codes "sum")

abbrev width_word : Rule (Unit {0})
width_word = keyword (codes "width")

abbrev reduce_word : Rule (Unit {0})
reduce_word = keyword (codes "reduce")

abbrev summed : List Name → Name → ℕ → Reduce
summed keys v w = record { keys = keys; fold = folds.Sum; value = v; width = w }

abbrev folded : List Name → FoldWord → Name → Reduce
folded keys f v = record { keys = keys; fold = f; value = v; width = 0 }

module _ (keys : List Name) (ts : List Tok) (p : Peeked true (is_word (codes "sum")) ts) where
  pub sum_no_word : (x : Stop) → Halts x (sum_word.read kept ts) → Halts x (fold_read keys ts)
  sum_no_word stops.NoMemory h = tt
  sum_no_word (stops.Fault x l) h = fold_sum keys ts p ∙ rw h refl

  pub sum_no_column : (us : List Tok) (x : Stop) → sum_word.read kept ts ≡ got tt us → Halts x ((column_rule keys).read kept us) → Halts x (fold_read keys ts)
  sum_no_column us stops.NoMemory e h = tt
  sum_no_column us (stops.Fault x l) e h = fold_sum keys ts p ∙ rw (e, h) refl

  pub sum_no_width : (us vs : List Tok) (v : Name) (x : Stop) → sum_word.read kept ts ≡ got tt us → (column_rule keys).read kept us ≡ got v vs → Halts x (width_word.read kept vs) → Halts x (fold_read keys ts)
  sum_no_width us vs v stops.NoMemory e f h = tt
  sum_no_width us vs v (stops.Fault x l) e f h = fold_sum keys ts p ∙ rw (e, f, h) refl

  pub sum_no_number : (us vs ws : List Tok) (v : Name) (x : Stop) → sum_word.read kept ts ≡ got tt us → (column_rule keys).read kept us ≡ got v vs → width_word.read kept vs ≡ got tt ws → Halts x ((number_in 1 64).read kept ws) → Halts x (fold_read keys ts)
  sum_no_number us vs ws v stops.NoMemory e f g h = tt
  sum_no_number us vs ws v (stops.Fault x l) e f g h = fold_sum keys ts p ∙ rw (e, f, g, h) refl

  pub sum_value : (us vs ws xs : List Tok) (v : Name) (w : ℕ) → sum_word.read kept ts ≡ got tt us → (column_rule keys).read kept us ≡ got v vs → width_word.read kept vs ≡ got tt ws → (number_in 1 64).read kept ws ≡ got w xs → fold_read keys ts ≡ got (summed keys v w) xs
  sum_value us vs ws xs v w e f g h = fold_sum keys ts p ∙ rw (e, f, g, h) refl

module _ (keys : List Name) (ts : List Tok) (p : Peeked false (is_word (codes "sum")) ts) where
  pub other_no_word : (x : Stop) → Halts x (plain_fold.read kept ts) → Halts x (fold_read keys ts)
  other_no_word stops.NoMemory h = tt
  other_no_word (stops.Fault x l) h = fold_other keys ts p ∙ rw h refl

  pub other_no_column : (us : List Tok) (f : FoldWord) (x : Stop) → plain_fold.read kept ts ≡ got f us → Halts x ((column_rule keys).read kept us) → Halts x (fold_read keys ts)
  other_no_column us f stops.NoMemory e h = tt
  other_no_column us f (stops.Fault x l) e h = fold_other keys ts p ∙ rw (e, h) refl

  pub other_value : (us vs : List Tok) (f : FoldWord) (v : Name) → plain_fold.read kept ts ≡ got f us → (column_rule keys).read kept us ≡ got v vs → fold_read keys ts ≡ got (folded keys f v) vs
  other_value us vs f v e h = fold_other keys ts p ∙ rw (e, h) refl

-- ---- the whole fold

pub reduce_no_word : (ts : List Tok) (x : Stop) → Halts x (reduce_word.read kept ts) → Halts x (reduce_rule.read kept ts)
unfolding reduce_rule
reduce_no_word ts stops.NoMemory h = tt
reduce_no_word ts (stops.Fault x l) h = rw h refl

pub reduce_no_keys : (ts us : List Tok) (x : Stop) → reduce_word.read kept ts ≡ got tt us → Halts x (keys_rule.read kept us) → Halts x (reduce_rule.read kept ts)
unfolding reduce_rule
reduce_no_keys ts us stops.NoMemory e h = tt
reduce_no_keys ts us (stops.Fault x l) e h = rw (e, h) refl

pub reduce_no_colon : (ts us vs : List Tok) (keys : List Name) (x : Stop) → reduce_word.read kept ts ≡ got tt us → keys_rule.read kept us ≡ got keys vs → Halts x ((sign 7).read kept vs) → Halts x (reduce_rule.read kept ts)
unfolding reduce_rule
reduce_no_colon ts us vs keys stops.NoMemory e f h = tt
reduce_no_colon ts us vs keys (stops.Fault x l) e f h = rw (e, f, h) refl

abbrev Fold : Type 0
Fold = (Name × ℕ) ⊎ (FoldWord × Name)

abbrev colon : Fold → Unit {0} × Fold
colon x = (tt, x)

abbrev after_colon : Unit {0} × Fold → Fold
after_colon x = x.1

abbrev with_keys : List Name → Fold → List Name × Fold
with_keys keys x = (keys, x)

abbrev word_first : Reduce → Unit {0} × Reduce
word_first r = (tt, r)

abbrev after_word : Unit {0} × Reduce → Reduce
after_word x = x.1

abbrev nested : List Name → Read Fold → Read Reduce
nested keys r = bind (bind (bind (bind (bind (bind r (λ b vs. got (colon b) vs)) (λ a us. got (after_colon a) us)) (λ b vs. got (with_keys keys b) vs)) (λ a us. got (to_reduce a) us)) (λ b vs. got (word_first b) vs)) (λ a us. got (after_word a) us)

nested_is : (keys : List Name) (r : Read Fold) → nested keys r ≡ bind r (λ x us. got (fold_to keys x) us)
nested_is keys (got a us) = refl
nested_is keys (fails x us) = refl
nested_is keys short = refl

reduce_is : (ts us vs ws : List Tok) (keys : List Name) → reduce_word.read kept ts ≡ got tt us → keys_rule.read kept us ≡ got keys vs → (sign 7).read kept vs ≡ got tt ws → reduce_rule.read kept ts ≡ fold_read keys ws
unfolding reduce_rule
reduce_is ts us vs ws keys e f g = rw (e, f, g) (nested_is keys ((fold_rule keys).read kept ws))

pub reduce_reads : (ts us vs ws : List Tok) (keys : List Name) (r : Result (Reduce × Lexer) Stop) → reduce_word.read kept ts ≡ got tt us → keys_rule.read kept us ≡ got keys vs → (sign 7).read kept vs ≡ got tt ws → Reads r (fold_read keys ws) → Reads r (reduce_rule.read kept ts)
reduce_reads ts us vs ws keys r e f g h = subst (Reads r) (sym (reduce_is ts us vs ws keys e f g)) h

-- ---- the cases of the functions that read a fold

pub ruleset fold_cases = (sum_value, sum_no_word, sum_no_column, sum_no_width, sum_no_number, other_value, other_no_word, other_no_column)

pub ruleset reduce_cases = (reduce_no_word, reduce_no_keys, reduce_no_colon, reduce_reads)
