-- A choice by the next token, as the code makes it.
use Rattle.std.proofs.Common.{◌≡◌, ℕ, Bool, true, false, List, [], ◌∷◌, Option, Some, None, refl, ap, ◌∙◌, inl, inr, ◌⊎◌}
use Rattle.std.specs.Prelude.{codes}
use Rattle.sn_text_rules.specs.Tokens.{Lexeme, Tok, Read, got, fails, short, bind}
use Rattle.sn_text_rules.specs.Rules.{kept, Rule, either, either_at, maybe, maybe_at, pair}
use Rattle.sn_text_rules.specs.Words.{is_word, is_symbol, is_number, keyword, number_in, ◌▸◌, any_number}
use Rattle.sn_text.specs.declared.stop.Stop.{Stop}
use Rattle.sn_text.specs.declared.stop.Stop.TheVariants as stops
use Rattle.sn_text.specs.Reading.{Halts, Peeked}
use Rattle.sn_query_grammar.specs.declared.ast.Cond.{Cond}
use Rattle.sn_query_grammar.specs.declared.ast.MapCol.{MapCol}
use Rattle.sn_query_grammar.specs.declared.ast.Expr.{Expr}
use Rattle.sn_query_grammar.specs.declared.ast.Expr.TheVariants as exprs
use Rattle.sn_query_grammar.specs.declared.ast.What.{What}
use Rattle.sn_query_grammar.specs.declared.ast.What.TheVariants as whats
use Rattle.sn_query_grammar.specs.declared.ast.Reduce.{Reduce}
use Rattle.sn_query_grammar.specs.declared.ast.FoldWord.{FoldWord}
use Rattle.sn_query_grammar.specs.Names.{name, plain_fold}
use Rattle.sn_query_grammar.specs.Grammar.{Name, Tail, PostTail, to_expr, to_post_expr, read_as, read_post, to_what, to_post_what, goes_tail, goes_post_tail, expr_rule, post_expr_rule, filter_rule, map_rule, post_map_rule, reduce_rule, what_rule, post_what_rule, fold_rule, fold_to}
use Rattle.sn_query.specs.Parts.{mask_rule, shift_rule, plus_rule, ratio_rule, column_rule, fold_read}

-- ---- choices

pub picked : {A B : Type 0} (goes : Lexeme → Bool) (f : List Tok → Read A) (g : List Tok → Read B) (ts : List Tok) → Peeked true goes ts → either_at goes f g ts ≡ bind (f ts) (λ a us. got (inl a) us)
picked goes f g [] h = absurd h
picked goes f g (t ∷ ts) h = rw (← h) refl

pub passed_over : {A B : Type 0} (goes : Lexeme → Bool) (f : List Tok → Read A) (g : List Tok → Read B) (ts : List Tok) → Peeked false goes ts → either_at goes f g ts ≡ bind (g ts) (λ b us. got (inr b) us)
passed_over goes f g [] h = absurd h
passed_over goes f g (t ∷ ts) h = rw (← h) refl

-- the value of a part is read, or its halt is that of the whole
pub record Part {A B : Type 0} (part : Read A) (to : A → B) (whole : Read B) : Type 0 where
  pub value : (a : A) (us : List Tok) → part ≡ got a us → whole ≡ got (to a) us
  pub halt : (e : Stop) → Halts e part → Halts e whole

halts_bind : {A B : Type 0} (e : Stop) (r : Read A) (f : A → List Tok → Read B) → Halts e r → Halts e (bind r f)
halts_bind stops.NoMemory r f h = tt
halts_bind (stops.Fault x l) r f h = rw h refl

pub part_of : {A B : Type 0} (r : Read A) (to : A → B) (whole : Read B) → whole ≡ bind r (λ a us. got (to a) us) → Part r to whole
part_of r to whole e = record { value = λ a us h. e ∙ rw h refl; halt = halt }
  where
    halt : (x : Stop) → Halts x r → Halts x whole
    halt stops.NoMemory h = tt
    halt (stops.Fault x l) h = e ∙ rw h refl

then_part : {A B C : Type 0} (r : Read A) (f : A → B) (g : B → C) → bind (bind r (λ a us. got (f a) us)) (λ b us. got (g b) us) ≡ bind r (λ a us. got (g (f a)) us)
then_part (got a us) f g = refl
then_part (fails x us) f g = refl
then_part short f g = refl

-- ---- what a column holds

abbrev const_of : ℕ → Expr
const_of k = exprs.Const k

abbrev mask_of : Name → ℕ → Expr
mask_of n k = exprs.Mask n k

abbrev shift_of : Name → ℕ → Expr
shift_of n k = exprs.Shift n k

abbrev sum_of : Name → Name → Expr
sum_of n m = exprs.Sum n m

abbrev ratio_of : Name → ℕ × Name → Expr
ratio_of n x = exprs.Ratio n x.0 x.1

abbrev copy_of : Name → Expr
copy_of n = exprs.Copy n

abbrev expr_tail : Rule Tail
expr_tail = maybe goes_tail (either (is_symbol 8) mask_rule shift_rule)

abbrev expr_named : Rule (Name × Tail)
expr_named = pair name expr_tail

abbrev expr_left : ℕ → ℕ ⊎ (Name × Tail)
expr_left k = inl k

abbrev expr_right : Name × Tail → ℕ ⊎ (Name × Tail)
expr_right x = inr x

abbrev expr_twin : Name → Tail → Name × Tail
expr_twin n t = (n, t)

abbrev expr_tail_as_mask : ℕ → Tail
expr_tail_as_mask k = Some (inl k)

abbrev expr_tail_as_shift : ℕ → Tail
expr_tail_as_shift k = Some (inr k)

abbrev some : {A : Type 0} → A → Option A
some a = Some a

abbrev lefts : {A B : Type 0} → A → A ⊎ B
lefts a = inl a

abbrev rights : {A B : Type 0} → B → A ⊎ B
rights b = inr b

module _ (f g : List Tok → Read ℕ) where
  abbrev T : List Tok → Read Tail
  T us = maybe_at goes_tail (λ ts. either_at (is_symbol 8) f g ts) us

  expr_tail_mask : (us : List Tok) → Peeked true (is_symbol 8) us → T us ≡ bind (f us) (λ k vs. got (expr_tail_as_mask k) vs)
  expr_tail_mask [] h = absurd h
  expr_tail_mask (t ∷ us) h = rw (← h) (then_part (f (t ∷ us)) lefts some)

  expr_tail_shift : (us : List Tok) → Peeked false (is_symbol 8) us → Peeked true (is_symbol 18) us → T us ≡ bind (g us) (λ k vs. got (expr_tail_as_shift k) vs)
  expr_tail_shift [] h k = absurd h
  expr_tail_shift (t ∷ us) h k = rw (← h, ← k) (then_part (g (t ∷ us)) rights some)

  expr_tail_copy : (us : List Tok) → Peeked false (is_symbol 8) us → Peeked false (is_symbol 18) us → T us ≡ got None us
  expr_tail_copy [] h k = absurd h
  expr_tail_copy (t ∷ us) h k = rw (← h, ← k) refl

abbrev post_expr_tail : Rule PostTail
post_expr_tail = maybe goes_post_tail (either (is_symbol 8) mask_rule (either (is_symbol 18) shift_rule (either (is_symbol 9) plus_rule ratio_rule)))

abbrev post_expr_named : Rule (Name × PostTail)
post_expr_named = pair name post_expr_tail

abbrev post_expr_left : ℕ → ℕ ⊎ (Name × PostTail)
post_expr_left k = inl k

abbrev post_expr_right : Name × PostTail → ℕ ⊎ (Name × PostTail)
post_expr_right x = inr x

abbrev post_expr_twin : Name → PostTail → Name × PostTail
post_expr_twin n t = (n, t)

abbrev post_expr_tail_as_mask : ℕ → PostTail
post_expr_tail_as_mask k = Some (inl k)

abbrev post_expr_tail_as_shift : ℕ → PostTail
post_expr_tail_as_shift k = Some (inr (inl k))

abbrev post_expr_tail_as_sum : Name → PostTail
post_expr_tail_as_sum n = Some (inr (inr (inl n)))

abbrev post_expr_tail_as_ratio : ℕ × Name → PostTail
post_expr_tail_as_ratio x = Some (inr (inr (inr x)))

-- a part under several names
under_two : {A B C D : Type 0} (r : Read A) (f : A → B) (g : B → C) (h : C → D) → bind (bind (bind r (λ a us. got (f a) us)) (λ a us. got (g a) us)) (λ a us. got (h a) us) ≡ bind r (λ a us. got (h (g (f a))) us)
under_two (got a us) f g h = refl
under_two (fails x us) f g h = refl
under_two short f g h = refl

under_three : {A B C D E : Type 0} (r : Read A) (f : A → B) (g : B → C) (h : C → D) (k : D → E) → bind (bind (bind (bind r (λ a us. got (f a) us)) (λ a us. got (g a) us)) (λ a us. got (h a) us)) (λ a us. got (k a) us) ≡ bind r (λ a us. got (k (h (g (f a)))) us)
under_three (got a us) f g h k = refl
under_three (fails x us) f g h k = refl
under_three short f g h k = refl

module _ (f g : List Tok → Read ℕ) (p : List Tok → Read Name) (q : List Tok → Read (ℕ × Name)) where
  abbrev U : List Tok → Read PostTail
  U us = maybe_at goes_post_tail (λ ts. either_at (is_symbol 8) f (λ ts. either_at (is_symbol 18) g (λ ts. either_at (is_symbol 9) p q ts) ts) ts) us

  post_expr_tail_mask : (us : List Tok) → Peeked true (is_symbol 8) us → U us ≡ bind (f us) (λ k vs. got (post_expr_tail_as_mask k) vs)
  post_expr_tail_mask [] h = absurd h
  post_expr_tail_mask (t ∷ us) h = rw (← h) (then_part (f (t ∷ us)) lefts some)

  post_expr_tail_shift : (us : List Tok) → Peeked false (is_symbol 8) us → Peeked true (is_symbol 18) us → U us ≡ bind (g us) (λ k vs. got (post_expr_tail_as_shift k) vs)
  post_expr_tail_shift [] h k = absurd h
  post_expr_tail_shift (t ∷ us) h k = rw (← h, ← k) (under_two (g (t ∷ us)) lefts rights some)

  post_expr_tail_sum : (us : List Tok) → Peeked false (is_symbol 8) us → Peeked false (is_symbol 18) us → Peeked true (is_symbol 9) us → U us ≡ bind (p us) (λ n vs. got (post_expr_tail_as_sum n) vs)
  post_expr_tail_sum [] h k m = absurd h
  post_expr_tail_sum (t ∷ us) h k m = rw (← h, ← k, ← m) (under_three (p (t ∷ us)) lefts rights rights some)

  post_expr_tail_ratio : (us : List Tok) → Peeked false (is_symbol 8) us → Peeked false (is_symbol 18) us → Peeked false (is_symbol 9) us → Peeked true (is_symbol 10) us → U us ≡ bind (q us) (λ x vs. got (post_expr_tail_as_ratio x) vs)
  post_expr_tail_ratio [] h k m n = absurd h
  post_expr_tail_ratio (t ∷ us) h k m n = rw (← h, ← k, ← m, ← n) (under_three (q (t ∷ us)) rights rights rights some)

  post_expr_tail_copy : (us : List Tok) → Peeked false (is_symbol 8) us → Peeked false (is_symbol 18) us → Peeked false (is_symbol 9) us → Peeked false (is_symbol 10) us → U us ≡ got None us
  post_expr_tail_copy [] h k m n = absurd h
  post_expr_tail_copy (t ∷ us) h k m n = rw (← h, ← k, ← m, ← n) refl

expr_number : (ts : List Tok) → Peeked true is_number ts → Part (any_number.read kept ts) (const_of) (expr_rule.read kept ts)
unfolding expr_rule
expr_number ts h0 = part_of (any_number.read kept ts) (const_of) (expr_rule.read kept ts) (ap (λ r. bind r (λ a us. got (to_expr a) us)) (picked is_number (any_number.read kept) (expr_named.read kept) ts h0) ∙ then_part (any_number.read kept ts) expr_left to_expr)

pub expr_number_value : (ts : List Tok) (a : ℕ) (vs : List Tok) → Peeked true is_number ts → any_number.read kept ts ≡ got a vs → expr_rule.read kept ts ≡ got ((const_of) a) vs
expr_number_value ts a vs h0 e = (expr_number ts h0).value a vs e

pub expr_number_halt : (ts : List Tok) (x : Stop) → Peeked true is_number ts → Halts x (any_number.read kept ts) → Halts x (expr_rule.read kept ts)
expr_number_halt ts x h0 e = (expr_number ts h0).halt x e

pub expr_no_name : (ts : List Tok) (x : Stop) → Peeked false is_number ts → Halts x (name.read kept ts) → Halts x (expr_rule.read kept ts)
unfolding expr_rule
expr_no_name ts stops.NoMemory h e = tt
expr_no_name ts (stops.Fault x l) h e = ap (λ r. bind r (λ a us. got (to_expr a) us)) (passed_over is_number (any_number.read kept) (expr_named.read kept) ts h) ∙ rw e refl

expr_rest : (n : Name) (r : Read Tail) → bind (bind (bind r (λ b vs. got (expr_twin n b) vs)) (λ b us. got (expr_right b) us)) (λ a us. got (to_expr a) us) ≡ bind r (λ t vs. got (read_as n t) vs)
expr_rest n (got t us) = refl
expr_rest n (fails x us) = refl
expr_rest n short = refl

expr_goes_on : (ts us : List Tok) (n : Name) → Peeked false is_number ts → name.read kept ts ≡ got n us → expr_rule.read kept ts ≡ bind (expr_tail.read kept us) (λ t vs. got (read_as n t) vs)
unfolding expr_rule
expr_goes_on ts us n h e = ap (λ r. bind r (λ a us. got (to_expr a) us)) (passed_over is_number (any_number.read kept) (expr_named.read kept) ts h) ∙ rw e (expr_rest n (expr_tail.read kept us))

expr_mask : (ts us : List Tok) (n : Name) → Peeked false is_number ts → name.read kept ts ≡ got n us → Peeked true (is_symbol 8) us → Part (mask_rule.read kept us) (mask_of n) (expr_rule.read kept ts)
expr_mask ts us n h0 h1 h2 = part_of (mask_rule.read kept us) (mask_of n) (expr_rule.read kept ts) (expr_goes_on ts us n h0 h1 ∙ ap (λ r. bind r (λ t vs. got (read_as n t) vs)) (expr_tail_mask (mask_rule.read kept) (shift_rule.read kept) us h2) ∙ then_part (mask_rule.read kept us) expr_tail_as_mask (read_as n))

pub expr_mask_value : (ts us : List Tok) (n : Name) (a : ℕ) (vs : List Tok) → Peeked false is_number ts → name.read kept ts ≡ got n us → Peeked true (is_symbol 8) us → mask_rule.read kept us ≡ got a vs → expr_rule.read kept ts ≡ got ((mask_of n) a) vs
expr_mask_value ts us n a vs h0 h1 h2 e = (expr_mask ts us n h0 h1 h2).value a vs e

pub expr_mask_halt : (ts us : List Tok) (n : Name) (x : Stop) → Peeked false is_number ts → name.read kept ts ≡ got n us → Peeked true (is_symbol 8) us → Halts x (mask_rule.read kept us) → Halts x (expr_rule.read kept ts)
expr_mask_halt ts us n x h0 h1 h2 e = (expr_mask ts us n h0 h1 h2).halt x e

expr_shift : (ts us : List Tok) (n : Name) → Peeked false is_number ts → name.read kept ts ≡ got n us → Peeked false (is_symbol 8) us → Peeked true (is_symbol 18) us → Part (shift_rule.read kept us) (shift_of n) (expr_rule.read kept ts)
expr_shift ts us n h0 h1 h2 h3 = part_of (shift_rule.read kept us) (shift_of n) (expr_rule.read kept ts) (expr_goes_on ts us n h0 h1 ∙ ap (λ r. bind r (λ t vs. got (read_as n t) vs)) (expr_tail_shift (mask_rule.read kept) (shift_rule.read kept) us h2 h3) ∙ then_part (shift_rule.read kept us) expr_tail_as_shift (read_as n))

pub expr_shift_value : (ts us : List Tok) (n : Name) (a : ℕ) (vs : List Tok) → Peeked false is_number ts → name.read kept ts ≡ got n us → Peeked false (is_symbol 8) us → Peeked true (is_symbol 18) us → shift_rule.read kept us ≡ got a vs → expr_rule.read kept ts ≡ got ((shift_of n) a) vs
expr_shift_value ts us n a vs h0 h1 h2 h3 e = (expr_shift ts us n h0 h1 h2 h3).value a vs e

pub expr_shift_halt : (ts us : List Tok) (n : Name) (x : Stop) → Peeked false is_number ts → name.read kept ts ≡ got n us → Peeked false (is_symbol 8) us → Peeked true (is_symbol 18) us → Halts x (shift_rule.read kept us) → Halts x (expr_rule.read kept ts)
expr_shift_halt ts us n x h0 h1 h2 h3 e = (expr_shift ts us n h0 h1 h2 h3).halt x e

pub expr_copy : (ts us : List Tok) (n : Name) → Peeked false is_number ts → name.read kept ts ≡ got n us → Peeked false (is_symbol 8) us → Peeked false (is_symbol 18) us → expr_rule.read kept ts ≡ got (copy_of n) us
expr_copy ts us n h0 h1 h2 h3 = expr_goes_on ts us n h0 h1 ∙ ap (λ r. bind r (λ t vs. got (read_as n t) vs)) (expr_tail_copy (mask_rule.read kept) (shift_rule.read kept) us h2 h3)

post_expr_number : (ts : List Tok) → Peeked true is_number ts → Part (any_number.read kept ts) (const_of) (post_expr_rule.read kept ts)
unfolding post_expr_rule
post_expr_number ts h0 = part_of (any_number.read kept ts) (const_of) (post_expr_rule.read kept ts) (ap (λ r. bind r (λ a us. got (to_post_expr a) us)) (picked is_number (any_number.read kept) (post_expr_named.read kept) ts h0) ∙ then_part (any_number.read kept ts) post_expr_left to_post_expr)

pub post_expr_number_value : (ts : List Tok) (a : ℕ) (vs : List Tok) → Peeked true is_number ts → any_number.read kept ts ≡ got a vs → post_expr_rule.read kept ts ≡ got ((const_of) a) vs
post_expr_number_value ts a vs h0 e = (post_expr_number ts h0).value a vs e

pub post_expr_number_halt : (ts : List Tok) (x : Stop) → Peeked true is_number ts → Halts x (any_number.read kept ts) → Halts x (post_expr_rule.read kept ts)
post_expr_number_halt ts x h0 e = (post_expr_number ts h0).halt x e

pub post_expr_no_name : (ts : List Tok) (x : Stop) → Peeked false is_number ts → Halts x (name.read kept ts) → Halts x (post_expr_rule.read kept ts)
unfolding post_expr_rule
post_expr_no_name ts stops.NoMemory h e = tt
post_expr_no_name ts (stops.Fault x l) h e = ap (λ r. bind r (λ a us. got (to_post_expr a) us)) (passed_over is_number (any_number.read kept) (post_expr_named.read kept) ts h) ∙ rw e refl

post_expr_rest : (n : Name) (r : Read PostTail) → bind (bind (bind r (λ b vs. got (post_expr_twin n b) vs)) (λ b us. got (post_expr_right b) us)) (λ a us. got (to_post_expr a) us) ≡ bind r (λ t vs. got (read_post n t) vs)
post_expr_rest n (got t us) = refl
post_expr_rest n (fails x us) = refl
post_expr_rest n short = refl

post_expr_goes_on : (ts us : List Tok) (n : Name) → Peeked false is_number ts → name.read kept ts ≡ got n us → post_expr_rule.read kept ts ≡ bind (post_expr_tail.read kept us) (λ t vs. got (read_post n t) vs)
unfolding post_expr_rule
post_expr_goes_on ts us n h e = ap (λ r. bind r (λ a us. got (to_post_expr a) us)) (passed_over is_number (any_number.read kept) (post_expr_named.read kept) ts h) ∙ rw e (post_expr_rest n (post_expr_tail.read kept us))

post_expr_mask : (ts us : List Tok) (n : Name) → Peeked false is_number ts → name.read kept ts ≡ got n us → Peeked true (is_symbol 8) us → Part (mask_rule.read kept us) (mask_of n) (post_expr_rule.read kept ts)
post_expr_mask ts us n h0 h1 h2 = part_of (mask_rule.read kept us) (mask_of n) (post_expr_rule.read kept ts) (post_expr_goes_on ts us n h0 h1 ∙ ap (λ r. bind r (λ t vs. got (read_post n t) vs)) (post_expr_tail_mask (mask_rule.read kept) (shift_rule.read kept) (plus_rule.read kept) (ratio_rule.read kept) us h2) ∙ then_part (mask_rule.read kept us) post_expr_tail_as_mask (read_post n))

pub post_expr_mask_value : (ts us : List Tok) (n : Name) (a : ℕ) (vs : List Tok) → Peeked false is_number ts → name.read kept ts ≡ got n us → Peeked true (is_symbol 8) us → mask_rule.read kept us ≡ got a vs → post_expr_rule.read kept ts ≡ got ((mask_of n) a) vs
post_expr_mask_value ts us n a vs h0 h1 h2 e = (post_expr_mask ts us n h0 h1 h2).value a vs e

pub post_expr_mask_halt : (ts us : List Tok) (n : Name) (x : Stop) → Peeked false is_number ts → name.read kept ts ≡ got n us → Peeked true (is_symbol 8) us → Halts x (mask_rule.read kept us) → Halts x (post_expr_rule.read kept ts)
post_expr_mask_halt ts us n x h0 h1 h2 e = (post_expr_mask ts us n h0 h1 h2).halt x e

post_expr_shift : (ts us : List Tok) (n : Name) → Peeked false is_number ts → name.read kept ts ≡ got n us → Peeked false (is_symbol 8) us → Peeked true (is_symbol 18) us → Part (shift_rule.read kept us) (shift_of n) (post_expr_rule.read kept ts)
post_expr_shift ts us n h0 h1 h2 h3 = part_of (shift_rule.read kept us) (shift_of n) (post_expr_rule.read kept ts) (post_expr_goes_on ts us n h0 h1 ∙ ap (λ r. bind r (λ t vs. got (read_post n t) vs)) (post_expr_tail_shift (mask_rule.read kept) (shift_rule.read kept) (plus_rule.read kept) (ratio_rule.read kept) us h2 h3) ∙ then_part (shift_rule.read kept us) post_expr_tail_as_shift (read_post n))

pub post_expr_shift_value : (ts us : List Tok) (n : Name) (a : ℕ) (vs : List Tok) → Peeked false is_number ts → name.read kept ts ≡ got n us → Peeked false (is_symbol 8) us → Peeked true (is_symbol 18) us → shift_rule.read kept us ≡ got a vs → post_expr_rule.read kept ts ≡ got ((shift_of n) a) vs
post_expr_shift_value ts us n a vs h0 h1 h2 h3 e = (post_expr_shift ts us n h0 h1 h2 h3).value a vs e

pub post_expr_shift_halt : (ts us : List Tok) (n : Name) (x : Stop) → Peeked false is_number ts → name.read kept ts ≡ got n us → Peeked false (is_symbol 8) us → Peeked true (is_symbol 18) us → Halts x (shift_rule.read kept us) → Halts x (post_expr_rule.read kept ts)
post_expr_shift_halt ts us n x h0 h1 h2 h3 e = (post_expr_shift ts us n h0 h1 h2 h3).halt x e

post_expr_sum : (ts us : List Tok) (n : Name) → Peeked false is_number ts → name.read kept ts ≡ got n us → Peeked false (is_symbol 8) us → Peeked false (is_symbol 18) us → Peeked true (is_symbol 9) us → Part (plus_rule.read kept us) (sum_of n) (post_expr_rule.read kept ts)
post_expr_sum ts us n h0 h1 h2 h3 h4 = part_of (plus_rule.read kept us) (sum_of n) (post_expr_rule.read kept ts) (post_expr_goes_on ts us n h0 h1 ∙ ap (λ r. bind r (λ t vs. got (read_post n t) vs)) (post_expr_tail_sum (mask_rule.read kept) (shift_rule.read kept) (plus_rule.read kept) (ratio_rule.read kept) us h2 h3 h4) ∙ then_part (plus_rule.read kept us) post_expr_tail_as_sum (read_post n))

pub post_expr_sum_value : (ts us : List Tok) (n : Name) (a : Name) (vs : List Tok) → Peeked false is_number ts → name.read kept ts ≡ got n us → Peeked false (is_symbol 8) us → Peeked false (is_symbol 18) us → Peeked true (is_symbol 9) us → plus_rule.read kept us ≡ got a vs → post_expr_rule.read kept ts ≡ got ((sum_of n) a) vs
post_expr_sum_value ts us n a vs h0 h1 h2 h3 h4 e = (post_expr_sum ts us n h0 h1 h2 h3 h4).value a vs e

pub post_expr_sum_halt : (ts us : List Tok) (n : Name) (x : Stop) → Peeked false is_number ts → name.read kept ts ≡ got n us → Peeked false (is_symbol 8) us → Peeked false (is_symbol 18) us → Peeked true (is_symbol 9) us → Halts x (plus_rule.read kept us) → Halts x (post_expr_rule.read kept ts)
post_expr_sum_halt ts us n x h0 h1 h2 h3 h4 e = (post_expr_sum ts us n h0 h1 h2 h3 h4).halt x e

post_expr_ratio : (ts us : List Tok) (n : Name) → Peeked false is_number ts → name.read kept ts ≡ got n us → Peeked false (is_symbol 8) us → Peeked false (is_symbol 18) us → Peeked false (is_symbol 9) us → Peeked true (is_symbol 10) us → Part (ratio_rule.read kept us) (ratio_of n) (post_expr_rule.read kept ts)
post_expr_ratio ts us n h0 h1 h2 h3 h4 h5 = part_of (ratio_rule.read kept us) (ratio_of n) (post_expr_rule.read kept ts) (post_expr_goes_on ts us n h0 h1 ∙ ap (λ r. bind r (λ t vs. got (read_post n t) vs)) (post_expr_tail_ratio (mask_rule.read kept) (shift_rule.read kept) (plus_rule.read kept) (ratio_rule.read kept) us h2 h3 h4 h5) ∙ then_part (ratio_rule.read kept us) post_expr_tail_as_ratio (read_post n))

pub post_expr_ratio_value : (ts us : List Tok) (n : Name) (a : ℕ × Name) (vs : List Tok) → Peeked false is_number ts → name.read kept ts ≡ got n us → Peeked false (is_symbol 8) us → Peeked false (is_symbol 18) us → Peeked false (is_symbol 9) us → Peeked true (is_symbol 10) us → ratio_rule.read kept us ≡ got a vs → post_expr_rule.read kept ts ≡ got ((ratio_of n) a) vs
post_expr_ratio_value ts us n a vs h0 h1 h2 h3 h4 h5 e = (post_expr_ratio ts us n h0 h1 h2 h3 h4 h5).value a vs e

pub post_expr_ratio_halt : (ts us : List Tok) (n : Name) (x : Stop) → Peeked false is_number ts → name.read kept ts ≡ got n us → Peeked false (is_symbol 8) us → Peeked false (is_symbol 18) us → Peeked false (is_symbol 9) us → Peeked true (is_symbol 10) us → Halts x (ratio_rule.read kept us) → Halts x (post_expr_rule.read kept ts)
post_expr_ratio_halt ts us n x h0 h1 h2 h3 h4 h5 e = (post_expr_ratio ts us n h0 h1 h2 h3 h4 h5).halt x e

pub post_expr_copy : (ts us : List Tok) (n : Name) → Peeked false is_number ts → name.read kept ts ≡ got n us → Peeked false (is_symbol 8) us → Peeked false (is_symbol 18) us → Peeked false (is_symbol 9) us → Peeked false (is_symbol 10) us → post_expr_rule.read kept ts ≡ got (copy_of n) us
post_expr_copy ts us n h0 h1 h2 h3 h4 h5 = post_expr_goes_on ts us n h0 h1 ∙ ap (λ r. bind r (λ t vs. got (read_post n t) vs)) (post_expr_tail_copy (mask_rule.read kept) (shift_rule.read kept) (plus_rule.read kept) (ratio_rule.read kept) us h2 h3 h4 h5)

-- ---- what an operator does

abbrev filter_of : List Cond → What
filter_of conds = whats.Filter conds

abbrev map_of : List MapCol → What
map_of cols = whats.Map cols

abbrev distinct_of : Unit {0} → What
distinct_of u = whats.Distinct

abbrev reduce_of : Reduce → What
reduce_of r = whats.Reduce r

abbrev F : Lexeme → Bool
F = is_word (codes "filter")

abbrev G : Lexeme → Bool
G = is_word (codes "map")

abbrev H : Lexeme → Bool
H = is_word (codes "distinct")

abbrev what_at : (List Tok → Read (List Cond)) → (List Tok → Read (List MapCol)) → (List Tok → Read (Unit {0})) → (List Tok → Read Reduce) → List Tok → Read What
what_at f g h k ts = bind (either_at F f (λ ts. either_at G g (λ ts. either_at H h k ts) ts) ts) (λ a us. got (to_what a) us)

module _ (f : List Tok → Read (List Cond)) (g : List Tok → Read (List MapCol)) (h : List Tok → Read (Unit {0})) (k : List Tok → Read Reduce) where
  what_at_filter : (ts : List Tok) → Peeked true F ts → what_at f g h k ts ≡ bind (f ts) (λ a us. got (filter_of a) us)
  what_at_filter [] a = absurd a
  what_at_filter (t ∷ ts) a = rw (← a) (then_part (f (t ∷ ts)) lefts to_what)

  what_at_map : (ts : List Tok) → Peeked false F ts → Peeked true G ts → what_at f g h k ts ≡ bind (g ts) (λ a us. got (map_of a) us)
  what_at_map [] a b = absurd a
  what_at_map (t ∷ ts) a b = rw (← a, ← b) (under_two (g (t ∷ ts)) lefts rights to_what)

  what_at_distinct : (ts : List Tok) → Peeked false F ts → Peeked false G ts → Peeked true H ts → what_at f g h k ts ≡ bind (h ts) (λ a us. got (distinct_of a) us)
  what_at_distinct [] a b c = absurd a
  what_at_distinct (t ∷ ts) a b c = rw (← a, ← b, ← c) (under_three (h (t ∷ ts)) lefts rights rights to_what)

  what_at_reduce : (ts : List Tok) → Peeked false F ts → Peeked false G ts → Peeked false H ts → what_at f g h k ts ≡ bind (k ts) (λ a us. got (reduce_of a) us)
  what_at_reduce [] a b c = absurd a
  what_at_reduce (t ∷ ts) a b c = rw (← a, ← b, ← c) (under_three (k (t ∷ ts)) rights rights rights to_what)

abbrev post_at : (List Tok → Read (List Cond)) → (List Tok → Read (List MapCol)) → List Tok → Read What
post_at f g ts = bind (either_at F f g ts) (λ a us. got (to_post_what a) us)

module _ (f : List Tok → Read (List Cond)) (g : List Tok → Read (List MapCol)) where
  post_at_filter : (ts : List Tok) → Peeked true F ts → post_at f g ts ≡ bind (f ts) (λ a us. got (filter_of a) us)
  post_at_filter [] a = absurd a
  post_at_filter (t ∷ ts) a = rw (← a) (then_part (f (t ∷ ts)) lefts to_post_what)

  post_at_map : (ts : List Tok) → Peeked false F ts → post_at f g ts ≡ bind (g ts) (λ a us. got (map_of a) us)
  post_at_map [] a = absurd a
  post_at_map (t ∷ ts) a = rw (← a) (then_part (g (t ∷ ts)) rights to_post_what)

what_filter : (ts : List Tok) → Peeked true (is_word (codes "filter")) ts → Part (filter_rule.read kept ts) (filter_of) (what_rule.read kept ts)
unfolding what_rule
what_filter ts h0 = part_of (filter_rule.read kept ts) (filter_of) (what_rule.read kept ts) (what_at_filter (filter_rule.read kept) (map_rule.read kept) ((keyword (codes "distinct")).read kept) (reduce_rule.read kept) ts h0)

pub what_filter_value : (ts : List Tok) (a : List Cond) (vs : List Tok) → Peeked true (is_word (codes "filter")) ts → filter_rule.read kept ts ≡ got a vs → what_rule.read kept ts ≡ got ((filter_of) a) vs
what_filter_value ts a vs h0 e = (what_filter ts h0).value a vs e

pub what_filter_halt : (ts : List Tok) (x : Stop) → Peeked true (is_word (codes "filter")) ts → Halts x (filter_rule.read kept ts) → Halts x (what_rule.read kept ts)
what_filter_halt ts x h0 e = (what_filter ts h0).halt x e

what_map : (ts : List Tok) → Peeked false (is_word (codes "filter")) ts → Peeked true (is_word (codes "map")) ts → Part (map_rule.read kept ts) (map_of) (what_rule.read kept ts)
unfolding what_rule
what_map ts h0 h1 = part_of (map_rule.read kept ts) (map_of) (what_rule.read kept ts) (what_at_map (filter_rule.read kept) (map_rule.read kept) ((keyword (codes "distinct")).read kept) (reduce_rule.read kept) ts h0 h1)

pub what_map_value : (ts : List Tok) (a : List MapCol) (vs : List Tok) → Peeked false (is_word (codes "filter")) ts → Peeked true (is_word (codes "map")) ts → map_rule.read kept ts ≡ got a vs → what_rule.read kept ts ≡ got ((map_of) a) vs
what_map_value ts a vs h0 h1 e = (what_map ts h0 h1).value a vs e

pub what_map_halt : (ts : List Tok) (x : Stop) → Peeked false (is_word (codes "filter")) ts → Peeked true (is_word (codes "map")) ts → Halts x (map_rule.read kept ts) → Halts x (what_rule.read kept ts)
what_map_halt ts x h0 h1 e = (what_map ts h0 h1).halt x e

what_distinct : (ts : List Tok) → Peeked false (is_word (codes "filter")) ts → Peeked false (is_word (codes "map")) ts → Peeked true (is_word (codes "distinct")) ts → Part ((keyword (codes "distinct")).read kept ts) (distinct_of) (what_rule.read kept ts)
unfolding what_rule
what_distinct ts h0 h1 h2 = part_of ((keyword (codes "distinct")).read kept ts) (distinct_of) (what_rule.read kept ts) (what_at_distinct (filter_rule.read kept) (map_rule.read kept) ((keyword (codes "distinct")).read kept) (reduce_rule.read kept) ts h0 h1 h2)

pub what_distinct_value : (ts : List Tok) (a : Unit {0}) (vs : List Tok) → Peeked false (is_word (codes "filter")) ts → Peeked false (is_word (codes "map")) ts → Peeked true (is_word (codes "distinct")) ts → (keyword (codes "distinct")).read kept ts ≡ got a vs → what_rule.read kept ts ≡ got ((distinct_of) a) vs
what_distinct_value ts a vs h0 h1 h2 e = (what_distinct ts h0 h1 h2).value a vs e

pub what_distinct_halt : (ts : List Tok) (x : Stop) → Peeked false (is_word (codes "filter")) ts → Peeked false (is_word (codes "map")) ts → Peeked true (is_word (codes "distinct")) ts → Halts x ((keyword (codes "distinct")).read kept ts) → Halts x (what_rule.read kept ts)
what_distinct_halt ts x h0 h1 h2 e = (what_distinct ts h0 h1 h2).halt x e

what_reduce : (ts : List Tok) → Peeked false (is_word (codes "filter")) ts → Peeked false (is_word (codes "map")) ts → Peeked false (is_word (codes "distinct")) ts → Part (reduce_rule.read kept ts) (reduce_of) (what_rule.read kept ts)
unfolding what_rule
what_reduce ts h0 h1 h2 = part_of (reduce_rule.read kept ts) (reduce_of) (what_rule.read kept ts) (what_at_reduce (filter_rule.read kept) (map_rule.read kept) ((keyword (codes "distinct")).read kept) (reduce_rule.read kept) ts h0 h1 h2)

pub what_reduce_value : (ts : List Tok) (a : Reduce) (vs : List Tok) → Peeked false (is_word (codes "filter")) ts → Peeked false (is_word (codes "map")) ts → Peeked false (is_word (codes "distinct")) ts → reduce_rule.read kept ts ≡ got a vs → what_rule.read kept ts ≡ got ((reduce_of) a) vs
what_reduce_value ts a vs h0 h1 h2 e = (what_reduce ts h0 h1 h2).value a vs e

pub what_reduce_halt : (ts : List Tok) (x : Stop) → Peeked false (is_word (codes "filter")) ts → Peeked false (is_word (codes "map")) ts → Peeked false (is_word (codes "distinct")) ts → Halts x (reduce_rule.read kept ts) → Halts x (what_rule.read kept ts)
what_reduce_halt ts x h0 h1 h2 e = (what_reduce ts h0 h1 h2).halt x e

post_filter : (ts : List Tok) → Peeked true (is_word (codes "filter")) ts → Part (filter_rule.read kept ts) (filter_of) (post_what_rule.read kept ts)
unfolding post_what_rule
post_filter ts h0 = part_of (filter_rule.read kept ts) (filter_of) (post_what_rule.read kept ts) (post_at_filter (filter_rule.read kept) (post_map_rule.read kept) ts h0)

pub post_filter_value : (ts : List Tok) (a : List Cond) (vs : List Tok) → Peeked true (is_word (codes "filter")) ts → filter_rule.read kept ts ≡ got a vs → post_what_rule.read kept ts ≡ got ((filter_of) a) vs
post_filter_value ts a vs h0 e = (post_filter ts h0).value a vs e

pub post_filter_halt : (ts : List Tok) (x : Stop) → Peeked true (is_word (codes "filter")) ts → Halts x (filter_rule.read kept ts) → Halts x (post_what_rule.read kept ts)
post_filter_halt ts x h0 e = (post_filter ts h0).halt x e

post_map : (ts : List Tok) → Peeked false (is_word (codes "filter")) ts → Part (post_map_rule.read kept ts) (map_of) (post_what_rule.read kept ts)
unfolding post_what_rule
post_map ts h0 = part_of (post_map_rule.read kept ts) (map_of) (post_what_rule.read kept ts) (post_at_map (filter_rule.read kept) (post_map_rule.read kept) ts h0)

pub post_map_value : (ts : List Tok) (a : List MapCol) (vs : List Tok) → Peeked false (is_word (codes "filter")) ts → post_map_rule.read kept ts ≡ got a vs → post_what_rule.read kept ts ≡ got ((map_of) a) vs
post_map_value ts a vs h0 e = (post_map ts h0).value a vs e

pub post_map_halt : (ts : List Tok) (x : Stop) → Peeked false (is_word (codes "filter")) ts → Halts x (post_map_rule.read kept ts) → Halts x (post_what_rule.read kept ts)
post_map_halt ts x h0 e = (post_map ts h0).halt x e

-- ---- folds

abbrev sum_rule : List Name → Rule (Name × ℕ)
sum_rule keys = keyword (codes "sum") ▸ pair (column_rule keys) (keyword (codes "width") ▸ number_in 1 64)

abbrev others_rule : List Name → Rule (FoldWord × Name)
others_rule keys = pair plain_fold (column_rule keys)

abbrev to_sum : List Name → Name × ℕ → Reduce
to_sum keys x = fold_to keys (inl x)

abbrev to_other : List Name → FoldWord × Name → Reduce
to_other keys x = fold_to keys (inr x)

abbrev W : Lexeme → Bool
W = is_word (codes "sum")

pub fold_sum : (keys : List Name) (ts : List Tok) → Peeked true (is_word (codes "sum")) ts → fold_read keys ts ≡ bind ((sum_rule keys).read kept ts) (λ x us. got (to_sum keys x) us)
unfolding fold_rule
fold_sum keys ts h = ap (λ r. bind r (λ x us. got (fold_to keys x) us)) (picked W ((sum_rule keys).read kept) ((others_rule keys).read kept) ts h) ∙ then_part ((sum_rule keys).read kept ts) lefts (fold_to keys)

pub fold_other : (keys : List Name) (ts : List Tok) → Peeked false (is_word (codes "sum")) ts → fold_read keys ts ≡ bind ((others_rule keys).read kept ts) (λ x us. got (to_other keys x) us)
unfolding fold_rule
fold_other keys ts h = ap (λ r. bind r (λ x us. got (fold_to keys x) us)) (passed_over W ((sum_rule keys).read kept) ((others_rule keys).read kept) ts h) ∙ then_part ((others_rule keys).read kept ts) rights (fold_to keys)

-- ---- the cases of each function that reads one of several

pub ruleset expr_cases = (expr_number_value, expr_number_halt, expr_no_name, expr_mask_value, expr_mask_halt, expr_shift_value, expr_shift_halt, expr_copy)

pub ruleset post_expr_cases = (
  post_expr_number_value,
  post_expr_number_halt,
  post_expr_no_name,
  post_expr_mask_value,
  post_expr_mask_halt,
  post_expr_shift_value,
  post_expr_shift_halt,
  post_expr_sum_value,
  post_expr_sum_halt,
  post_expr_ratio_value,
  post_expr_ratio_halt,
  post_expr_copy,
)

pub ruleset what_cases = (what_filter_value, what_filter_halt, what_map_value, what_map_halt, what_distinct_value, what_distinct_halt, what_reduce_value, what_reduce_halt)

pub ruleset post_what_cases = (post_filter_value, post_filter_halt, post_map_value, post_map_halt)
