-- One token as the code reads it.
use Rattle.std.proofs.Common.{◌≡◌, ℕ, Bool, true, false, cond, List, [], ◌∷◌, Option, Some, None, Result, Ok, Err, refl, sym, ap, ◌∙◌, subst}
use Rattle.sn_text_rules.specs.declared.Flaw.{Flaw}
use Rattle.sn_text_rules.specs.Tokens.{Lexeme, word, number, symbol, finish, bad, Tok, Read, got, fails, bind}
use Rattle.sn_text_rules.specs.Rules.{kept, token_at, maybe_at}
use Rattle.sn_text_rules.specs.Words.{is_word, is_symbol, is_finish, wrong, passed, judged_by, word_in, number_at, in_range}
use Rattle.sn_text.specs.Cutting.{is_last}
use Rattle.sn_text.specs.Reading.{Peeked}
use Rattle.sn_text.proofs.Lasts.{last_finish}

-- the tokens are t and those after it
abbrev pub Next : List Tok → Tok → List Tok → Type 0
Next ts t us = ts ≡ t ∷ cond (is_last t.face) [] us

pub gives : {A : Type 0} (judge : Tok → Result A Flaw) (ts us : List Tok) (t : Tok) (a : A) → Next ts t us → is_last t.face ≡ false → judge t ≡ Ok a → token_at judge ts ≡ got a us
gives judge ts us t a h l j = ap (token_at judge) h ∙ rw (j, l) refl

pub halts : {A : Type 0} (judge : Tok → Result A Flaw) (ts us : List Tok) (t : Tok) (x : Flaw) → Next ts t us → judge t ≡ Err x → token_at judge ts ≡ fails x ts
halts judge ts us t x h j = ap (token_at judge) h ∙ rw j refl ∙ ap (fails x) (sym h)

pub word_inside : (text : List ℕ) (x : Lexeme) → is_word text x ≡ true → is_last x ≡ false
word_inside text (word w) e = refl
word_inside text (number n) e = refl
word_inside text (symbol k) e = refl
word_inside text finish e = absurd cc
word_inside text bad e = absurd cc

pub symbol_inside : (k : ℕ) (x : Lexeme) → is_symbol k x ≡ true → is_last x ≡ false
symbol_inside k (word w) e = refl
symbol_inside k (number n) e = refl
symbol_inside k (symbol j) e = refl
symbol_inside k finish e = absurd cc
symbol_inside k bad e = absurd cc

abbrev the_word : List ℕ → Tok → Result (Unit {0}) Flaw
the_word text t = passed {A = Unit {0}} (is_word text t.face) tt t.face

abbrev the_symbol : ℕ → Tok → Result (Unit {0}) Flaw
the_symbol k t = passed {A = Unit {0}} (is_symbol k t.face) tt t.face

abbrev the_finish : Tok → Result (Unit {0}) Flaw
the_finish t = passed {A = Unit {0}} (is_finish t.face) tt t.face

pub word_gives : (text : List ℕ) (ts us : List Tok) (t : Tok) → Next ts t us → is_word text t.face ≡ true → token_at (λ t. passed {A = Unit {0}} (is_word text t.face) tt t.face) ts ≡ got tt us
word_gives text ts us t h e = gives (the_word text) ts us t tt h (word_inside text t.face e) (rw e refl)

pub word_halts : (text : List ℕ) (ts us : List Tok) (t : Tok) → Next ts t us → is_word text t.face ≡ false → token_at (λ t. passed {A = Unit {0}} (is_word text t.face) tt t.face) ts ≡ fails (wrong t.face) ts
word_halts text ts us t h e = halts (the_word text) ts us t (wrong t.face) h (rw e refl)

pub symbol_gives : (k : ℕ) (ts us : List Tok) (t : Tok) → Next ts t us → is_symbol k t.face ≡ true → token_at (λ t. passed {A = Unit {0}} (is_symbol k t.face) tt t.face) ts ≡ got tt us
symbol_gives k ts us t h e = gives (the_symbol k) ts us t tt h (symbol_inside k t.face e) (rw e refl)

pub symbol_halts : (k : ℕ) (ts us : List Tok) (t : Tok) → Next ts t us → is_symbol k t.face ≡ false → token_at (λ t. passed {A = Unit {0}} (is_symbol k t.face) tt t.face) ts ≡ fails (wrong t.face) ts
symbol_halts k ts us t h e = halts (the_symbol k) ts us t (wrong t.face) h (rw e refl)

pub word_line_gives : (text : List ℕ) (ts us : List Tok) (t : Tok) → Next ts t us → is_word text t.face ≡ true → token_at (λ t. passed (is_word text t.face) t.line t.face) ts ≡ got t.line us
word_line_gives text ts us t h e = gives (λ t. passed (is_word text t.face) t.line t.face) ts us t t.line h (word_inside text t.face e) (rw e refl)

pub word_line_halts : (text : List ℕ) (ts us : List Tok) (t : Tok) → Next ts t us → is_word text t.face ≡ false → token_at (λ t. passed (is_word text t.face) t.line t.face) ts ≡ fails (wrong t.face) ts
word_line_halts text ts us t h e = halts (λ t. passed (is_word text t.face) t.line t.face) ts us t (wrong t.face) h (rw e refl)

pub symbol_line_gives : (k : ℕ) (ts us : List Tok) (t : Tok) → Next ts t us → is_symbol k t.face ≡ true → token_at (λ t. passed (is_symbol k t.face) t.line t.face) ts ≡ got t.line us
symbol_line_gives k ts us t h e = gives (λ t. passed (is_symbol k t.face) t.line t.face) ts us t t.line h (symbol_inside k t.face e) (rw e refl)

pub symbol_line_halts : (k : ℕ) (ts us : List Tok) (t : Tok) → Next ts t us → is_symbol k t.face ≡ false → token_at (λ t. passed (is_symbol k t.face) t.line t.face) ts ≡ fails (wrong t.face) ts
symbol_line_halts k ts us t h e = halts (λ t. passed (is_symbol k t.face) t.line t.face) ts us t (wrong t.face) h (rw e refl)

pub end_gives : (ts us : List Tok) (t : Tok) → Next ts t us → is_finish t.face ≡ true → token_at (λ t. passed {A = Unit {0}} (is_finish t.face) tt t.face) ts ≡ got tt []
end_gives ts us t h e = ap (token_at the_finish) h ∙ rw (e, last_finish t.face e) refl

pub end_halts : (ts us : List Tok) (t : Tok) → Next ts t us → is_finish t.face ≡ false → token_at (λ t. passed {A = Unit {0}} (is_finish t.face) tt t.face) ts ≡ fails (wrong t.face) ts
end_halts ts us t h e = halts the_finish ts us t (wrong t.face) h (rw e refl)

-- ---- tokens that stand for a value

abbrev tested : {A : Type 0} → (Lexeme → Option A) → (A → Option Flaw) → Tok → Result A Flaw
tested get test t = judged_by test kept t.face (get t.face)

-- a value isn't read from the last token
module _ {A : Type 0} (get : Lexeme → Option A) (no_finish : get finish ≡ None) (no_bad : get bad ≡ None) (test : A → Option Flaw) where
  none_read : (x : Lexeme) (a : A) → get x ≡ None → Ok a ≡ judged_by test kept x (get x) → ⊥
  none_read x a n e = let h : Ok a ≡ judged_by test kept x None = e ∙ ap (judged_by test kept x) n in absurd cc

  value_inside : (x : Lexeme) (a : A) → Ok a ≡ judged_by test kept x (get x) → is_last x ≡ false
  value_inside (word w) a e = refl
  value_inside (number n) a e = refl
  value_inside (symbol k) a e = refl
  value_inside finish a e = absurd (none_read finish a no_finish e)
  value_inside bad a e = absurd (none_read bad a no_bad e)

  pub leaf_gives : (ts us : List Tok) (t : Tok) (a : A) → Next ts t us → Ok a ≡ judged_by test kept t.face (get t.face) → token_at (λ t. judged_by test kept t.face (get t.face)) ts ≡ got a us
  leaf_gives ts us t a h e = gives (tested get test) ts us t a h (value_inside t.face a e) (sym e)

  pub leaf_halts : (ts us : List Tok) (t : Tok) (x : Flaw) → Next ts t us → Err x ≡ judged_by test kept t.face (get t.face) → token_at (λ t. judged_by test kept t.face (get t.face)) ts ≡ fails x ts
  leaf_halts ts us t x h e = halts (tested get test) ts us t x h (sym e)

pub number_gives : (low high : ℕ) (ts us : List Tok) (t : Tok) (n : ℕ) → Next ts t us → Ok n ≡ judged_by (in_range low high) kept t.face (number_at t.face) → token_at (λ t. judged_by (in_range low high) kept t.face (number_at t.face)) ts ≡ got n us
number_gives low high = leaf_gives number_at refl refl (in_range low high)

pub number_halts : (low high : ℕ) (ts us : List Tok) (t : Tok) (x : Flaw) → Next ts t us → Err x ≡ judged_by (in_range low high) kept t.face (number_at t.face) → token_at (λ t. judged_by (in_range low high) kept t.face (number_at t.face)) ts ≡ fails x ts
number_halts low high = leaf_halts number_at refl refl (in_range low high)

pub name_gives : (test : List ℕ → Option Flaw) (ts us : List Tok) (t : Tok) (w : List ℕ) → Next ts t us → Ok w ≡ judged_by test kept t.face (word_in t.face) → token_at (λ t. judged_by test kept t.face (word_in t.face)) ts ≡ got w us
name_gives test = leaf_gives word_in refl refl test

pub name_halts : (test : List ℕ → Option Flaw) (ts us : List Tok) (t : Tok) (x : Flaw) → Next ts t us → Err x ≡ judged_by test kept t.face (word_in t.face) → token_at (λ t. judged_by test kept t.face (word_in t.face)) ts ≡ fails x ts
name_halts test = leaf_halts word_in refl refl test

-- ---- the next token decides

pub peeked : (goes : Lexeme → Bool) (b : Bool) (ts us : List Tok) (t : Tok) → Next ts t us → b ≡ goes t.face → Peeked b goes ts
peeked goes b ts us t h e = subst (Peeked b goes) (sym h) e

pub there : {A : Type 0} (goes : Lexeme → Bool) (read : List Tok → Read A) (ts : List Tok) → Peeked true goes ts → maybe_at goes read ts ≡ bind (read ts) (λ a us. got (Some a) us)
there goes read [] h = absurd h
there goes read (t ∷ ts) h = rw (← h) refl

pub not_there : {A : Type 0} (goes : Lexeme → Bool) (read : List Tok → Read A) (ts : List Tok) → Peeked false goes ts → maybe_at goes read ts ≡ got None ts
not_there goes read [] h = absurd h
not_there goes read (t ∷ ts) h = rw (← h) refl
