-- What a rule gives on the tokens of a text: a value with the last of them still ahead, or a fault of the format.
use Rattle.std.proofs.Common.{◌≡◌, ℕ, zero, suc, ◌≤◌, Bool, true, false, cond, List, [], ◌∷◌, ◌++◌, length, Option, Some, None, Result, Ok, Err, refl, sym, ap, ◌∙◌, subst, arith, inl, inr, ◌⊎◌}
use Rattle.std.specs.Prelude.{nat_le, ◌&&◌}
use Rattle.sn_text_rules.specs.declared.Flaw.{Flaw}
use Rattle.sn_text_rules.specs.declared.Flaw.TheVariants.{Lex, Expected}
use Rattle.sn_text_rules.specs.Tokens.{Lexeme, word, number, symbol, finish, bad, is_last, Tok, Mark, plain, lined, Read, got, fails, short, bind}
use Rattle.sn_text_rules.specs.Rules.{Limits, kept, Rule, Accepts, FirstFault, judged, one, pair_on, pair, embedded, renamed, maybe, either, closed, links, many, series, past, either_rule}
use Rattle.sn_text_rules.specs.Words.{wrong, is_word, is_symbol, is_finish, passed, the, keyword, sign, the_end, line_at, line_of_word, line_of_sign, judged_as, judged_by, leaf, word_in, number_at, word_by, number_by, number_in, in_range, second, as_second, first, with_second, ◌▸◌, ◌◂◌, full, commas}
use Rattle.sn_text_rules.proofs.Common.{either_way}
use Rattle.sn_text_rules.proofs.Laws.{Good}
use Rattle.sn_text_rules.proofs.Series.{Alike, some_or_none, fewer, links_go, links_fail, links_shut, links_over}
use Rattle.sn_text_rules.proofs.Faults.{found_of, fault_of}
use Rattle.sn_text_rules.proofs.Starts.{Starting}
use Rattle.sn_text_rules.proofs.Words.{IsMark, word_mark, symbol_mark, Stands_for, words_stand, numbers_stand, Listed, comma_alike}

-- the flaws of a format: those that ok passes, with both of a token that can't stand
pub record Flaws : Type 0 where
  pub ok : Flaw → Bool
  pub lex : ok Lex ≡ true
  pub expected : ok Expected ≡ true

-- the last token, and it alone, is the end of the text or no token
abbrev pub Ended : List Tok → Type 0
Ended [] = ⊥
Ended (t ∷ ts) = ((is_last t.face ≡ true) × (ts ≡ [])) ⊎ ((is_last t.face ≡ false) × Ended ts)

abbrev pub Inside : {A : Type 0} → Flaws → Read A → Type 0
Inside o (got a us) = Ended us
Inside o (fails x us) = o.ok x ≡ true
Inside o short = ⊥

-- the rule doesn't read past the last token, and its faults are the format's
pub record Bounded {A : Type 0} (o : Flaws) (r : Rule A) : Type 0 where
  pub inside : (ts : List Tok) → Ended ts → Inside o (r.read kept ts)

-- ---- readings

bind_inside : {A B : Type 0} (o : Flaws) (r : Read A) (f : A → List Tok → Read B) → Inside o r → ((a : A) (us : List Tok) → Ended us → Inside o (f a us)) → Inside o (bind r f)
bind_inside o (got a us) f h k = k a us h
bind_inside o (fails x us) f h k = h
bind_inside o short f h k = absurd h

cond_inside : {A : Type 0} (o : Flaws) (b : Bool) (r s : Read A) → Inside o r → Inside o s → Inside o (cond b r s)
cond_inside o true r s h k = h
cond_inside o false r s h k = k

-- ---- one token

pub wrong_ok : (o : Flaws) (x : Lexeme) → o.ok (wrong x) ≡ true
wrong_ok o (word w) = o.expected
wrong_ok o (number n) = o.expected
wrong_ok o (symbol k) = o.expected
wrong_ok o finish = o.expected
wrong_ok o bad = o.lex

-- a judge takes no last token, and its flaws are the format's
abbrev pub Judges : {A : Type 0} → Flaws → Lexeme → Result A Flaw → Type 0
Judges o x (Ok a) = is_last x ≡ false
Judges o x (Err y) = o.ok y ≡ true

judged_inside : {A : Type 0} (o : Flaws) (r : Result A Flaw) (t : Tok) (ts : List Tok) → Judges o t.face r → Ended (t ∷ ts) → Inside o (judged r t ts)
judged_inside o (Ok a) t ts h (inl k) = absurd cc
judged_inside o (Ok a) t ts h (inr k) = k.1
judged_inside o (Err x) t ts h e = h

pub one_bounded : {A : Type 0} (o : Flaws) (mark : A → Mark) (fits : Limits → A → Type 0) (judge : Limits → Tok → Result A Flaw) (bare : A → A) → ((t : Tok) → Judges o t.face (judge kept t)) → Bounded o (one mark fits judge bare)
one_bounded {A} o mark fits judge bare h = record { inside = go }
  where
    go : (ts : List Tok) → Ended ts → Inside o ((one mark fits judge bare).read kept ts)
    go [] e = absurd e
    go (t ∷ ts) e = judged_inside o (judge kept t) t ts (h t) e

passed_judges : {A : Type 0} (o : Flaws) (b : Bool) (a : A) (x : Lexeme) → (b ≡ true → is_last x ≡ false) → Judges o x (passed b a x)
passed_judges o true a x h = h refl
passed_judges o false a x h = wrong_ok o x

-- no last token passes goes
ahead : (face : Lexeme) (goes : Lexeme → Bool) → IsMark face goes → is_last face ≡ false → (x : Lexeme) → goes x ≡ true → is_last x ≡ false
ahead face goes m e x h = ap is_last (m.only x h) ∙ e

the_bounded : (o : Flaws) (face : Lexeme) (goes : Lexeme → Bool) → IsMark face goes → is_last face ≡ false → Bounded o (the face goes)
the_bounded o face goes m e = one_bounded o (λ (u : Unit {0}). plain face) (λ l u. Unit {0}) (λ l t. passed (goes t.face) tt t.face) (λ u. u) (λ t. passed_judges o (goes t.face) tt t.face (ahead face goes m e t.face))

pub keyword_bounded : (o : Flaws) (text : List ℕ) → Bounded o (keyword text)
keyword_bounded o text = the_bounded o (word text) (is_word text) (word_mark text) refl

pub sign_bounded : (o : Flaws) (k : ℕ) → Bounded o (sign k)
sign_bounded o k = the_bounded o (symbol k) (is_symbol k) (symbol_mark k) refl

line_bounded : (o : Flaws) (face : Lexeme) (goes : Lexeme → Bool) → IsMark face goes → is_last face ≡ false → Bounded o (line_at face goes)
line_bounded o face goes m e = one_bounded o (lined face) (λ l line. Unit {0}) (λ l t. passed (goes t.face) t.line t.face) (λ line. 0) (λ t. passed_judges o (goes t.face) t.line t.face (ahead face goes m e t.face))

pub line_of_word_bounded : (o : Flaws) (text : List ℕ) → Bounded o (line_of_word text)
line_of_word_bounded o text = line_bounded o (word text) (is_word text) (word_mark text) refl

pub line_of_sign_bounded : (o : Flaws) (k : ℕ) → Bounded o (line_of_sign k)
line_of_sign_bounded o k = line_bounded o (symbol k) (is_symbol k) (symbol_mark k) refl

-- the flaw of a test, if it has one, is the format's
abbrev pub Allows : Flaws → Option Flaw → Type 0
Allows o None = Unit {0}
Allows o (Some x) = o.ok x ≡ true

pub if_allows : (o : Flaws) (b : Bool) (x y : Option Flaw) → Allows o x → Allows o y → Allows o (cond b x y)
if_allows o true x y h k = h
if_allows o false x y h k = k

pub full_allows : {A : Type 0} (o : Flaws) (limit : ℕ) (x : Flaw) → o.ok x ≡ true → (seen : List A) → Allows o (full limit x seen)
full_allows o limit x h seen = if_allows o (nat_le limit (length seen)) (Some x) None h tt

by_judges : {A : Type 0} (o : Flaws) (test : A → Option Flaw) (x : Lexeme) (got : Option A) → ((a : A) → Allows o (test a)) → ((a : A) → got ≡ Some a → is_last x ≡ false) → Judges o x (judged_by test kept x got)
by_judges o test x None h k = wrong_ok o x
by_judges o test x (Some a) h k = as_judges (test a) (h a)
  where
    as_judges : (y : Option Flaw) → Allows o y → Judges o x (judged_as a (closed kept y))
    as_judges None e = k a refl
    as_judges (Some y) e = e

pub leaf_bounded : {A : Type 0} (o : Flaws) (face : A → Lexeme) (get : Lexeme → Option A) (test : A → Option Flaw) → Stands_for face get → ((a : A) → is_last (face a) ≡ false) → ((a : A) → Allows o (test a)) → Bounded o (leaf face get test)
leaf_bounded {A} o face get test s e h = one_bounded o (λ (a : A). plain (face a)) (λ l a. closed l (test a) ≡ None) (λ l t. judged_by test l t.face (get t.face)) (λ a. a)
    (λ t. by_judges o test t.face (get t.face) h (λ a k. ap is_last (s.only t.face a k) ∙ e a))

pub word_by_bounded : (o : Flaws) (test : List ℕ → Option Flaw) → ((w : List ℕ) → Allows o (test w)) → Bounded o (word_by test)
word_by_bounded o test h = leaf_bounded o word word_in test words_stand (λ w. refl) h

pub number_by_bounded : (o : Flaws) (test : ℕ → Option Flaw) → ((n : ℕ) → Allows o (test n)) → Bounded o (number_by test)
number_by_bounded o test h = leaf_bounded o number number_at test numbers_stand (λ n. refl) h

pub number_in_bounded : (o : Flaws) (low high : ℕ) → Bounded o (number_in low high)
number_in_bounded o low high = number_by_bounded o (in_range low high) (λ n. if_allows o (nat_le low n && nat_le n high) None (Some Expected) tt o.expected)

-- ---- parts

pub pair_on_bounded : {A B : Type 0} {o : Flaws} {p : Rule A} {q : A → Rule B} (follow : List Tok → Bool) → Bounded o p → ((a : A) → Bounded o (q a)) → Bounded o (pair_on p q follow)
pair_on_bounded {o = o} {p = p} {q = q} follow h k = record { inside = λ ts e. bind_inside o (p.read kept ts) _ (h.inside ts e) (λ a us f. bind_inside o ((q a).read kept us) _ ((k a).inside us f) (λ b vs g. g)) }

pub pair_bounded : {A B : Type 0} {o : Flaws} {p : Rule A} {q : Rule B} → Bounded o p → Bounded o q → Bounded o (pair p q)
pair_bounded {q = q} h k = pair_on_bounded q.follow h (λ a. k)

pub embedded_bounded : {A B : Type 0} {o : Flaws} (to : A → B) (from : B → Option A) {p : Rule A} → Bounded o p → Bounded o (embedded to from p)
embedded_bounded {o = o} to from {p = p} h = record { inside = λ ts e. bind_inside o (p.read kept ts) _ (h.inside ts e) (λ a us f. f) }

pub renamed_bounded : {A B : Type 0} {o : Flaws} (to : A → B) (from : B → A) {p : Rule A} → Bounded o p → Bounded o (renamed to from p)
renamed_bounded to from h = embedded_bounded to (λ b. Some (from b)) h

pub after_bounded : {A : Type 0} {o : Flaws} {p : Rule (Unit {0})} {q : Rule A} → Bounded o p → Bounded o q → Bounded o (p ▸ q)
after_bounded h k = renamed_bounded second as_second (pair_bounded h k)

pub before_bounded : {A : Type 0} {o : Flaws} {p : Rule A} {q : Rule (Unit {0})} → Bounded o p → Bounded o q → Bounded o (p ◂ q)
before_bounded h k = renamed_bounded first with_second (pair_bounded h k)

pub maybe_bounded : {A : Type 0} {o : Flaws} (goes : Lexeme → Bool) {p : Rule A} → Bounded o p → Bounded o (maybe goes p)
maybe_bounded {A} {o = o} goes {p = p} h = record { inside = go }
  where
    go : (ts : List Tok) → Ended ts → Inside o ((maybe goes p).read kept ts)
    go [] e = absurd e
    go (t ∷ ts) e = cond_inside o (goes t.face) _ _ (bind_inside o (p.read kept (t ∷ ts)) _ (h.inside (t ∷ ts) e) (λ a us f. f)) e

pub either_bounded : {A B : Type 0} {o : Flaws} (goes : Lexeme → Bool) {p : Rule A} {q : Rule B} → Bounded o p → Bounded o q → Bounded o (either goes p q)
either_bounded {A} {B} {o = o} goes {p = p} {q = q} h k = record { inside = go }
  where
    go : (ts : List Tok) → Ended ts → Inside o ((either goes p q).read kept ts)
    go [] e = absurd e
    go (t ∷ ts) e = cond_inside o (goes t.face) _ _ (bind_inside o (p.read kept (t ∷ ts)) _ (h.inside (t ∷ ts) e) (λ a us f. f)) (bind_inside o (q.read kept (t ∷ ts)) _ (k.inside (t ∷ ts) e) (λ b us f. f))

past_bounded : {A : Type 0} {o : Flaws} (begun : Lexeme → Flaw) (p : Rule A) → ((x : Lexeme) → o.ok (begun x) ≡ true) → Bounded o (past begun p)
past_bounded {A} {o = o} begun p h = record { inside = go }
  where
    go : (ts : List Tok) → Ended ts → Inside o ((past begun p).read kept ts)
    go [] e = absurd e
    go (t ∷ ts) e = h t.face

-- ---- lists

module _ {A : Type 0} {o : Flaws} {goes : Lexeme → Bool} {shut : List A → Option Flaw} {p : List A → Rule A} (alike : Alike goes shut p) (open_at : (seen : List A) → Allows o (shut seen)) (h : (seen : List A) → Bounded o (p seen)) where
  abbrev L : List A → List Tok → Read (List A)
  L seen ts = links goes shut p kept seen ts

  shut_ok : (seen : List A) (x : Flaw) (y : Option Flaw) → y ≡ Some x → Allows o y → o.ok x ≡ true
  shut_ok seen x None e a = absurd cc
  shut_ok seen x (Some z) e a = let k : z ≡ x = cc in ap o.ok (sym k) ∙ a

  links_by : (n : ℕ) (seen : List A) (ts : List Tok) → length ts ≤ n → Ended ts → Inside o (L seen ts)
  links_by n seen [] b e = absurd e
  links_by zero seen (t ∷ ts) b e = absurd (omega arith)
  links_by (suc n) seen (t ∷ ts) b e = elim (either_way (goes t.face)) [
    | inl g ↦ elim (some_or_none (shut seen)) [
      | inl i ↦ item (λ a us less w. links_by n (seen ++ a ∷ []) us less w) ((p seen).read kept (t ∷ ts)) refl ((h seen).inside (t ∷ ts) e) g i
      | inr x ↦ subst (Inside o) (sym (links_shut alike kept seen t ts x.0 g x.1)) (shut_ok seen x.0 (shut seen) x.1 (open_at seen))
    ]
    | inr g ↦ subst (Inside o) (sym (links_over alike kept seen t ts g)) e
  ]
    where
      item : ((a : A) (us : List Tok) → length us ≤ n → Ended us → Inside o (L (seen ++ a ∷ []) us)) → (r : Read A) → (p seen).read kept (t ∷ ts) ≡ r → Inside o r → goes t.face ≡ true → shut seen ≡ None → Inside o (L seen (t ∷ ts))
      item more (got a us) f w g i =
          let less = fewer alike kept seen (t ∷ ts) us a f in
          subst (Inside o) (sym (links_go alike kept seen t ts us a g i f)) (more a us (omega arith) w)
      item more (fails x us) f w g i = subst (Inside o) (sym (links_fail alike kept seen t ts us x g i f)) w
      item more short f w g i = absurd w

  pub many_bounded : Bounded o (many goes shut p)
  many_bounded = record { inside = λ ts e. links_by (length ts) [] ts (omega arith) e }

  pub series_bounded : {start : Rule A} → Bounded o start → Bounded o (series start goes shut p)
  series_bounded {start = start} k = record { inside = λ ts e. bind_inside o (start.read kept ts) _ (k.inside ts e) (λ a us f. links_by (length us) (a ∷ []) us (omega arith) f) }

item_bounded : {A : Type 0} {o : Flaws} (b : Bool) {p q : Rule A} → Bounded o p → Bounded o q → Bounded o (either_rule b p q)
item_bounded true h k = h
item_bounded false h k = k

pub commas_bounded : {A : Type 0} {o : Flaws} (limit : ℕ) {begun : Lexeme → Flaw} {p : List A → Rule A} → Listed begun p → ((x : Lexeme) → o.ok (begun x) ≡ true) → ((seen : List A) → Bounded o (p seen)) → Bounded o (commas limit begun p)
commas_bounded {o = o} limit {begun = begun} {p = p} listed b h = series_bounded (comma_alike limit listed) (λ seen. tt)
    (λ seen. after_bounded (sign_bounded o 3) (item_bounded (nat_le limit (length seen)) (past_bounded begun (p []) b) (h seen))) (h [])

-- ---- the whole text

abbrev pub Done : {A : Type 0} → Flaws → Read A → Type 0
Done o (got a us) = us ≡ []
Done o (fails x us) = o.ok x ≡ true
Done o short = ⊥

-- the rule reads a text to its end, or to a fault of the format
pub record Whole {A : Type 0} (o : Flaws) (r : Rule A) : Type 0 where
  pub done : (ts : List Tok) → Ended ts → Done o (r.read kept ts)

bind_done : {A B : Type 0} (o : Flaws) (r : Read A) (f : A → List Tok → Read B) → Inside o r → ((a : A) (us : List Tok) → Ended us → Done o (f a us)) → Done o (bind r f)
bind_done o (got a us) f h k = k a us h
bind_done o (fails x us) f h k = h
bind_done o short f h k = absurd h

-- a value is kept, and nothing more is read
kept_done : {A B : Type 0} (o : Flaws) (r : Read A) (f : A → B) → Done o r → Done o (bind r (λ a us. got (f a) us))
kept_done o (got a us) f h = h
kept_done o (fails x us) f h = h
kept_done o short f h = absurd h

-- a token that stands for the end of the text
pub end_whole : {A : Type 0} (o : Flaws) (face : A → Lexeme) (get : Lexeme → Option A) (test : A → Option Flaw) → Stands_for face get → ((a : A) → is_last (face a) ≡ true) → ((a : A) → Allows o (test a)) → Whole o (leaf face get test)
end_whole {A} o face get test s l h = record { done = go }
  where
    by : (t : Tok) (ts : List Tok) (g : Option A) → get t.face ≡ g → Ended (t ∷ ts) → Done o (judged (judged_by test kept t.face g) t ts)
    by t ts None e d = wrong_ok o t.face
    by t ts (Some a) e (inl d) = end (test a) (h a)
      where
        end : (y : Option Flaw) → Allows o y → Done o (judged (judged_as a (closed kept y)) t ts)
        end None k = d.1
        end (Some y) k = k
    by t ts (Some a) e (inr d) = let k : true ≡ false = sym (l a) ∙ ap is_last (sym (s.only t.face a e)) ∙ d.0 in absurd cc

    go : (ts : List Tok) → Ended ts → Done o ((leaf face get test).read kept ts)
    go [] d = absurd d
    go (t ∷ ts) d = by t ts (get t.face) refl d

pub the_end_whole : (o : Flaws) → Whole o the_end
the_end_whole o = record { done = go }
  where
    at : (x : Lexeme) (t : Tok) (ts : List Tok) → t.face ≡ x → Ended (t ∷ ts) → Done {A = Unit {0}} o (judged (passed (is_finish x) tt x) t ts)
    at (word w) t ts e d = o.expected
    at (number n) t ts e d = o.expected
    at (symbol k) t ts e d = o.expected
    at finish t ts e (inl d) = d.1
    at finish t ts e (inr d) = let k : true ≡ false = ap is_last (sym e) ∙ d.0 in absurd cc
    at bad t ts e d = o.lex

    go : (ts : List Tok) → Ended ts → Done o (the_end.read kept ts)
    go [] d = absurd d
    go (t ∷ ts) d = at t.face t ts refl d

pub pair_on_whole : {A B : Type 0} {o : Flaws} {p : Rule A} {q : A → Rule B} (follow : List Tok → Bool) → Bounded o p → ((a : A) → Whole o (q a)) → Whole o (pair_on p q follow)
pair_on_whole {o = o} {p = p} {q = q} follow h k = record { done = λ ts e. bind_done o (p.read kept ts) _ (h.inside ts e) (λ a us f. kept_done o ((q a).read kept us) (λ b. (a, b)) ((k a).done us f)) }

pub pair_whole : {A B : Type 0} {o : Flaws} {p : Rule A} {q : Rule B} → Bounded o p → Whole o q → Whole o (pair p q)
pair_whole {q = q} h k = pair_on_whole q.follow h (λ a. k)

pub renamed_whole : {A B : Type 0} {o : Flaws} (to : A → B) (from : B → A) {p : Rule A} → Whole o p → Whole o (renamed to from p)
renamed_whole {o = o} to from {p = p} h = record { done = λ ts e. kept_done o (p.read kept ts) to (h.done ts e) }

pub after_whole : {A : Type 0} {o : Flaws} {p : Rule (Unit {0})} {q : Rule A} → Bounded o p → Whole o q → Whole o (p ▸ q)
after_whole h k = renamed_whole second as_second (pair_whole h k)

pub before_whole : {A : Type 0} {o : Flaws} {p : Rule A} {q : Rule (Unit {0})} → Bounded o p → Whole o q → Whole o (p ◂ q)
before_whole h k = renamed_whole first with_second (pair_whole h k)

-- ---- what a text is

abbrev pub Tells : {A : Type 0} → Flaws → Read A → Type 0
Tells o (got a us) = Unit {0}
Tells o (fails x us) = o.ok x ≡ true
Tells o short = ⊥

-- the rule gives a value, whatever is after it, or a fault of the format
pub record Telling {A : Type 0} (o : Flaws) (r : Rule A) : Type 0 where
  pub reported : (ts : List Tok) → Ended ts → Tells o (r.read kept ts)

bind_tells : {A B : Type 0} (o : Flaws) (r : Read A) (f : A → List Tok → Read B) → Inside o r → ((a : A) (us : List Tok) → Ended us → Tells o (f a us)) → Tells o (bind r f)
bind_tells o (got a us) f h k = k a us h
bind_tells o (fails x us) f h k = h
bind_tells o short f h k = absurd h

kept_tells : {A B : Type 0} (o : Flaws) (r : Read A) (f : A → B) → Tells o r → Tells o (bind r (λ a us. got (f a) us))
kept_tells o (got a us) f h = tt
kept_tells o (fails x us) f h = h
kept_tells o short f h = absurd h

pub pair_telling : {A B : Type 0} {o : Flaws} {p : Rule A} {q : Rule B} → Bounded o p → Telling o q → Telling o (pair p q)
pair_telling {o = o} {p = p} {q = q} h k = record { reported = λ ts e. bind_tells o (p.read kept ts) _ (h.inside ts e) (λ a us f. kept_tells o (q.read kept us) (λ b. (a, b)) (k.reported us f)) }

pub leaf_telling : {A : Type 0} (o : Flaws) (face : A → Lexeme) (get : Lexeme → Option A) (test : A → Option Flaw) → ((a : A) → Allows o (test a)) → Telling o (leaf face get test)
leaf_telling {A} o face get test h = record { reported = go }
  where
    by : (t : Tok) (ts : List Tok) (g : Option A) → Tells o (judged (judged_by test kept t.face g) t ts)
    by t ts None = wrong_ok o t.face
    by t ts (Some a) = end (test a) (h a)
      where
        end : (y : Option Flaw) → Allows o y → Tells o (judged (judged_as a (closed kept y)) t ts)
        end None k = tt
        end (Some y) k = k

    go : (ts : List Tok) → Ended ts → Tells o ((leaf face get test).read kept ts)
    go [] d = absurd d
    go (t ∷ ts) d = by t ts (get t.face)

-- a first fault of the format
pub record Faulty {A : Type 0} (o : Flaws) (r : Rule A) (ts : List Tok) : Type 0 where
  pub flaw : Flaw
  pub line : ℕ
  pub column : ℕ
  pub ok : o.ok flaw ≡ true
  pub first : FirstFault r ts flaw line column

pub fault_at : {A : Type 0} {o : Flaws} {r : Rule A} → Good r → Starting r → r.follow [] ≡ true → (ts us : List Tok) (x : Flaw) → r.read kept ts ≡ fails x us → o.ok x ≡ true → Faulty o r ts
fault_at {r = r} g starts ends ts us x e h =
    let s = g.stands kept ts us x e in
    record { flaw = x; line = s.at.line; column = s.at.column; ok = h; first = fault_of r g starts ends ts us s.rest s.at x e s.head }

-- the value of a text, or its first fault
pub what_it_is : {A : Type 0} {o : Flaws} {r : Rule A} → Good r → Starting r → r.follow [] ≡ true → Whole o r → (ts : List Tok) → Ended ts → ((a : A) × Accepts r ts a) ⊎ Faulty o r ts
what_it_is {A} {o = o} {r = r} g starts ends w ts e = go (r.read kept ts) refl (w.done ts e)
  where
    go : (x : Read A) → r.read kept ts ≡ x → Done o x → ((a : A) × Accepts r ts a) ⊎ Faulty o r ts
    go (got a us) q d = inl (a, found_of r g ts a (q ∙ ap (got a) d))
    go (fails x us) q d = inr (fault_at g starts ends ts us x q d)
    go short q d = absurd d

pub whole_ok : {A : Type 0} {o : Flaws} {r : Rule A} → Whole o r → (ts us : List Tok) (x : Flaw) → Ended ts → r.read kept ts ≡ fails x us → o.ok x ≡ true
whole_ok {o = o} w ts us x d e = subst (Done o) e (w.done ts d)

pub reported_ok : {A : Type 0} {o : Flaws} {r : Rule A} → Telling o r → (ts us : List Tok) (x : Flaw) → Ended ts → r.read kept ts ≡ fails x us → o.ok x ≡ true
reported_ok {o = o} w ts us x d e = subst (Tells o) e (w.reported ts d)
