-- The rules of single tokens and of lists with commas keep the laws.
use Rattle.std.proofs.Common.{◌≡◌, ℕ, ◌≤◌, Bool, true, false, List, [], ◌∷◌, ◌++◌, length, map, Option, Some, None, Ok, Err, refl, sym, ap, subst, ◌∙◌, arith}
use Rattle.std.specs.Prelude.{nat_le}
use Rattle.std.specs.Cmp.Lexicographic.{same_text}
use Rattle.std.proofs.lemmas.Bool.{eqb-true, eq-eqb, le-leb}
use Rattle.std.proofs.lemmas.List.{length-map}
use Rattle.sn_text_rules.specs.declared.Flaw.{Flaw}
use Rattle.sn_text_rules.specs.Tokens.{Lexeme, word, number, symbol, finish, bad, Tok, Mark, plain, lined, Spelled}
use Rattle.sn_text_rules.specs.Rules.{Limits, kept, aside, is_limit, Rule, closed, past, either_rule}
use Rattle.sn_text_rules.specs.Words.{same, wrong, is_word, is_symbol, is_finish, passed, the, keyword, sign, the_end, line_at, line_of_word, line_of_sign, judged_as, judged_by, leaf, word_in, number_at, word_by, number_by, in_range, number_in, second, as_second, first, with_second, ◌▸◌, ◌◂◌, never, after_comma, commas}
use Rattle.sn_text_rules.proofs.Common.{bearers, bearers_spelled, remarked}
use Rattle.sn_text_rules.proofs.Laws.{Good, one_good, token_good, Follows, pair_good, free_pair}
use Rattle.sn_text_rules.proofs.Choices.{renamed_good, Past, past_good, Starts}
use Rattle.sn_text_rules.proofs.Series.{Alike, series_good, open_aside, shut_aside, limit_aside}

-- ---- marks

-- goes passes this lexeme alone
pub record IsMark (face : Lexeme) (goes : Lexeme → Bool) : Type 0 where
  pub only : (x : Lexeme) → goes x ≡ true → x ≡ face
  pub its : goes face ≡ true

pub same_self : (w : List ℕ) → same w w ≡ true
same_self [] = refl
same_self (b ∷ w) = rw (eq-eqb b b refl) (same_self w)

pub word_mark : (text : List ℕ) → IsMark (word text) (is_word text)
word_mark text = record { only = only; its = same_self text }
  where
    only : (x : Lexeme) → is_word text x ≡ true → x ≡ word text
    only (word w) e = ap word (same_text w text (sym e))
    only (number n) e = absurd cc
    only (symbol k) e = absurd cc
    only finish e = absurd cc
    only bad e = absurd cc

pub symbol_mark : (k : ℕ) → IsMark (symbol k) (is_symbol k)
symbol_mark k = record { only = only; its = eq-eqb k k refl }
  where
    only : (x : Lexeme) → is_symbol k x ≡ true → x ≡ symbol k
    only (word w) e = absurd cc
    only (number n) e = absurd cc
    only (symbol j) e = ap symbol (eqb-true j k e)
    only finish e = absurd cc
    only bad e = absurd cc

finish_mark : IsMark finish is_finish
finish_mark = record { only = only; its = refl }
  where
    only : (x : Lexeme) → is_finish x ≡ true → x ≡ finish
    only (word w) e = absurd cc
    only (number n) e = absurd cc
    only (symbol j) e = absurd cc
    only finish e = refl
    only bad e = absurd cc

-- ---- one token that is always the same

passed_ok : {A : Type 0} (b : Bool) (a c : A) (x : Lexeme) → passed b a x ≡ Ok c → (b ≡ true) × (a ≡ c)
passed_ok true a c x e = (refl, cc)
passed_ok false a c x e = absurd cc

passed_err : {A : Type 0} (b : Bool) (a : A) (y : Lexeme) (x : Flaw) → passed b a y ≡ Err x → wrong y ≡ x
passed_err true a y x e = absurd cc
passed_err false a y x e = cc

not_limit : (y : Lexeme) (x : Flaw) → is_limit x ≡ true → wrong y ≡ x → ⊥
not_limit (word w) x l e = let j : false ≡ true = ap is_limit e ∙ l in cc
not_limit (number n) x l e = let j : false ≡ true = ap is_limit e ∙ l in cc
not_limit (symbol k) x l e = let j : false ≡ true = ap is_limit e ∙ l in cc
not_limit finish x l e = let j : false ≡ true = ap is_limit e ∙ l in cc
not_limit bad x l e = let j : false ≡ true = ap is_limit e ∙ l in cc

pub the_good : (face : Lexeme) (goes : Lexeme → Bool) → IsMark face goes → Good (the face goes)
the_good face goes m = token_good (λ u. face) (λ l u. Unit {0}) (λ l x. passed (goes x) tt x) (record {
  fine = λ l x a e. (m.only x (passed_ok (goes x) tt a x e).0, tt);
  again = λ l a h. rw m.its refl;
  some = (tt, tt);
  looser = λ a h. tt;
  refuses = λ y x n e. e;
  tells = λ y x n e. absurd (not_limit y x n (passed_err (goes y) tt y x e));
})

pub keyword_good : (text : List ℕ) → Good (keyword text)
keyword_good text = the_good (word text) (is_word text) (word_mark text)

pub sign_good : (k : ℕ) → Good (sign k)
sign_good k = the_good (symbol k) (is_symbol k) (symbol_mark k)

pub end_good : Good the_end
end_good = the_good finish is_finish finish_mark

pub line_good : (face : Lexeme) (goes : Lexeme → Bool) → IsMark face goes → Good (line_at face goes)
line_good face goes m = one_good (λ line. lined face line) (λ l line. Unit {0}) (λ l t. passed (goes t.face) t.line t.face) (λ line. 0) (record {
  fine = λ l t a e. let k = passed_ok (goes t.face) t.line a t.face e in ((m.only t.face k.0, k.1), tt);
  again = λ l t a f h. let k : goes t.face ≡ true = ap goes h.0 ∙ m.its in rw (k, h.1) refl;
  some = (0, tt);
  looser = λ a h. tt;
  refuses = λ t x n e. e;
  tells = λ t x n e. absurd (not_limit t.face x n (passed_err (goes t.face) t.line t.face x e));
  relines = λ a t f e. (t.line, (e, refl), tt, refl);
})

pub line_of_word_good : (text : List ℕ) → Good (line_of_word text)
line_of_word_good text = line_good (word text) (is_word text) (word_mark text)

pub line_of_sign_good : (k : ℕ) → Good (line_of_sign k)
line_of_sign_good k = line_good (symbol k) (is_symbol k) (symbol_mark k)

-- ---- one token that stands for a value

-- get undoes face, and no other lexeme stands for the value
pub record Stands_for {A : Type 0} (face : A → Lexeme) (get : Lexeme → Option A) : Type 0 where
  pub undone : (a : A) → get (face a) ≡ Some a
  pub only : (x : Lexeme) (a : A) → get x ≡ Some a → x ≡ face a

as_ok : {A : Type 0} (a c : A) (o : Option Flaw) → judged_as a o ≡ Ok c → (o ≡ None) × (a ≡ c)
as_ok a c None e = (refl, cc)
as_ok a c (Some x) e = absurd cc

as_err : {A : Type 0} (a : A) (o : Option Flaw) (x : Flaw) → judged_as a o ≡ Err x → o ≡ Some x
as_err a None x e = absurd cc
as_err a (Some y) x e = let h : y ≡ x = cc in ap (λ (z : Flaw). Some z) h

module _ {A : Type 0} (face : A → Lexeme) (get : Lexeme → Option A) (s : Stands_for face get) (test : A → Option Flaw) (some : (a : A) × (closed aside (test a) ≡ None)) where
  leaf_fine : (l : Limits) (x : Lexeme) (a : A) (o : Option A) → get x ≡ o → judged_by test l x o ≡ Ok a → (x ≡ face a) × (closed l (test a) ≡ None)
  leaf_fine l x a None e h = absurd cc
  leaf_fine l x a (Some b) e h =
      let k = as_ok b a (closed l (test b)) h in
      (s.only x b e ∙ ap face k.1, subst (λ (c : A). closed l (test c) ≡ None) k.1 k.0)

  leaf_refuses : (y : Lexeme) (x : Flaw) (o : Option A) → is_limit x ≡ false → judged_by test kept y o ≡ Err x → judged_by test aside y o ≡ Err x
  leaf_refuses y x None n e = e
  leaf_refuses y x (Some b) n e = rw (shut_aside (test b) x (as_err b (test b) x e) n) refl

  leaf_tells : (y : Lexeme) (x : Flaw) (o : Option A) → get y ≡ o → is_limit x ≡ true → judged_by test kept y o ≡ Err x → (a : A) × (closed aside (test a) ≡ None) × (y ≡ face a)
  leaf_tells y x None g n e = absurd (not_limit y x n (wrong_is y x e))
    where
      wrong_is : (y : Lexeme) (x : Flaw) → judged_by test kept y None ≡ Err x → wrong y ≡ x
      wrong_is y x e = cc
  leaf_tells y x (Some b) g n e = (b, limit_aside (test b) x (as_err b (test b) x e) n, s.only y b g)

  pub leaf_good : Good (leaf face get test)
  leaf_good = token_good face (λ l a. closed l (test a) ≡ None) (λ l x. judged_by test l x (get x)) (record {
    fine = λ l x a e. leaf_fine l x a (get x) refl e;
    again = λ l a h. ap (judged_by test l (face a)) (s.undone a) ∙ rw h refl;
    some = some;
    looser = λ a h. open_aside kept (test a) h;
    refuses = λ y x n e. leaf_refuses y x (get y) n e;
    tells = λ y x n e. leaf_tells y x (get y) refl n e;
  })

pub words_stand : Stands_for word word_in
words_stand = record { undone = λ a. refl; only = only }
  where
    only : (x : Lexeme) (a : List ℕ) → word_in x ≡ Some a → x ≡ word a
    only (word w) a e = let h : w ≡ a = cc in ap word h
    only (number n) a e = absurd cc
    only (symbol k) a e = absurd cc
    only finish a e = absurd cc
    only bad a e = absurd cc

pub numbers_stand : Stands_for number number_at
numbers_stand = record { undone = λ a. refl; only = only }
  where
    only : (x : Lexeme) (a : ℕ) → number_at x ≡ Some a → x ≡ number a
    only (word w) a e = absurd cc
    only (number n) a e = let h : n ≡ a = cc in ap number h
    only (symbol k) a e = absurd cc
    only finish a e = absurd cc
    only bad a e = absurd cc

pub word_by_good : (test : List ℕ → Option Flaw) → (w : List ℕ) × (closed aside (test w) ≡ None) → Good (word_by test)
word_by_good test some = leaf_good word word_in words_stand test some

pub number_by_good : (test : ℕ → Option Flaw) → (n : ℕ) × (closed aside (test n) ≡ None) → Good (number_by test)
number_by_good test some = leaf_good number number_at numbers_stand test some

pub number_in_good : (low high : ℕ) → low ≤ high → Good (number_in low high)
number_in_good low high le = number_by_good (in_range low high) (low, (let a : nat_le low low ≡ true = le-leb low low (omega arith) in let b : nat_le low high ≡ true = le-leb low high le in rw (a, b) refl))

-- ---- words and signs before and after a part

pub after_good : {A : Type 0} {p : Rule (Unit {0})} {q : Rule A} → Good p → Good q → ((us : List Tok) → p.follow us ≡ true) → Good (p ▸ q)
after_good gp gq h = renamed_good second as_second (λ a. refl) (λ b. refl) (free_pair gp gq h)

pub before_good : {A : Type 0} {p : Rule A} {q : Rule (Unit {0})} → Good p → Good q → Follows p q → Good (p ◂ q)
before_good gp gq m = renamed_good first with_second (λ a. refl) (λ b. refl) (pair_good gp gq m)

pub after_word : {A : Type 0} (text : List ℕ) {q : Rule A} → Good q → Good (keyword text ▸ q)
after_word text gq = after_good (keyword_good text) gq (λ us. refl)

pub after_sign : {A : Type 0} (k : ℕ) {q : Rule A} → Good q → Good (sign k ▸ q)
after_sign k gq = after_good (sign_good k) gq (λ us. refl)

-- a sign after a rule that it may follow
pub sign_follows : {A : Type 0} (p : Rule A) (k : ℕ) → ((t : Tok) (us : List Tok) → t.face ≡ symbol k → p.follow (t ∷ us) ≡ true) → Follows p (sign k)
sign_follows {A} p k h = record { meets = meets }
  where
    meets : (front us : List Tok) (b : Unit {0}) → Unit {0} → Spelled front (plain (symbol k) ∷ []) → true ≡ true → p.follow (front ++ us) ≡ true
    meets [] us b f e g = absurd e
    meets (t ∷ ts) us b f e g = h t (ts ++ us) e.0.0

pub before_sign : {A : Type 0} {p : Rule A} (k : ℕ) → Good p → ((t : Tok) (us : List Tok) → t.face ≡ symbol k → p.follow (t ∷ us) ≡ true) → Good (p ◂ sign k)
before_sign {p = p} k gp h = before_good gp (sign_good k) (sign_follows p k h)

-- a part after its word begins with the word
pub word_starts : {A : Type 0} (text : List ℕ) (q : Rule A) → Starts (is_word text) (keyword text ▸ q)
word_starts text q = record { heads = λ a f. same_self text }

pub sign_starts : {A : Type 0} (k : ℕ) (q : Rule A) → Starts (is_symbol k) (sign k ▸ q)
sign_starts k q = record { heads = λ a f. eq-eqb k k refl }

-- ---- lists with commas

-- the rules of the items are alike whatever stands before them, and a comma may stand after each
pub record Listed {A : Type 0} (begun : Lexeme → Flaw) (p : List A → Rule A) : Type 0 where
  pub good : (seen : List A) → Good (p seen)
  pub spells : (seen : List A) (a : A) → (p seen).spell a ≡ (p []).spell a
  pub follows : (seen : List A) (us : List Tok) → (p seen).follow us ≡ (p []).follow us
  pub comma : (t : Tok) (us : List Tok) → t.face ≡ symbol 3 → (p []).follow (t ∷ us) ≡ true
  pub past : Past begun (p [])
  pub bares : (seen : List A) (a : A) → (p seen).bare a ≡ (p []).bare a
  pub steady : (seen other : List A) → map (p []).bare seen ≡ map (p []).bare other → (a : A) → (p seen).fits kept a → (p other).fits kept a

-- the same rule for each item
pub always_listed : {A : Type 0} (begun : Lexeme → Flaw) {p : Rule A} → Good p → ((t : Tok) (us : List Tok) → t.face ≡ symbol 3 → p.follow (t ∷ us) ≡ true) → Past begun p → Listed begun (λ (seen : List A). p)
always_listed begun g h w = record { good = λ seen. g; spells = λ seen a. refl; follows = λ seen us. refl; comma = h; past = w; bares = λ seen a. refl; steady = λ seen other e a f. f }

module _ {A : Type 0} (limit : ℕ) {begun : Lexeme → Flaw} {p : List A → Rule A} (h : Listed begun p) where
  abbrev X : Bool → List A → Rule A
  X b seen = either_rule b (past begun (p [])) (p seen)

  x_good : (b : Bool) (seen : List A) → Good (X b seen)
  x_good true seen = past_good begun (h.good []) h.past
  x_good false seen = h.good seen

  x_spells : (b c : Bool) (seen : List A) (a : A) → (X b seen).spell a ≡ (X c []).spell a
  x_spells true true seen a = refl
  x_spells true false seen a = refl
  x_spells false true seen a = h.spells seen a
  x_spells false false seen a = h.spells seen a

  x_follow : (b : Bool) (seen : List A) (us : List Tok) → (X b seen).follow us ≡ (p []).follow us
  x_follow true seen us = refl
  x_follow false seen us = h.follows seen us

  x_bares : (b : Bool) (seen : List A) (a : A) → (X b seen).bare a ≡ (p []).bare a
  x_bares true seen a = refl
  x_bares false seen a = h.bares seen a

  x_steady : (b : Bool) (seen other : List A) → map (p []).bare seen ≡ map (p []).bare other → (a : A) → (X b seen).fits kept a → (X b other).fits kept a
  x_steady true seen other e a f = f
  x_steady false seen other e a f = h.steady seen other e a f

  abbrev N : List A → Rule A
  N seen = after_comma limit begun p seen

  abbrev is_past : List A → Bool
  is_past seen = nat_le limit (length seen)

  same_length : (seen other : List A) → map (p []).bare seen ≡ map (p []).bare other → length seen ≡ length other
  same_length seen other e = sym (length-map seen (p []).bare) ∙ ap length e ∙ length-map other (p []).bare

  maps_bare : (b : Bool) (seen other : List A) → map (X b []).bare seen ≡ map (X b []).bare other → map (p []).bare seen ≡ map (p []).bare other
  maps_bare true seen other e = e
  maps_bare false seen other e = e

  pub comma_alike : Alike (is_symbol 3) never (after_comma limit begun p)
  comma_alike = record {
    good = λ seen. after_sign 3 (x_good (is_past seen) seen);
    spells = λ seen a. ap (λ (ms : List Mark). plain (symbol 3) ∷ ms) (x_spells (is_past seen) (is_past []) seen a);
    follows = λ seen us. x_follow (is_past seen) seen us ∙ sym (x_follow (is_past []) [] us);
    marked = λ t us e. x_follow (is_past []) [] (t ∷ us) ∙ h.comma t us ((symbol_mark 3).only t.face e);
    heads = λ seen a f. refl;
    opens = λ seen t e.
        let b = (x_good (is_past seen) seen).some in
        let ms = (X (is_past seen) seen).spell b.0 in
        (b.0, bearers ms, (tt, b.1), (((symbol_mark 3).only t.face e, tt), remarked (bearers ms) ms ((X (is_past []) []).spell b.0) (x_spells (is_past seen) (is_past []) seen b.0) (bearers_spelled ms)));
    bares = λ seen a. x_bares (is_past seen) seen a ∙ sym (x_bares (is_past []) [] a);
    steady = λ seen other e.
        let m = maps_bare (is_past []) seen other e in
        let n : is_past seen ≡ is_past other = ap (nat_le limit) (same_length seen other m) in
        (λ f. refl, λ a f. (f.0, subst (λ (b : Bool). (X b other).fits kept a) n (x_steady (is_past seen) seen other m a f.1)));
  }

  pub commas_good : Good (commas limit begun p)
  commas_good = series_good comma_alike (record { good = h.good []; marked = λ t us e. h.comma t us ((symbol_mark 3).only t.face e); bares = λ a. sym (x_bares (is_past []) [] a) })
