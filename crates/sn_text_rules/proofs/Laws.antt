-- What every rule keeps, and the rules of one token, of two in a row, and of other values.
use Rattle.std.proofs.Common.{◌≡◌, suc, Bool, true, false, List, [], ◌∷◌, ◌++◌, length, Result, Ok, Err, refl, sym, ap, subst, ◌∙◌, append_assoc, arith, inl, inr, ◌≤◌, length-append}
use Rattle.sn_text_rules.specs.declared.Flaw.{Flaw}
use Rattle.sn_text_rules.specs.Tokens.{Lexeme, Tok, Mark, plain, Bears, Spelled, faces, mark_faces, Read, got, fails, short, bind}
use Rattle.sn_text_rules.specs.Rules.{Limits, kept, aside, is_limit, Rule, judged, token_at, one, token, pair_on, pair, Begins}
use Rattle.sn_text_rules.proofs.Common.{same_value, same_rest, bind_got, bind_fails, bind_short, left, left_bind, respelled, spelled_append, split_spelled, mark_faces_append, split_faces, bearer, bearers, bears, bearers_spelled, Heads}

-- ---- the laws

-- the tokens ts are front, which spell a, and then us
pub record Takes {A : Type 0} (spell : A → List Mark) (ts : List Tok) (a : A) (us : List Tok) : Type 0 where
  pub front : List Tok
  pub parts : ts ≡ front ++ us
  pub spelled : Spelled front (spell a)

-- the fault stands at a token of ts
pub record Stands (ts us : List Tok) : Type 0 where
  pub front : List Tok
  pub at : Tok
  pub rest : List Tok
  pub parts : ts ≡ front ++ us
  pub head : us ≡ at ∷ rest

-- the tokens up to the first of us begin a text of the grammar, limits aside
pub record Reaches {A : Type 0} (r : Rule A) (ts us : List Tok) : Type 0 where
  pub upto : List Tok
  pub at : Tok
  pub rest : List Tok
  pub head : us ≡ at ∷ rest
  pub parts : ts ≡ upto ++ rest
  pub value : A
  pub more : List Tok
  pub fits : r.fits aside value
  pub spelled : Spelled (upto ++ more) (r.spell value)

-- these tokens spell a value that is a up to lines
pub record Relined {A : Type 0} (r : Rule A) (a : A) (ts : List Tok) : Type 0 where
  pub value : A
  pub spelled : Spelled ts (r.spell value)
  pub fits : r.fits kept value
  pub same : r.bare value ≡ r.bare a

pub record Good {A : Type 0} (r : Rule A) : Type 0 where
  -- what is known stays, whatever follows
  pub got_more : (l : Limits) (ts more us : List Tok) (a : A) → r.read l ts ≡ got a us → r.read l (ts ++ more) ≡ got a (us ++ more)
  pub fails_more : (l : Limits) (ts more us : List Tok) (x : Flaw) → r.read l ts ≡ fails x us → r.read l (ts ++ more) ≡ fails x (us ++ more)
  -- what isn't known yet depends on the next token
  pub later : (l : Limits) (ts more : List Tok) → r.read l ts ≡ short → left (r.read l (ts ++ more)) ≤ length more
  -- what is read is spelled so, and fits
  pub takes : (l : Limits) (ts us : List Tok) (a : A) → r.read l ts ≡ got a us → Takes r.spell ts a us
  pub fitting : (l : Limits) (ts us : List Tok) (a : A) → r.read l ts ≡ got a us → r.fits l a
  pub stands : (l : Limits) (ts us : List Tok) (x : Flaw) → r.read l ts ≡ fails x us → Stands ts us
  -- what is spelled so and fits is read
  pub again : (l : Limits) (front us : List Tok) (a : A) → r.fits l a → Spelled front (r.spell a) → r.follow us ≡ true → r.read l (front ++ us) ≡ got a us
  -- tokens without a fault begin a text of the grammar
  pub begins : (l : Limits) (ts : List Tok) → r.read l ts ≡ short → Begins r ts
  pub some : (a : A) × r.fits aside a
  pub looser : (a : A) → r.fits kept a → r.fits aside a
  -- what is read with the limits is read without them, and a fault against the form is one without them too
  pub gets : (ts us : List Tok) (a : A) → r.read kept ts ≡ got a us → r.read aside ts ≡ got a us
  pub refuses : (ts us : List Tok) (x : Flaw) → is_limit x ≡ false → r.read kept ts ≡ fails x us → r.read aside ts ≡ fails x us
  -- a fault against a limit stands at a token that goes on a text, limits aside
  pub tells : (ts us : List Tok) (x : Flaw) → is_limit x ≡ true → r.read kept ts ≡ fails x us → Reaches r ts us
  -- the same lexemes on other lines spell the same value up to lines
  pub relines : (a : A) (ts : List Tok) → r.fits kept a → faces ts ≡ mark_faces (r.spell a) → Relined r a ts

pub within_any : {A : Type 0} (r : Rule A) → Good r → (l : Limits) (ts : List Tok) (x : Read A) → r.read l ts ≡ x → left x ≤ length ts
within_any r g l ts (got a us) e = let k = g.takes l ts us a e in omega (arith, ap length k.parts, length-append k.front us)
within_any r g l ts (fails x us) e = let k = g.stands l ts us x e in omega (arith, ap length k.parts, length-append k.front us)
within_any r g l ts short e = omega arith

pub within : {A : Type 0} (r : Rule A) → Good r → (l : Limits) (ts : List Tok) → left (r.read l ts) ≤ length ts
within r g l ts = within_any r g l ts (r.read l ts) refl

pub loosened : {A : Type 0} (r : Rule A) → Good r → (l : Limits) (a : A) → r.fits l a → r.fits aside a
loosened r g kept a h = g.looser a h
loosened r g aside a h = h

pub stands_after : (ts front us vs : List Tok) → ts ≡ front ++ us → Stands us vs → Stands ts vs
stands_after ts front us vs e s = record {
  front = front ++ s.front;
  at = s.at;
  rest = s.rest;
  parts = e ∙ ap (λ (l : List Tok). front ++ l) s.parts ∙ sym (append_assoc front s.front vs);
  head = s.head;
}

pub takes_as : {A : Type 0} (spell : A → List Mark) (ts : List Tok) (a b : A) (us vs : List Tok) → a ≡ b → us ≡ vs → Takes spell ts a us → Takes spell ts b vs
takes_as spell ts a b us vs e f h = record { front = h.front; parts = h.parts ∙ ap (λ (l : List Tok). h.front ++ l) f; spelled = subst (λ x. Spelled h.front (spell x)) e h.spelled }

-- ---- one token

pub record IsJudge {A : Type 0} (mark : A → Mark) (fits : Limits → A → Type 0) (judge : Limits → Tok → Result A Flaw) (bare : A → A) : Type 0 where
  pub fine : (l : Limits) (t : Tok) (a : A) → judge l t ≡ Ok a → Bears t (mark a) × fits l a
  pub again : (l : Limits) (t : Tok) (a : A) → fits l a → Bears t (mark a) → judge l t ≡ Ok a
  pub some : (a : A) × fits aside a
  pub looser : (a : A) → fits kept a → fits aside a
  pub refuses : (t : Tok) (x : Flaw) → is_limit x ≡ false → judge kept t ≡ Err x → judge aside t ≡ Err x
  pub tells : (t : Tok) (x : Flaw) → is_limit x ≡ true → judge kept t ≡ Err x → (a : A) × fits aside a × Bears t (mark a)
  pub relines : (a : A) (t : Tok) → fits kept a → t.face ≡ (mark a).face → (b : A) × Bears t (mark b) × fits kept b × (bare b ≡ bare a)

judged_got : {A : Type 0} (j : Result A Flaw) (t : Tok) (ts us : List Tok) (a : A) → judged j t ts ≡ got a us → (j ≡ Ok a) × (ts ≡ us)
judged_got (Ok b) t ts us a e = (ap Ok (same_value b a ts us e), same_rest b a ts us e)
judged_got (Err f) t ts us a e = absurd cc

judged_fails : {A : Type 0} (j : Result A Flaw) (t : Tok) (ts us : List Tok) (x : Flaw) → judged j t ts ≡ fails x us → (j ≡ Err x) × (t ∷ ts ≡ us)
judged_fails (Ok b) t ts us x e = absurd cc
judged_fails (Err f) t ts us x e = (cc, cc)

judged_short : {A : Type 0} (j : Result A Flaw) (t : Tok) (ts : List Tok) → judged j t ts ≡ short → ⊥
judged_short (Ok b) t ts e = cc
judged_short (Err f) t ts e = cc

token_got_more : {A : Type 0} (judge : Tok → Result A Flaw) (ts more us : List Tok) (a : A) → token_at judge ts ≡ got a us → token_at judge (ts ++ more) ≡ got a (us ++ more)
token_got_more judge [] more us a e = absurd cc
token_got_more judge (t ∷ ts) more us a e =
    let h = judged_got (judge t) t ts us a e in
    rw (h.0, h.1) refl

token_fails_more : {A : Type 0} (judge : Tok → Result A Flaw) (ts more us : List Tok) (x : Flaw) → token_at judge ts ≡ fails x us → token_at judge (ts ++ more) ≡ fails x (us ++ more)
token_fails_more judge [] more us x e = absurd cc
token_fails_more judge (t ∷ ts) more us x e =
    let h = judged_fails (judge t) t ts us x e in
    rw (h.0, ← h.1) refl

judged_within : {A : Type 0} (j : Result A Flaw) (t : Tok) (ts : List Tok) → left (judged j t ts) ≤ suc (length ts)
judged_within (Ok a) t ts = omega arith
judged_within (Err f) t ts = omega arith

token_within : {A : Type 0} (judge : Tok → Result A Flaw) (ts : List Tok) → left (token_at judge ts) ≤ length ts
token_within judge [] = omega arith
token_within judge (t ∷ ts) = judged_within (judge t) t ts

token_later : {A : Type 0} (judge : Tok → Result A Flaw) (ts more : List Tok) → token_at judge ts ≡ short → left (token_at judge (ts ++ more)) ≤ length more
token_later judge [] more e = token_within judge more
token_later judge (t ∷ ts) more e = absurd (judged_short (judge t) t ts e)

token_stands : {A : Type 0} (judge : Tok → Result A Flaw) (ts us : List Tok) (x : Flaw) → token_at judge ts ≡ fails x us → Stands ts us
token_stands judge [] us x e = absurd cc
token_stands judge (t ∷ ts) us x e =
    let h = judged_fails (judge t) t ts us x e in
    record { front = []; at = t; rest = ts; parts = h.1; head = sym h.1 }

module _ {A : Type 0} (mark : A → Mark) (fits : Limits → A → Type 0) (judge : Limits → Tok → Result A Flaw) (bare : A → A) (j : IsJudge mark fits judge bare) where
  one_takes : (l : Limits) (ts us : List Tok) (a : A) → token_at (judge l) ts ≡ got a us → Takes (λ a. mark a ∷ []) ts a us × fits l a
  one_takes l [] us a e = absurd cc
  one_takes l (t ∷ ts) us a e =
      let h = judged_got (judge l t) t ts us a e in
      let k = j.fine l t a h.0 in
      (record { front = t ∷ []; parts = ap (λ (x : List Tok). t ∷ x) h.1; spelled = (k.0, tt) }, k.1)

  one_again : (l : Limits) (front us : List Tok) (a : A) → fits l a → Spelled front (mark a ∷ []) → token_at (judge l) (front ++ us) ≡ got a us
  one_again l [] us a f h = absurd h
  one_again l (t ∷ []) us a f h = let k : judge l t ≡ Ok a = j.again l t a f h.0 in rw k refl
  one_again l (t ∷ s ∷ ts) us a f h = absurd h.1

  one_begins : (l : Limits) (ts : List Tok) → token_at (judge l) ts ≡ short → Begins (one mark fits judge bare) ts
  one_begins l [] e = record { value = j.some.0; more = bearer (mark j.some.0) ∷ []; fits = j.some.1; spelled = (bears (mark j.some.0), tt) }
  one_begins l (t ∷ ts) e = absurd (judged_short (judge l t) t ts e)

  one_gets : (ts us : List Tok) (a : A) → token_at (judge kept) ts ≡ got a us → token_at (judge aside) ts ≡ got a us
  one_gets [] us a e = absurd cc
  one_gets (t ∷ ts) us a e =
      let h = judged_got (judge kept t) t ts us a e in
      let k = j.fine kept t a h.0 in
      let m : judge aside t ≡ Ok a = j.again aside t a (j.looser a k.1) k.0 in
      rw (m, h.1) refl

  one_refuses : (ts us : List Tok) (x : Flaw) → is_limit x ≡ false → token_at (judge kept) ts ≡ fails x us → token_at (judge aside) ts ≡ fails x us
  one_refuses [] us x n e = absurd cc
  one_refuses (t ∷ ts) us x n e =
      let h = judged_fails (judge kept t) t ts us x e in
      rw (j.refuses t x n h.0, ← h.1) refl

  one_tells : (ts us : List Tok) (x : Flaw) → is_limit x ≡ true → token_at (judge kept) ts ≡ fails x us → Reaches (one mark fits judge bare) ts us
  one_tells [] us x n e = absurd cc
  one_tells (t ∷ ts) us x n e =
      let h = judged_fails (judge kept t) t ts us x e in
      let k = j.tells t x n h.0 in
      record { upto = t ∷ []; at = t; rest = ts; head = sym h.1; parts = refl; value = k.0; more = []; fits = k.1; spelled = (k.2, tt) }

  one_relines : (a : A) (ts : List Tok) → fits kept a → faces ts ≡ (mark a).face ∷ [] → Relined (one mark fits judge bare) a ts
  one_relines a [] f e = absurd cc
  one_relines a (t ∷ []) f e =
      let h : t.face ≡ (mark a).face = cc in
      let k = j.relines a t f h in
      record { value = k.0; spelled = (k.1, tt); fits = k.2; same = k.3 }
  one_relines a (t ∷ s ∷ ts) f e = absurd cc

  pub one_good : Good (one mark fits judge bare)
  one_good = record {
    got_more = λ l ts more us a e. token_got_more (judge l) ts more us a e;
    fails_more = λ l ts more us x e. token_fails_more (judge l) ts more us x e;
    later = λ l ts more e. token_later (judge l) ts more e;
    takes = λ l ts us a e. (one_takes l ts us a e).0;
    fitting = λ l ts us a e. (one_takes l ts us a e).1;
    stands = λ l ts us x e. token_stands (judge l) ts us x e;
    again = λ l front us a f h _. one_again l front us a f h;
    begins = one_begins;
    some = j.some;
    looser = j.looser;
    gets = one_gets;
    refuses = one_refuses;
    tells = one_tells;
    relines = one_relines;
  }

-- a judge of lexemes alone
pub record IsPlainJudge {A : Type 0} (face : A → Lexeme) (fits : Limits → A → Type 0) (judge : Limits → Lexeme → Result A Flaw) : Type 0 where
  pub fine : (l : Limits) (x : Lexeme) (a : A) → judge l x ≡ Ok a → (x ≡ face a) × fits l a
  pub again : (l : Limits) (a : A) → fits l a → judge l (face a) ≡ Ok a
  pub some : (a : A) × fits aside a
  pub looser : (a : A) → fits kept a → fits aside a
  pub refuses : (y : Lexeme) (x : Flaw) → is_limit x ≡ false → judge kept y ≡ Err x → judge aside y ≡ Err x
  pub tells : (y : Lexeme) (x : Flaw) → is_limit x ≡ true → judge kept y ≡ Err x → (a : A) × fits aside a × (y ≡ face a)

pub token_good : {A : Type 0} (face : A → Lexeme) (fits : Limits → A → Type 0) (judge : Limits → Lexeme → Result A Flaw) → IsPlainJudge face fits judge → Good (token face fits judge)
token_good face fits judge j = one_good (λ a. plain (face a)) fits (λ l t. judge l t.face) (λ a. a) (record {
  fine = λ l t a e. let k = j.fine l t.face a e in ((k.0, tt), k.1);
  again = λ l t a f h. ap (judge l) h.0 ∙ j.again l a f;
  some = j.some;
  looser = j.looser;
  refuses = λ t x n e. j.refuses t.face x n e;
  tells = λ t x n e. let k = j.tells t.face x n e in (k.0, k.1, (k.2, tt));
  relines = λ a t f e. (a, (e, tt), f, refl);
})

-- ---- one after the other

abbrev twin : {A B : Type 0} → A → B → A × B
twin a b = (a, b)

pairs : {A B : Type 0} (a c : A) (b d : B) → a ≡ c → b ≡ d → twin a b ≡ twin c d
pairs a c b d e f = rw (e, f) refl

-- what q spells may stand after p, and what may stand after both; q doesn't depend on lines
pub record Meets {A B : Type 0} (p : Rule A) (q : A → Rule B) (follow : List Tok → Bool) : Type 0 where
  pub meets : (a : A) (front us : List Tok) (b : B) → (q a).fits aside b → Spelled front ((q a).spell b) → follow us ≡ true → p.follow (front ++ us) ≡ true
  pub ends : (a : A) (us : List Tok) → follow us ≡ true → (q a).follow us ≡ true
  pub steady : (a c : A) (b : B) → p.bare a ≡ p.bare c → ((q a).spell b ≡ (q c).spell b) × ((q a).fits kept b → (q c).fits kept b) × ((q a).bare b ≡ (q c).bare b)

module _ {A B : Type 0} {p : Rule A} {q : A → Rule B} {follow : List Tok → Bool} (gp : Good p) (gq : (a : A) → Good (q a)) (m : Meets p q follow) where
  abbrev P : Rule (A × B)
  P = pair_on p q follow

  abbrev second : A → B → List Tok → Read (A × B)
  second a b vs = got (a, b) vs

  abbrev rest_of : Limits → A → List Tok → Read (A × B)
  rest_of l a us = bind ((q a).read l us) (second a)

  pair_tells : (ts us : List Tok) (x : Flaw) → is_limit x ≡ true → bind (p.read kept ts) (rest_of kept) ≡ fails x us → Reaches P ts us
  pair_tells ts us x n e = elim (bind_fails (p.read kept ts) (rest_of kept) x us e) [
    | inl h ↦ (let k = gp.tells ts us x n h in
        let b = (gq k.value).some in
        let tail = bearers ((q k.value).spell b.0) in
        record {
          upto = k.upto;
          at = k.at;
          rest = k.rest;
          head = k.head;
          parts = k.parts;
          value = (k.value, b.0);
          more = k.more ++ tail;
          fits = (k.fits, b.1);
          spelled = respelled ((k.upto ++ k.more) ++ tail) (k.upto ++ (k.more ++ tail)) (p.spell k.value ++ (q k.value).spell b.0) (append_assoc k.upto k.more tail) (spelled_append (k.upto ++ k.more) tail (p.spell k.value) ((q k.value).spell b.0) k.spelled (bearers_spelled ((q k.value).spell b.0)));
        })
    | inr b ↦ elim (bind_fails ((q b.0).read kept b.1) (second b.0) x us b.3) [
      | inl h ↦ (let k = (gq b.0).tells b.1 us x n h in
          let first = gp.takes kept ts b.1 b.0 b.2 in
          record {
            upto = first.front ++ k.upto;
            at = k.at;
            rest = k.rest;
            head = k.head;
            parts = first.parts ∙ ap (λ (s : List Tok). first.front ++ s) k.parts ∙ sym (append_assoc first.front k.upto k.rest);
            value = (b.0, k.value);
            more = k.more;
            fits = (gp.looser b.0 (gp.fitting kept ts b.1 b.0 b.2), k.fits);
            spelled = respelled (first.front ++ (k.upto ++ k.more)) ((first.front ++ k.upto) ++ k.more) (p.spell b.0 ++ (q b.0).spell k.value) (sym (append_assoc first.front k.upto k.more)) (spelled_append first.front (k.upto ++ k.more) (p.spell b.0) ((q b.0).spell k.value) first.spelled k.spelled);
          })
      | inr c ↦ absurd cc
    ]
  ]

  pair_begins : (l : Limits) (ts : List Tok) → bind (p.read l ts) (rest_of l) ≡ short → Begins P ts
  pair_begins l ts e = elim (bind_short (p.read l ts) (rest_of l) e) [
    | inl h ↦ (let k = gp.begins l ts h in
        let b = (gq k.value).some in
        let tail = bearers ((q k.value).spell b.0) in
        record {
          value = (k.value, b.0);
          more = k.more ++ tail;
          fits = (k.fits, b.1);
          spelled = respelled ((ts ++ k.more) ++ tail) (ts ++ (k.more ++ tail)) (p.spell k.value ++ (q k.value).spell b.0) (append_assoc ts k.more tail) (spelled_append (ts ++ k.more) tail (p.spell k.value) ((q k.value).spell b.0) k.spelled (bearers_spelled ((q k.value).spell b.0)));
        })
    | inr b ↦ elim (bind_short ((q b.0).read l b.1) (second b.0) b.3) [
      | inl h ↦ (let k = (gq b.0).begins l b.1 h in
          let first = gp.takes l ts b.1 b.0 b.2 in
          record {
            value = (b.0, k.value);
            more = k.more;
            fits = (loosened p gp l b.0 (gp.fitting l ts b.1 b.0 b.2), k.fits);
            spelled = respelled (first.front ++ (b.1 ++ k.more)) (ts ++ k.more) (p.spell b.0 ++ (q b.0).spell k.value) (sym (append_assoc first.front b.1 k.more) ∙ ap (λ (s : List Tok). s ++ k.more) (sym first.parts)) (spelled_append first.front (b.1 ++ k.more) (p.spell b.0) ((q b.0).spell k.value) first.spelled k.spelled);
          })
      | inr c ↦ absurd cc
    ]
  ]

  pair_relines : (x : A × B) (ts : List Tok) → p.fits kept x.0 × (q x.0).fits kept x.1 → faces ts ≡ mark_faces (p.spell x.0 ++ (q x.0).spell x.1) → Relined P x ts
  pair_relines x ts f e =
      let s = split_faces ts (mark_faces (p.spell x.0)) (mark_faces ((q x.0).spell x.1)) (e ∙ mark_faces_append (p.spell x.0) ((q x.0).spell x.1)) in
      let a = gp.relines x.0 s.0 f.0 s.3 in
      let b = (gq x.0).relines x.1 s.1 f.1 s.4 in
      let k = m.steady x.0 a.value b.value (sym a.same) in
      let k1 = m.steady x.0 a.value x.1 (sym a.same) in
      record {
        value = (a.value, b.value);
        spelled = respelled (s.0 ++ s.1) ts (p.spell a.value ++ (q a.value).spell b.value) (sym s.2) (spelled_append s.0 s.1 (p.spell a.value) ((q a.value).spell b.value) a.spelled (subst (λ (ms : List Mark). Spelled s.1 ms) k.0 b.spelled));
        fits = (a.fits, k.1 b.fits);
        same = pairs (p.bare a.value) (p.bare x.0) ((q a.value).bare b.value) ((q x.0).bare x.1) a.same (sym k.2 ∙ b.same);
      }

  pub pair_on_good : Good (pair_on p q follow)
  pair_on_good = record {
    got_more = λ l ts more us x e.
        let b = bind_got (p.read l ts) (rest_of l) x us e in
        let c = bind_got ((q b.0).read l b.1) (second b.0) x us b.3 in
        let made : A × B = (b.0, c.0) in
        rw (gp.got_more l ts more b.1 b.0 b.2, (gq b.0).got_more l b.1 more c.1 c.0 c.2) (rw (same_value made x c.1 us c.3, same_rest made x c.1 us c.3) refl);
    fails_more = λ l ts more us x e. elim (bind_fails (p.read l ts) (rest_of l) x us e) [
      | inl h ↦ rw (gp.fails_more l ts more us x h) refl
      | inr b ↦ elim (bind_fails ((q b.0).read l b.1) (second b.0) x us b.3) [
        | inl h ↦ rw (gp.got_more l ts more b.1 b.0 b.2, (gq b.0).fails_more l b.1 more us x h) refl
        | inr c ↦ absurd cc
      ]
    ];
    later = λ l ts more e. elim (bind_short (p.read l ts) (rest_of l) e) [
      | inl h ↦ left_bind (p.read l (ts ++ more)) (rest_of l) (length more) (gp.later l ts more h) (λ a us _. left_bind ((q a).read l us) (second a) (length us) (within (q a) (gq a) l us) (λ b vs _. omega arith))
      | inr b ↦ elim (bind_short ((q b.0).read l b.1) (second b.0) b.3) [
        | inl h ↦ rw (gp.got_more l ts more b.1 b.0 b.2) (left_bind ((q b.0).read l (b.1 ++ more)) (second b.0) (length more) ((gq b.0).later l b.1 more h) (λ b vs _. omega arith))
        | inr c ↦ absurd cc
      ]
    ];
    takes = λ l ts us x e.
        let b = bind_got (p.read l ts) (rest_of l) x us e in
        let c = bind_got ((q b.0).read l b.1) (second b.0) x us b.3 in
        let made : A × B = (b.0, c.0) in
        let first = gp.takes l ts b.1 b.0 b.2 in
        let next = (gq b.0).takes l b.1 c.1 c.0 c.2 in
        let whole : Takes P.spell ts made c.1 = record {
          front = first.front ++ next.front;
          parts = first.parts ∙ ap (λ (s : List Tok). first.front ++ s) next.parts ∙ sym (append_assoc first.front next.front c.1);
          spelled = spelled_append first.front next.front (p.spell b.0) ((q b.0).spell c.0) first.spelled next.spelled;
        } in
        takes_as P.spell ts made x c.1 us (same_value made x c.1 us c.3) (same_rest made x c.1 us c.3) whole;
    fitting = λ l ts us x e.
        let b = bind_got (p.read l ts) (rest_of l) x us e in
        let c = bind_got ((q b.0).read l b.1) (second b.0) x us b.3 in
        let made : A × B = (b.0, c.0) in
        subst (P.fits l) (same_value made x c.1 us c.3) (gp.fitting l ts b.1 b.0 b.2, (gq b.0).fitting l b.1 c.1 c.0 c.2);
    stands = λ l ts us x e. elim (bind_fails (p.read l ts) (rest_of l) x us e) [
      | inl h ↦ gp.stands l ts us x h
      | inr b ↦ elim (bind_fails ((q b.0).read l b.1) (second b.0) x us b.3) [
        | inl h ↦ (let first = gp.takes l ts b.1 b.0 b.2 in stands_after ts first.front b.1 us first.parts ((gq b.0).stands l b.1 us x h))
        | inr c ↦ absurd cc
      ]
    ];
    again = λ l front us x fits e follows.
        let s = split_spelled front (p.spell x.0) ((q x.0).spell x.1) e in
        let next : (q x.0).read l (s.1 ++ us) ≡ got x.1 us = (gq x.0).again l s.1 us x.1 fits.1 s.4 (m.ends x.0 us follows) in
        let first : p.read l (s.0 ++ (s.1 ++ us)) ≡ got x.0 (s.1 ++ us) = gp.again l s.0 (s.1 ++ us) x.0 fits.0 s.3 (m.meets x.0 s.1 us x.1 (loosened (q x.0) (gq x.0) l x.1 fits.1) s.4 follows) in
        let regrouped : front ++ us ≡ s.0 ++ (s.1 ++ us) = ap (λ (r : List Tok). r ++ us) s.2 ∙ append_assoc s.0 s.1 us in
        ap (P.read l) regrouped ∙ rw (first, next) refl;
    begins = pair_begins;
    some = (let b = (gq gp.some.0).some in ((gp.some.0, b.0), (gp.some.1, b.1)));
    looser = λ x h. (gp.looser x.0 h.0, (gq x.0).looser x.1 h.1);
    gets = λ ts us x e.
        let b = bind_got (p.read kept ts) (rest_of kept) x us e in
        let c = bind_got ((q b.0).read kept b.1) (second b.0) x us b.3 in
        rw (gp.gets ts b.1 b.0 b.2, (gq b.0).gets b.1 c.1 c.0 c.2) c.3;
    refuses = λ ts us x n e. elim (bind_fails (p.read kept ts) (rest_of kept) x us e) [
      | inl h ↦ rw (gp.refuses ts us x n h) refl
      | inr b ↦ elim (bind_fails ((q b.0).read kept b.1) (second b.0) x us b.3) [
        | inl h ↦ rw (gp.gets ts b.1 b.0 b.2, (gq b.0).refuses b.1 us x n h) refl
        | inr c ↦ absurd cc
      ]
    ];
    tells = pair_tells;
    relines = pair_relines;
  }

-- the second doesn't depend on the first
pub record Follows {A B : Type 0} (p : Rule A) (q : Rule B) : Type 0 where
  pub meets : (front us : List Tok) (b : B) → q.fits aside b → Spelled front (q.spell b) → q.follow us ≡ true → p.follow (front ++ us) ≡ true

pub pair_good : {A B : Type 0} {p : Rule A} {q : Rule B} → Good p → Good q → Follows p q → Good (pair p q)
pair_good gp gq m = pair_on_good gp (λ a. gq) (record { meets = λ a front us b f s e. m.meets front us b f s e; ends = λ a us e. e; steady = λ a c b e. (refl, λ f. f, refl) })

-- anything may stand after the first
pub freely : {A B : Type 0} (p : Rule A) (q : Rule B) → ((us : List Tok) → p.follow us ≡ true) → Follows p q
freely p q h = record { meets = λ front us b _ _ _. h (front ++ us) }

pub free_pair : {A B : Type 0} {p : Rule A} {q : Rule B} → Good p → Good q → ((us : List Tok) → p.follow us ≡ true) → Good (pair p q)
free_pair {p = p} {q = q} gp gq h = pair_good gp gq (freely p q h)

-- the first mark of what the second spells decides
pub headed_follows : {A B : Type 0} (p : Rule A) (q : Rule B) (goes : Lexeme → Bool) → ((b : B) → q.fits aside b → Heads goes (q.spell b)) → ((t : Tok) (us : List Tok) → goes t.face ≡ true → p.follow (t ∷ us) ≡ true) → Follows p q
headed_follows {A} {B} p q goes heads h = record { meets = λ front us b f s e. go front us (q.spell b) (heads b f) s }
  where
    go : (front us : List Tok) (ms : List Mark) → Heads goes ms → Spelled front ms → p.follow (front ++ us) ≡ true
    go front us [] k s = absurd k
    go [] us (m ∷ ms) k s = absurd s
    go (t ∷ front) us (m ∷ ms) k s = h t (front ++ us) (ap goes s.0.0 ∙ k)

pub headed_pair : {A B : Type 0} {p : Rule A} {q : Rule B} (goes : Lexeme → Bool) → Good p → Good q → ((b : B) → q.fits aside b → Heads goes (q.spell b)) → ((t : Tok) (us : List Tok) → goes t.face ≡ true → p.follow (t ∷ us) ≡ true) → Good (pair p q)
headed_pair {p = p} {q = q} goes gp gq heads h = pair_good gp gq (headed_follows p q goes heads h)
