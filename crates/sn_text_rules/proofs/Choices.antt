-- Other values for the same text, and parts chosen by their first token, keep the laws.
use Rattle.std.proofs.Common.{◌≡◌, suc, Bool, true, false, List, [], ◌∷◌, ◌++◌, length, Option, Some, None, refl, sym, ap, subst, ◌∙◌, arith, inl, inr, ◌⊎◌, ◌≤◌}
use Rattle.std.specs.Prelude.{not}
use Rattle.sn_text_rules.specs.declared.Flaw.{Flaw}
use Rattle.sn_text_rules.specs.Tokens.{Lexeme, Tok, Spelled, faces, mark_faces, Read, got, fails, short, bind}
use Rattle.sn_text_rules.specs.Rules.{Limits, kept, aside, is_limit, Rule, embedded, renamed, spelled_as, holds_of, bared_as, no_more, maybe, maybe_at, either, either_at, past, past_at, Begins}
use Rattle.sn_text_rules.proofs.Common.{either_way, both_true, same_value, same_rest, fails_same, bind_got, bind_fails, bind_short, left, left_bind, bearers, bearers_spelled, Heads, head_is, no_head}
use Rattle.sn_text_rules.proofs.Laws.{Takes, Stands, Reaches, Relined, Good, within, loosened, takes_as}

-- ---- the same text under another value

-- to is one to one on the values of p, and from undoes it
pub record Undoes {A B : Type 0} (to : A → B) (from : B → Option A) (p : Rule A) : Type 0 where
  pub back : (a : A) → p.fits aside a → from (to a) ≡ Some a
  pub forth : (b : B) (a : A) → from b ≡ Some a → to a ≡ b

module _ {A B : Type 0} (to : A → B) (from : B → Option A) {p : Rule A} (u : Undoes to from p) (gp : Good p) where
  abbrev E : Rule B
  E = embedded to from p

  abbrev under : A → List Tok → Read B
  under a us = got (to a) us

  spelled_back : (ts : List Tok) (a : A) → p.fits aside a → Spelled ts (p.spell a) → Spelled ts (E.spell (to a))
  spelled_back ts a f h = subst (λ o. Spelled ts (spelled_as p.spell o)) (sym (u.back a f)) h

  fits_back : (l : Limits) (a : A) → p.fits l a → E.fits l (to a)
  fits_back l a h = subst (λ o. holds_of (p.fits l) o) (sym (u.back a (loosened p gp l a h))) h

  again_in : (l : Limits) (front us : List Tok) (b : B) (o : Option A) → from b ≡ o → holds_of (p.fits l) o → Spelled front (spelled_as p.spell o) → p.follow us ≡ true → bind (p.read l (front ++ us)) under ≡ got b us
  again_in l front us b None e f s h = absurd f
  again_in l front us b (Some a) e f s h = rw (gp.again l front us a f s h) (ap (λ (y : B). got y us) (u.forth b a e))

  looser_in : (o : Option A) → holds_of (p.fits kept) o → holds_of (p.fits aside) o
  looser_in None h = h
  looser_in (Some a) h = gp.looser a h

  relines_in : (b : B) (ts : List Tok) (o : Option A) → from b ≡ o → holds_of (p.fits kept) o → faces ts ≡ mark_faces (spelled_as p.spell o) → Relined E b ts
  relines_in b ts None e f s = absurd f
  relines_in b ts (Some a) e f s =
      let k = gp.relines a ts f s in
      record {
        value = to k.value;
        spelled = spelled_back ts k.value (gp.looser k.value k.fits) k.spelled;
        fits = fits_back kept k.value k.fits;
        same = ap (bared_as to p.bare (to k.value)) (u.back k.value (gp.looser k.value k.fits)) ∙ ap to k.same ∙ sym (ap (bared_as to p.bare b) e);
      }

  pub embedded_good : Good (embedded to from p)
  embedded_good = record {
    got_more = λ l ts more us x e.
        let b = bind_got (p.read l ts) under x us e in
        rw (gp.got_more l ts more b.1 b.0 b.2) (rw (same_value (to b.0) x b.1 us b.3, same_rest (to b.0) x b.1 us b.3) refl);
    fails_more = λ l ts more us x e. elim (bind_fails (p.read l ts) under x us e) [
      | inl h ↦ rw (gp.fails_more l ts more us x h) refl
      | inr b ↦ absurd cc
    ];
    later = λ l ts more e. elim (bind_short (p.read l ts) under e) [
      | inl h ↦ left_bind (p.read l (ts ++ more)) under (length more) (gp.later l ts more h) (λ a us _. omega arith)
      | inr b ↦ absurd cc
    ];
    takes = λ l ts us x e.
        let b = bind_got (p.read l ts) under x us e in
        let h = gp.takes l ts b.1 b.0 b.2 in
        let whole : Takes E.spell ts (to b.0) b.1 = record { front = h.front; parts = h.parts; spelled = spelled_back h.front b.0 (loosened p gp l b.0 (gp.fitting l ts b.1 b.0 b.2)) h.spelled } in
        takes_as E.spell ts (to b.0) x b.1 us (same_value (to b.0) x b.1 us b.3) (same_rest (to b.0) x b.1 us b.3) whole;
    fitting = λ l ts us x e.
        let b = bind_got (p.read l ts) under x us e in
        subst (E.fits l) (same_value (to b.0) x b.1 us b.3) (fits_back l b.0 (gp.fitting l ts b.1 b.0 b.2));
    stands = λ l ts us x e. elim (bind_fails (p.read l ts) under x us e) [
      | inl h ↦ gp.stands l ts us x h
      | inr b ↦ absurd cc
    ];
    again = λ l front us b f s h. again_in l front us b (from b) refl f s h;
    begins = λ l ts e. elim (bind_short (p.read l ts) under e) [
      | inl h ↦ (let k = gp.begins l ts h in record { value = to k.value; more = k.more; fits = fits_back aside k.value k.fits; spelled = spelled_back (ts ++ k.more) k.value k.fits k.spelled })
      | inr b ↦ absurd cc
    ];
    some = (to gp.some.0, fits_back aside gp.some.0 gp.some.1);
    looser = λ b h. looser_in (from b) h;
    gets = λ ts us x e.
        let b = bind_got (p.read kept ts) under x us e in
        rw (gp.gets ts b.1 b.0 b.2) b.3;
    refuses = λ ts us x n e. elim (bind_fails (p.read kept ts) under x us e) [
      | inl h ↦ rw (gp.refuses ts us x n h) refl
      | inr b ↦ absurd cc
    ];
    tells = λ ts us x n e. elim (bind_fails (p.read kept ts) under x us e) [
      | inl h ↦ (let k = gp.tells ts us x n h in
          record { upto = k.upto; at = k.at; rest = k.rest; head = k.head; parts = k.parts; value = to k.value; more = k.more; fits = fits_back aside k.value k.fits; spelled = spelled_back (k.upto ++ k.more) k.value k.fits k.spelled })
      | inr b ↦ absurd cc
    ];
    relines = λ b ts f s. relines_in b ts (from b) refl f s;
  }

pub renamed_good : {A B : Type 0} (to : A → B) (from : B → A) {p : Rule A} → ((a : A) → from (to a) ≡ a) → ((b : B) → to (from b) ≡ b) → Good p → Good (renamed to from p)
renamed_good {A} to from back forth gp = embedded_good to (λ b. Some (from b)) (record { back = λ a _. ap (λ (x : A). Some x) (back a); forth = λ b a e. let h : from b ≡ a = cc in ap to (sym h) ∙ forth b }) gp

-- ---- a part that is there where its first token is

-- what p spells begins with a token that passes goes
pub record Starts {A : Type 0} (goes : Lexeme → Bool) (p : Rule A) : Type 0 where
  pub heads : (a : A) → p.fits aside a → Heads goes (p.spell a)

module _ {A : Type 0} (goes : Lexeme → Bool) {p : Rule A} (gp : Good p) (s : Starts goes p) where
  abbrev M : Rule (Option A)
  M = maybe goes p

  abbrev there : A → List Tok → Read (Option A)
  there a us = got (Some a) us

  abbrev none : Option A
  none = None

  abbrev some : A → Option A
  some a = Some a

  maybe_true : (l : Limits) (t : Tok) (ts : List Tok) → goes t.face ≡ true → maybe_at goes (p.read l) (t ∷ ts) ≡ bind (p.read l (t ∷ ts)) there
  maybe_true l t ts h = rw h refl

  maybe_false : (l : Limits) (t : Tok) (ts : List Tok) → goes t.face ≡ false → maybe_at goes (p.read l) (t ∷ ts) ≡ got None (t ∷ ts)
  maybe_false l t ts h = rw h refl

  maybe_got_more : (l : Limits) (ts more us : List Tok) (a : Option A) → maybe_at goes (p.read l) ts ≡ got a us → maybe_at goes (p.read l) (ts ++ more) ≡ got a (us ++ more)
  maybe_got_more l [] more us a e = absurd cc
  maybe_got_more l (t ∷ ts) more us a e = elim (either_way (goes t.face)) [
    | inl h ↦ (let b = bind_got (p.read l (t ∷ ts)) there a us (sym (maybe_true l t ts h) ∙ e) in
        maybe_true l t (ts ++ more) h ∙ rw (gp.got_more l (t ∷ ts) more b.1 b.0 b.2) (rw (same_value (some b.0) a b.1 us b.3, same_rest (some b.0) a b.1 us b.3) refl))
    | inr h ↦ (let k : got none (t ∷ ts) ≡ got a us = sym (maybe_false l t ts h) ∙ e in
        maybe_false l t (ts ++ more) h ∙ ap (λ (r : Read (Option A)). bind r (λ x vs. got x (vs ++ more))) k)
  ]

  maybe_fails_more : (l : Limits) (ts more us : List Tok) (x : Flaw) → maybe_at goes (p.read l) ts ≡ fails x us → maybe_at goes (p.read l) (ts ++ more) ≡ fails x (us ++ more)
  maybe_fails_more l [] more us x e = absurd cc
  maybe_fails_more l (t ∷ ts) more us x e = elim (either_way (goes t.face)) [
    | inl h ↦ elim (bind_fails (p.read l (t ∷ ts)) there x us (sym (maybe_true l t ts h) ∙ e)) [
      | inl k ↦ maybe_true l t (ts ++ more) h ∙ rw (gp.fails_more l (t ∷ ts) more us x k) refl
      | inr b ↦ absurd cc
    ]
    | inr h ↦ (let k : got none (t ∷ ts) ≡ fails x us = sym (maybe_false l t ts h) ∙ e in absurd cc)
  ]

  maybe_later : (l : Limits) (ts more : List Tok) → maybe_at goes (p.read l) ts ≡ short → left (maybe_at goes (p.read l) (ts ++ more)) ≤ length more
  maybe_later l [] [] e = omega arith
  maybe_later l [] (t ∷ ts) e = elim (either_way (goes t.face)) [
    | inl h ↦ rw (maybe_true l t ts h) (left_bind (p.read l (t ∷ ts)) there (suc (length ts)) (within p gp l (t ∷ ts)) (λ a us _. omega arith))
    | inr h ↦ rw (maybe_false l t ts h) (omega arith)
  ]
  maybe_later l (t ∷ ts) more e = elim (either_way (goes t.face)) [
    | inl h ↦ elim (bind_short (p.read l (t ∷ ts)) there (sym (maybe_true l t ts h) ∙ e)) [
      | inl k ↦ rw (maybe_true l t (ts ++ more) h) (left_bind (p.read l (t ∷ (ts ++ more))) there (length more) (gp.later l (t ∷ ts) more k) (λ a us _. omega arith))
      | inr b ↦ absurd cc
    ]
    | inr h ↦ (let k : got none (t ∷ ts) ≡ short = sym (maybe_false l t ts h) ∙ e in absurd cc)
  ]

  maybe_takes : (l : Limits) (ts us : List Tok) (a : Option A) → maybe_at goes (p.read l) ts ≡ got a us → Takes M.spell ts a us × M.fits l a
  maybe_takes l [] us a e = absurd cc
  maybe_takes l (t ∷ ts) us a e = elim (either_way (goes t.face)) [
    | inl h ↦ (let b = bind_got (p.read l (t ∷ ts)) there a us (sym (maybe_true l t ts h) ∙ e) in
        let k = gp.takes l (t ∷ ts) b.1 b.0 b.2 in
        let whole : Takes M.spell (t ∷ ts) (some b.0) b.1 = record { front = k.front; parts = k.parts; spelled = k.spelled } in (
          takes_as M.spell (t ∷ ts) (some b.0) a b.1 us (same_value (some b.0) a b.1 us b.3) (same_rest (some b.0) a b.1 us b.3) whole,
          subst (M.fits l) (same_value (some b.0) a b.1 us b.3) (gp.fitting l (t ∷ ts) b.1 b.0 b.2),
        ))
    | inr h ↦ (let k : got none (t ∷ ts) ≡ got a us = sym (maybe_false l t ts h) ∙ e in
        let whole : Takes M.spell (t ∷ ts) none (t ∷ ts) = record { front = []; parts = refl; spelled = tt } in (
          takes_as M.spell (t ∷ ts) none a (t ∷ ts) us (same_value none a (t ∷ ts) us k) (same_rest none a (t ∷ ts) us k) whole,
          subst (M.fits l) (same_value none a (t ∷ ts) us k) tt,
        ))
  ]

  maybe_stands : (l : Limits) (ts us : List Tok) (x : Flaw) → maybe_at goes (p.read l) ts ≡ fails x us → Stands ts us
  maybe_stands l [] us x e = absurd cc
  maybe_stands l (t ∷ ts) us x e = elim (either_way (goes t.face)) [
    | inl h ↦ elim (bind_fails (p.read l (t ∷ ts)) there x us (sym (maybe_true l t ts h) ∙ e)) [
      | inl k ↦ gp.stands l (t ∷ ts) us x k
      | inr b ↦ absurd cc
    ]
    | inr h ↦ (let k : got none (t ∷ ts) ≡ fails x us = sym (maybe_false l t ts h) ∙ e in absurd cc)
  ]

  maybe_next : (l : Limits) (us : List Tok) → no_more goes us ≡ true → maybe_at goes (p.read l) us ≡ got None us
  maybe_next l [] e = absurd cc
  maybe_next l (t ∷ us) e = elim (either_way (goes t.face)) [
    | inl h ↦ (let k : true ≡ false = sym e ∙ rw h refl in absurd cc)
    | inr h ↦ maybe_false l t us h
  ]

  maybe_again : (l : Limits) (front us : List Tok) (a : Option A) → M.fits l a → Spelled front (M.spell a) → M.follow us ≡ true → maybe_at goes (p.read l) (front ++ us) ≡ got a us
  maybe_again l [] us None f h e = maybe_next l us (both_true (no_more goes us) (p.follow us) e).0
  maybe_again l (t ∷ ts) us None f h e = absurd h
  maybe_again l [] us (Some a) f h e = absurd (no_head goes (p.spell a) h (s.heads a (loosened p gp l a f)))
  maybe_again l (t ∷ ts) us (Some a) f h e =
      maybe_true l t (ts ++ us) (head_is goes t ts (p.spell a) h (s.heads a (loosened p gp l a f)))
      ∙ rw (gp.again l (t ∷ ts) us a f h (both_true (no_more goes us) (p.follow us) e).1) refl

  maybe_begins : (l : Limits) (ts : List Tok) → maybe_at goes (p.read l) ts ≡ short → Begins M ts
  maybe_begins l [] e = record { value = None; more = []; fits = tt; spelled = tt }
  maybe_begins l (t ∷ ts) e = elim (either_way (goes t.face)) [
    | inl h ↦ elim (bind_short (p.read l (t ∷ ts)) there (sym (maybe_true l t ts h) ∙ e)) [
      | inl k ↦ (let b = gp.begins l (t ∷ ts) k in record { value = Some b.value; more = b.more; fits = b.fits; spelled = b.spelled })
      | inr b ↦ absurd cc
    ]
    | inr h ↦ (let k : got none (t ∷ ts) ≡ short = sym (maybe_false l t ts h) ∙ e in absurd cc)
  ]

  maybe_looser : (a : Option A) → M.fits kept a → M.fits aside a
  maybe_looser None h = tt
  maybe_looser (Some a) h = gp.looser a h

  maybe_gets : (ts us : List Tok) (a : Option A) → maybe_at goes (p.read kept) ts ≡ got a us → maybe_at goes (p.read aside) ts ≡ got a us
  maybe_gets [] us a e = absurd cc
  maybe_gets (t ∷ ts) us a e = elim (either_way (goes t.face)) [
    | inl h ↦ (let b = bind_got (p.read kept (t ∷ ts)) there a us (sym (maybe_true kept t ts h) ∙ e) in
        maybe_true aside t ts h ∙ rw (gp.gets (t ∷ ts) b.1 b.0 b.2) b.3)
    | inr h ↦ maybe_false aside t ts h ∙ sym (maybe_false kept t ts h) ∙ e
  ]

  maybe_refuses : (ts us : List Tok) (x : Flaw) → is_limit x ≡ false → maybe_at goes (p.read kept) ts ≡ fails x us → maybe_at goes (p.read aside) ts ≡ fails x us
  maybe_refuses [] us x n e = absurd cc
  maybe_refuses (t ∷ ts) us x n e = elim (either_way (goes t.face)) [
    | inl h ↦ elim (bind_fails (p.read kept (t ∷ ts)) there x us (sym (maybe_true kept t ts h) ∙ e)) [
      | inl k ↦ maybe_true aside t ts h ∙ rw (gp.refuses (t ∷ ts) us x n k) refl
      | inr b ↦ absurd cc
    ]
    | inr h ↦ (let k : got none (t ∷ ts) ≡ fails x us = sym (maybe_false kept t ts h) ∙ e in absurd cc)
  ]

  maybe_tells : (ts us : List Tok) (x : Flaw) → is_limit x ≡ true → maybe_at goes (p.read kept) ts ≡ fails x us → Reaches M ts us
  maybe_tells [] us x n e = absurd cc
  maybe_tells (t ∷ ts) us x n e = elim (either_way (goes t.face)) [
    | inl h ↦ elim (bind_fails (p.read kept (t ∷ ts)) there x us (sym (maybe_true kept t ts h) ∙ e)) [
      | inl j ↦ (let k = gp.tells (t ∷ ts) us x n j in
          record { upto = k.upto; at = k.at; rest = k.rest; head = k.head; parts = k.parts; value = Some k.value; more = k.more; fits = k.fits; spelled = k.spelled })
      | inr b ↦ absurd cc
    ]
    | inr h ↦ (let k : got none (t ∷ ts) ≡ fails x us = sym (maybe_false kept t ts h) ∙ e in absurd cc)
  ]

  maybe_relines : (a : Option A) (ts : List Tok) → M.fits kept a → faces ts ≡ mark_faces (M.spell a) → Relined M a ts
  maybe_relines None [] f e = record { value = None; spelled = tt; fits = tt; same = refl }
  maybe_relines None (t ∷ ts) f e = absurd cc
  maybe_relines (Some a) ts f e = let k = gp.relines a ts f e in record { value = Some k.value; spelled = k.spelled; fits = k.fits; same = ap some k.same }

  pub maybe_good : Good (maybe goes p)
  maybe_good = record {
    got_more = maybe_got_more;
    fails_more = maybe_fails_more;
    later = maybe_later;
    takes = λ l ts us a e. (maybe_takes l ts us a e).0;
    fitting = λ l ts us a e. (maybe_takes l ts us a e).1;
    stands = maybe_stands;
    again = maybe_again;
    begins = maybe_begins;
    some = (none, tt);
    looser = maybe_looser;
    gets = maybe_gets;
    refuses = maybe_refuses;
    tells = maybe_tells;
    relines = maybe_relines;
  }

-- ---- one of two, by the first token

pub is_no : (b : Bool) → not b ≡ true → b ≡ false
is_no true e = absurd cc
is_no false e = refl

module _ {A B : Type 0} (goes : Lexeme → Bool) {p : Rule A} {q : Rule B} (gp : Good p) (gq : Good q) (s : Starts goes p) (r : Starts (λ x. not (goes x)) q) where
  abbrev O : Rule (A ⊎ B)
  O = either goes p q

  abbrev L : A → A ⊎ B
  L a = inl a

  abbrev R : B → A ⊎ B
  R b = inr b

  abbrev on_left : A → List Tok → Read (A ⊎ B)
  on_left a us = got (L a) us

  abbrev on_right : B → List Tok → Read (A ⊎ B)
  on_right b us = got (R b) us

  abbrev Ch : Limits → List Tok → Read (A ⊎ B)
  Ch l ts = either_at goes (p.read l) (q.read l) ts

  is_left : (l : Limits) (t : Tok) (ts : List Tok) → goes t.face ≡ true → Ch l (t ∷ ts) ≡ bind (p.read l (t ∷ ts)) on_left
  is_left l t ts h = rw h refl

  is_right : (l : Limits) (t : Tok) (ts : List Tok) → goes t.face ≡ false → Ch l (t ∷ ts) ≡ bind (q.read l (t ∷ ts)) on_right
  is_right l t ts h = rw h refl

  either_got_more : (l : Limits) (ts more us : List Tok) (x : A ⊎ B) → Ch l ts ≡ got x us → Ch l (ts ++ more) ≡ got x (us ++ more)
  either_got_more l [] more us x e = absurd cc
  either_got_more l (t ∷ ts) more us x e = elim (either_way (goes t.face)) [
    | inl h ↦ (let b = bind_got (p.read l (t ∷ ts)) on_left x us (sym (is_left l t ts h) ∙ e) in
        is_left l t (ts ++ more) h ∙ rw (gp.got_more l (t ∷ ts) more b.1 b.0 b.2) (rw (same_value (L b.0) x b.1 us b.3, same_rest (L b.0) x b.1 us b.3) refl))
    | inr h ↦ (let b = bind_got (q.read l (t ∷ ts)) on_right x us (sym (is_right l t ts h) ∙ e) in
        is_right l t (ts ++ more) h ∙ rw (gq.got_more l (t ∷ ts) more b.1 b.0 b.2) (rw (same_value (R b.0) x b.1 us b.3, same_rest (R b.0) x b.1 us b.3) refl))
  ]

  either_fails_more : (l : Limits) (ts more us : List Tok) (x : Flaw) → Ch l ts ≡ fails x us → Ch l (ts ++ more) ≡ fails x (us ++ more)
  either_fails_more l [] more us x e = absurd cc
  either_fails_more l (t ∷ ts) more us x e = elim (either_way (goes t.face)) [
    | inl h ↦ elim (bind_fails (p.read l (t ∷ ts)) on_left x us (sym (is_left l t ts h) ∙ e)) [
      | inl k ↦ is_left l t (ts ++ more) h ∙ rw (gp.fails_more l (t ∷ ts) more us x k) refl
      | inr b ↦ absurd cc
    ]
    | inr h ↦ elim (bind_fails (q.read l (t ∷ ts)) on_right x us (sym (is_right l t ts h) ∙ e)) [
      | inl k ↦ is_right l t (ts ++ more) h ∙ rw (gq.fails_more l (t ∷ ts) more us x k) refl
      | inr b ↦ absurd cc
    ]
  ]

  either_within : (l : Limits) (t : Tok) (ts : List Tok) → left (Ch l (t ∷ ts)) ≤ suc (length ts)
  either_within l t ts = elim (either_way (goes t.face)) [
    | inl h ↦ rw (is_left l t ts h) (left_bind (p.read l (t ∷ ts)) on_left (suc (length ts)) (within p gp l (t ∷ ts)) (λ a us _. omega arith))
    | inr h ↦ rw (is_right l t ts h) (left_bind (q.read l (t ∷ ts)) on_right (suc (length ts)) (within q gq l (t ∷ ts)) (λ a us _. omega arith))
  ]

  either_later : (l : Limits) (ts more : List Tok) → Ch l ts ≡ short → left (Ch l (ts ++ more)) ≤ length more
  either_later l [] [] e = omega arith
  either_later l [] (t ∷ ts) e = either_within l t ts
  either_later l (t ∷ ts) more e = elim (either_way (goes t.face)) [
    | inl h ↦ elim (bind_short (p.read l (t ∷ ts)) on_left (sym (is_left l t ts h) ∙ e)) [
      | inl k ↦ rw (is_left l t (ts ++ more) h) (left_bind (p.read l (t ∷ (ts ++ more))) on_left (length more) (gp.later l (t ∷ ts) more k) (λ a us _. omega arith))
      | inr b ↦ absurd cc
    ]
    | inr h ↦ elim (bind_short (q.read l (t ∷ ts)) on_right (sym (is_right l t ts h) ∙ e)) [
      | inl k ↦ rw (is_right l t (ts ++ more) h) (left_bind (q.read l (t ∷ (ts ++ more))) on_right (length more) (gq.later l (t ∷ ts) more k) (λ a us _. omega arith))
      | inr b ↦ absurd cc
    ]
  ]

  either_takes : (l : Limits) (ts us : List Tok) (x : A ⊎ B) → Ch l ts ≡ got x us → Takes O.spell ts x us × O.fits l x
  either_takes l [] us x e = absurd cc
  either_takes l (t ∷ ts) us x e = elim (either_way (goes t.face)) [
    | inl h ↦ (let b = bind_got (p.read l (t ∷ ts)) on_left x us (sym (is_left l t ts h) ∙ e) in
        let k = gp.takes l (t ∷ ts) b.1 b.0 b.2 in
        let whole : Takes O.spell (t ∷ ts) (L b.0) b.1 = record { front = k.front; parts = k.parts; spelled = k.spelled } in (
          takes_as O.spell (t ∷ ts) (L b.0) x b.1 us (same_value (L b.0) x b.1 us b.3) (same_rest (L b.0) x b.1 us b.3) whole,
          subst (O.fits l) (same_value (L b.0) x b.1 us b.3) (gp.fitting l (t ∷ ts) b.1 b.0 b.2),
        ))
    | inr h ↦ (let b = bind_got (q.read l (t ∷ ts)) on_right x us (sym (is_right l t ts h) ∙ e) in
        let k = gq.takes l (t ∷ ts) b.1 b.0 b.2 in
        let whole : Takes O.spell (t ∷ ts) (R b.0) b.1 = record { front = k.front; parts = k.parts; spelled = k.spelled } in (
          takes_as O.spell (t ∷ ts) (R b.0) x b.1 us (same_value (R b.0) x b.1 us b.3) (same_rest (R b.0) x b.1 us b.3) whole,
          subst (O.fits l) (same_value (R b.0) x b.1 us b.3) (gq.fitting l (t ∷ ts) b.1 b.0 b.2),
        ))
  ]

  either_stands : (l : Limits) (ts us : List Tok) (x : Flaw) → Ch l ts ≡ fails x us → Stands ts us
  either_stands l [] us x e = absurd cc
  either_stands l (t ∷ ts) us x e = elim (either_way (goes t.face)) [
    | inl h ↦ elim (bind_fails (p.read l (t ∷ ts)) on_left x us (sym (is_left l t ts h) ∙ e)) [
      | inl k ↦ gp.stands l (t ∷ ts) us x k
      | inr b ↦ absurd cc
    ]
    | inr h ↦ elim (bind_fails (q.read l (t ∷ ts)) on_right x us (sym (is_right l t ts h) ∙ e)) [
      | inl k ↦ gq.stands l (t ∷ ts) us x k
      | inr b ↦ absurd cc
    ]
  ]

  either_again : (l : Limits) (front us : List Tok) (x : A ⊎ B) → O.fits l x → Spelled front (O.spell x) → O.follow us ≡ true → Ch l (front ++ us) ≡ got x us
  either_again l [] us (inl a) f h e = absurd (no_head goes (p.spell a) h (s.heads a (loosened p gp l a f)))
  either_again l (t ∷ ts) us (inl a) f h e =
      is_left l t (ts ++ us) (head_is goes t ts (p.spell a) h (s.heads a (loosened p gp l a f)))
      ∙ rw (gp.again l (t ∷ ts) us a f h (both_true (p.follow us) (q.follow us) e).0) refl
  either_again l [] us (inr b) f h e = absurd (no_head (λ x. not (goes x)) (q.spell b) h (r.heads b (loosened q gq l b f)))
  either_again l (t ∷ ts) us (inr b) f h e =
      is_right l t (ts ++ us) (is_no (goes t.face) (head_is (λ x. not (goes x)) t ts (q.spell b) h (r.heads b (loosened q gq l b f))))
      ∙ rw (gq.again l (t ∷ ts) us b f h (both_true (p.follow us) (q.follow us) e).1) refl

  either_begins : (l : Limits) (ts : List Tok) → Ch l ts ≡ short → Begins O ts
  either_begins l [] e = record { value = L gp.some.0; more = bearers (p.spell gp.some.0); fits = gp.some.1; spelled = bearers_spelled (p.spell gp.some.0) }
  either_begins l (t ∷ ts) e = elim (either_way (goes t.face)) [
    | inl h ↦ elim (bind_short (p.read l (t ∷ ts)) on_left (sym (is_left l t ts h) ∙ e)) [
      | inl k ↦ (let b = gp.begins l (t ∷ ts) k in record { value = L b.value; more = b.more; fits = b.fits; spelled = b.spelled })
      | inr b ↦ absurd cc
    ]
    | inr h ↦ elim (bind_short (q.read l (t ∷ ts)) on_right (sym (is_right l t ts h) ∙ e)) [
      | inl k ↦ (let b = gq.begins l (t ∷ ts) k in record { value = R b.value; more = b.more; fits = b.fits; spelled = b.spelled })
      | inr b ↦ absurd cc
    ]
  ]

  either_looser : (x : A ⊎ B) → O.fits kept x → O.fits aside x
  either_looser (inl a) h = gp.looser a h
  either_looser (inr b) h = gq.looser b h

  either_gets : (ts us : List Tok) (x : A ⊎ B) → Ch kept ts ≡ got x us → Ch aside ts ≡ got x us
  either_gets [] us x e = absurd cc
  either_gets (t ∷ ts) us x e = elim (either_way (goes t.face)) [
    | inl h ↦ (let b = bind_got (p.read kept (t ∷ ts)) on_left x us (sym (is_left kept t ts h) ∙ e) in
        is_left aside t ts h ∙ rw (gp.gets (t ∷ ts) b.1 b.0 b.2) b.3)
    | inr h ↦ (let b = bind_got (q.read kept (t ∷ ts)) on_right x us (sym (is_right kept t ts h) ∙ e) in
        is_right aside t ts h ∙ rw (gq.gets (t ∷ ts) b.1 b.0 b.2) b.3)
  ]

  either_refuses : (ts us : List Tok) (x : Flaw) → is_limit x ≡ false → Ch kept ts ≡ fails x us → Ch aside ts ≡ fails x us
  either_refuses [] us x n e = absurd cc
  either_refuses (t ∷ ts) us x n e = elim (either_way (goes t.face)) [
    | inl h ↦ elim (bind_fails (p.read kept (t ∷ ts)) on_left x us (sym (is_left kept t ts h) ∙ e)) [
      | inl k ↦ is_left aside t ts h ∙ rw (gp.refuses (t ∷ ts) us x n k) refl
      | inr b ↦ absurd cc
    ]
    | inr h ↦ elim (bind_fails (q.read kept (t ∷ ts)) on_right x us (sym (is_right kept t ts h) ∙ e)) [
      | inl k ↦ is_right aside t ts h ∙ rw (gq.refuses (t ∷ ts) us x n k) refl
      | inr b ↦ absurd cc
    ]
  ]

  either_tells : (ts us : List Tok) (x : Flaw) → is_limit x ≡ true → Ch kept ts ≡ fails x us → Reaches O ts us
  either_tells [] us x n e = absurd cc
  either_tells (t ∷ ts) us x n e = elim (either_way (goes t.face)) [
    | inl h ↦ elim (bind_fails (p.read kept (t ∷ ts)) on_left x us (sym (is_left kept t ts h) ∙ e)) [
      | inl j ↦ (let k = gp.tells (t ∷ ts) us x n j in
          record { upto = k.upto; at = k.at; rest = k.rest; head = k.head; parts = k.parts; value = L k.value; more = k.more; fits = k.fits; spelled = k.spelled })
      | inr b ↦ absurd cc
    ]
    | inr h ↦ elim (bind_fails (q.read kept (t ∷ ts)) on_right x us (sym (is_right kept t ts h) ∙ e)) [
      | inl j ↦ (let k = gq.tells (t ∷ ts) us x n j in
          record { upto = k.upto; at = k.at; rest = k.rest; head = k.head; parts = k.parts; value = R k.value; more = k.more; fits = k.fits; spelled = k.spelled })
      | inr b ↦ absurd cc
    ]
  ]

  either_relines : (x : A ⊎ B) (ts : List Tok) → O.fits kept x → faces ts ≡ mark_faces (O.spell x) → Relined O x ts
  either_relines (inl a) ts f e = let k = gp.relines a ts f e in record { value = L k.value; spelled = k.spelled; fits = k.fits; same = ap L k.same }
  either_relines (inr b) ts f e = let k = gq.relines b ts f e in record { value = R k.value; spelled = k.spelled; fits = k.fits; same = ap R k.same }

  pub either_good : Good (either goes p q)
  either_good = record {
    got_more = either_got_more;
    fails_more = either_fails_more;
    later = either_later;
    takes = λ l ts us x e. (either_takes l ts us x e).0;
    fitting = λ l ts us x e. (either_takes l ts us x e).1;
    stands = either_stands;
    again = either_again;
    begins = either_begins;
    some = (L gp.some.0, gp.some.1);
    looser = either_looser;
    gets = either_gets;
    refuses = either_refuses;
    tells = either_tells;
    relines = either_relines;
  }

-- ---- an item past a limit

-- wrong is against a limit exactly where an item could begin
pub record Past {A : Type 0} (wrong : Lexeme → Flaw) (p : Rule A) : Type 0 where
  pub no_item : (t : Tok) (ts : List Tok) → is_limit (wrong t.face) ≡ false → p.read aside (t ∷ ts) ≡ fails (wrong t.face) (t ∷ ts)
  pub item : (t : Tok) → is_limit (wrong t.face) ≡ true → (a : A) × (more : List Tok) × p.fits aside a × Spelled (t ∷ more) (p.spell a)

module _ {A : Type 0} (wrong : Lexeme → Flaw) {p : Rule A} (gp : Good p) (w : Past wrong p) where
  abbrev Q : Rule A
  Q = past wrong p

  past_got_more : (l : Limits) (ts more us : List Tok) (a : A) → Q.read l ts ≡ got a us → Q.read l (ts ++ more) ≡ got a (us ++ more)
  past_got_more kept [] more us a e = absurd cc
  past_got_more kept (t ∷ ts) more us a e = absurd cc
  past_got_more aside ts more us a e = gp.got_more aside ts more us a e

  past_fails_more : (l : Limits) (ts more us : List Tok) (x : Flaw) → Q.read l ts ≡ fails x us → Q.read l (ts ++ more) ≡ fails x (us ++ more)
  past_fails_more kept [] more us x e = absurd cc
  past_fails_more kept (t ∷ ts) more us x e = let h = fails_same {A = A} (wrong t.face) x (t ∷ ts) us e in rw (h.0, ← h.1) refl
  past_fails_more aside ts more us x e = gp.fails_more aside ts more us x e

  past_later : (l : Limits) (ts more : List Tok) → Q.read l ts ≡ short → left (Q.read l (ts ++ more)) ≤ length more
  past_later kept [] [] e = omega arith
  past_later kept [] (t ∷ more) e = omega arith
  past_later kept (t ∷ ts) more e = absurd cc
  past_later aside ts more e = gp.later aside ts more e

  past_takes : (l : Limits) (ts us : List Tok) (a : A) → Q.read l ts ≡ got a us → Takes Q.spell ts a us × Q.fits l a
  past_takes kept [] us a e = absurd cc
  past_takes kept (t ∷ ts) us a e = absurd cc
  past_takes aside ts us a e = (let k = gp.takes aside ts us a e in record { front = k.front; parts = k.parts; spelled = k.spelled }, gp.fitting aside ts us a e)

  past_stands : (l : Limits) (ts us : List Tok) (x : Flaw) → Q.read l ts ≡ fails x us → Stands ts us
  past_stands kept [] us x e = absurd cc
  past_stands kept (t ∷ ts) us x e = let h = fails_same {A = A} (wrong t.face) x (t ∷ ts) us e in record { front = []; at = t; rest = ts; parts = h.1; head = sym h.1 }
  past_stands aside ts us x e = gp.stands aside ts us x e

  past_again : (l : Limits) (front us : List Tok) (a : A) → Q.fits l a → Spelled front (p.spell a) → p.follow us ≡ true → Q.read l (front ++ us) ≡ got a us
  past_again kept front us a f h e = absurd f
  past_again aside front us a f h e = gp.again aside front us a f h e

  past_begins : (l : Limits) (ts : List Tok) → Q.read l ts ≡ short → Begins Q ts
  past_begins kept [] e = record { value = gp.some.0; more = bearers (p.spell gp.some.0); fits = gp.some.1; spelled = bearers_spelled (p.spell gp.some.0) }
  past_begins kept (t ∷ ts) e = absurd cc
  past_begins aside ts e = let k = gp.begins aside ts e in record { value = k.value; more = k.more; fits = k.fits; spelled = k.spelled }

  past_gets : (ts us : List Tok) (a : A) → past_at wrong ts ≡ got a us → p.read aside ts ≡ got a us
  past_gets [] us a e = absurd cc
  past_gets (t ∷ ts) us a e = absurd cc

  past_refuses : (ts us : List Tok) (x : Flaw) → is_limit x ≡ false → past_at {A = A} wrong ts ≡ fails x us → p.read aside ts ≡ fails x us
  past_refuses [] us x n e = absurd cc
  past_refuses (t ∷ ts) us x n e = let k = fails_same {A = A} (wrong t.face) x (t ∷ ts) us e in w.no_item t ts (ap is_limit k.0 ∙ n) ∙ rw (k.0, ← k.1) refl

  past_tells : (ts us : List Tok) (x : Flaw) → is_limit x ≡ true → past_at {A = A} wrong ts ≡ fails x us → Reaches Q ts us
  past_tells [] us x n e = absurd cc
  past_tells (t ∷ ts) us x n e =
      let k = fails_same {A = A} (wrong t.face) x (t ∷ ts) us e in
      let a = w.item t (ap is_limit k.0 ∙ n) in
      record { upto = t ∷ []; at = t; rest = ts; head = sym k.1; parts = refl; value = a.0; more = a.1; fits = a.2; spelled = a.3 }

  pub past_good : Good (past wrong p)
  past_good = record {
    got_more = past_got_more;
    fails_more = past_fails_more;
    later = past_later;
    takes = λ l ts us a e. (past_takes l ts us a e).0;
    fitting = λ l ts us a e. (past_takes l ts us a e).1;
    stands = past_stands;
    again = past_again;
    begins = past_begins;
    some = gp.some;
    looser = λ a h. absurd h;
    gets = past_gets;
    refuses = past_refuses;
    tells = past_tells;
    relines = λ a ts f e. absurd f;
  }
