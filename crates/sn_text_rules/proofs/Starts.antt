-- Tokens that are read within the limits without a fault begin an accepted text.
use Rattle.std.proofs.Common.{◌≡◌, ℕ, zero, suc, ◌≤◌, ◌<◌, Bool, true, false, cond, List, [], ◌∷◌, ◌++◌, length, map, Option, Some, None, Result, Ok, Err, refl, sym, ap, subst, ◌∙◌, append_assoc, arith, inl, inr, ◌⊎◌}
use Rattle.std.specs.Prelude.{nat_le}
use Rattle.std.proofs.lemmas.Bool.{le-leb}
use Rattle.std.proofs.lemmas.List.{append-nil}
use Rattle.sn_text_rules.specs.declared.Flaw.{Flaw}
use Rattle.sn_text_rules.specs.Tokens.{Lexeme, word, number, symbol, finish, Tok, Mark, plain, lined, Spelled, Read, got, fails, short, bind}
use Rattle.sn_text_rules.specs.Rules.{Limits, kept, Rule, judged, one, pair_on, pair, spelled_as, holds_of, embedded, renamed, no_more, maybe, either, closed, links, items_spelled, fit_from, many, series, past, either_rule, BeginsAccepted}
use Rattle.sn_text_rules.specs.Words.{wrong, is_word, is_symbol, is_finish, passed, the, keyword, sign, the_end, line_at, line_of_word, line_of_sign, judged_by, leaf, number_at, in_range, number_in, second, as_second, first, with_second, ◌▸◌, ◌◂◌, commas}
use Rattle.sn_text_rules.proofs.Common.{either_way, bind_short, respelled, remarked, spelled_append, bearers, bearers_spelled}
use Rattle.sn_text_rules.proofs.Laws.{Good}
use Rattle.sn_text_rules.proofs.Choices.{Undoes}
use Rattle.sn_text_rules.proofs.Series.{Alike, some_or_none, fewer, links_go, links_fail, links_shut, links_over}
use Rattle.sn_text_rules.proofs.Words.{keyword_good, sign_good, symbol_mark, Listed, comma_alike}
use Rattle.sn_text_rules.proofs.Items.{below_limit}

-- ---- the laws

-- a value keeps the limits
abbrev pub HasValue : {A : Type 0} → Rule A → Type 0
HasValue {A} r = (a : A) × r.fits kept a

-- The last token is a comma after which no token can stand, and an accepted text begins with those before it.
pub record Halts {A : Type 0} (r : Rule A) (ts : List Tok) : Type 0 where
  pub fore : List Tok
  pub comma : Tok
  pub parts : ts ≡ fore ++ comma ∷ []
  pub is_comma : comma.face ≡ symbol 3
  pub begins : BeginsAccepted r fore
  pub shut : (t : Tok) (rest : List Tok) → (x : Flaw) × (r.read kept (ts ++ t ∷ rest) ≡ fails x (t ∷ rest))

abbrev pub Start : {A : Type 0} → Rule A → List Tok → Type 0
Start r ts = BeginsAccepted r ts ⊎ Halts r ts

-- tokens that are read without a fault start a text, if there is one of them at least
pub record Kept {A : Type 0} (r : Rule A) : Type 0 where
  pub begins : (t : Tok) (ts : List Tok) → r.read kept (t ∷ ts) ≡ short → Start r (t ∷ ts)

-- that, and a value keeps the limits
pub record Able {A : Type 0} (r : Rule A) : Type 0 where
  pub keeps : Kept r
  pub some : HasValue r

-- tokens that are read without a fault start a text
pub record Starting {A : Type 0} (r : Rule A) : Type 0 where
  pub starts : (ts : List Tok) → r.read kept ts ≡ short → Start r ts

-- no token can stand here
pub record Dead {A : Type 0} (r : Rule A) : Type 0 where
  pub fault : (t : Tok) (ts : List Tok) → (x : Flaw) × (r.read kept (t ∷ ts) ≡ fails x (t ∷ ts))

pub opened : {A : Type 0} (r : Rule A) (ts more : List Tok) (a : A) → r.fits kept a → Spelled (ts ++ more) (r.spell a) → BeginsAccepted r ts
opened r ts more a f s = record { value = a; more = more; accepted = record { spelled = s; fits = f } }

pub nothing_opens : {A : Type 0} (r : Rule A) → HasValue r → BeginsAccepted r []
nothing_opens r v = opened r [] (bearers (r.spell v.0)) v.0 v.1 (bearers_spelled (r.spell v.0))

pub starting : {A : Type 0} {r : Rule A} → Able r → Starting r
starting {A} {r = r} a = record { starts = go }
  where
    go : (ts : List Tok) → r.read kept ts ≡ short → Start r ts
    go [] e = inl (nothing_opens r a.some)
    go (t ∷ ts) e = a.keeps.begins t ts e

-- what starts a part starts the whole, after what is in front of the part
pub carried : {A B : Type 0} (p : Rule A) (r : Rule B) (ts front us : List Tok) → ts ≡ front ++ us → ((vs : List Tok) → BeginsAccepted p vs → BeginsAccepted r (front ++ vs))
    → ((vs rest : List Tok) (x : Flaw) → p.read kept (us ++ vs) ≡ fails x rest → r.read kept (ts ++ vs) ≡ fails x rest) → Start p us → Start r ts
carried p r ts front us e opens fault (inl b) = inl (subst (BeginsAccepted r) (sym e) (opens us b))
carried p r ts front us e opens fault (inr h) = inr (record {
  fore = front ++ h.fore;
  comma = h.comma;
  parts = e ∙ ap (λ (l : List Tok). front ++ l) h.parts ∙ sym (append_assoc front h.fore (h.comma ∷ []));
  is_comma = h.is_comma;
  begins = opens h.fore h.begins;
  shut = λ t rest. let k = h.shut t rest in (k.0, fault (t ∷ rest) (t ∷ rest) k.0 k.1);
})

-- ---- one token

pub one_known : {A : Type 0} (j : Result A Flaw) (t : Tok) (ts : List Tok) → judged j t ts ≡ short → ⊥
one_known (Ok b) t ts e = cc
one_known (Err f) t ts e = cc

pub one_kept : {A : Type 0} (mark : A → Mark) (fits : Limits → A → Type 0) (judge : Limits → Tok → Result A Flaw) (bare : A → A) → Kept (one mark fits judge bare)
one_kept mark fits judge bare = record { begins = λ t ts e. absurd (one_known (judge kept t) t ts e) }

-- ---- one after the other

module _ {A B : Type 0} {p : Rule A} {q : A → Rule B} (follow : List Tok → Bool) (gp : Good p) (kp : Kept p) (able : (a : A) → p.fits kept a → Able (q a)) where
  abbrev P : Rule (A × B)
  P = pair_on p q follow

  abbrev both : A → B → List Tok → Read (A × B)
  both a b vs = got (a, b) vs

  abbrev rest_of : A → List Tok → Read (A × B)
  rest_of a us = bind ((q a).read kept us) (both a)

  first_opens : (ts : List Tok) → BeginsAccepted p ts → BeginsAccepted P ts
  first_opens ts k =
      let b = (able k.value k.accepted.fits).some in
      let tail = bearers ((q k.value).spell b.0) in
      opened P ts (k.more ++ tail) (k.value, b.0) (k.accepted.fits, b.1)
      (respelled ((ts ++ k.more) ++ tail) (ts ++ (k.more ++ tail)) (P.spell (k.value, b.0)) (append_assoc ts k.more tail) (spelled_append (ts ++ k.more) tail (p.spell k.value) ((q k.value).spell b.0) k.accepted.spelled (bearers_spelled ((q k.value).spell b.0))))

  second_opens : (front us : List Tok) (a : A) → p.fits kept a → Spelled front (p.spell a) → BeginsAccepted (q a) us → BeginsAccepted P (front ++ us)
  second_opens front us a f s k =
      opened P (front ++ us) k.more (a, k.value) (f, k.accepted.fits)
      (respelled (front ++ (us ++ k.more)) ((front ++ us) ++ k.more) (P.spell (a, k.value)) (sym (append_assoc front us k.more)) (spelled_append front (us ++ k.more) (p.spell a) ((q a).spell k.value) s k.accepted.spelled))

  first_fault : (ts rest : List Tok) (x : Flaw) → p.read kept ts ≡ fails x rest → P.read kept ts ≡ fails x rest
  first_fault ts rest x e = rw e refl

  second_fault : (ts us rest : List Tok) (a : A) (x : Flaw) → p.read kept ts ≡ got a us → (q a).read kept us ≡ fails x rest → P.read kept ts ≡ fails x rest
  second_fault ts us rest a x e f = rw (e, f) refl

  pub pair_on_kept : Kept (pair_on p q follow)
  pair_on_kept = record {
    begins = λ t ts e. elim (bind_short (p.read kept (t ∷ ts)) rest_of e) [
      | inl h ↦ carried p P (t ∷ ts) [] (t ∷ ts) refl first_opens (λ vs rest x f. first_fault ((t ∷ ts) ++ vs) rest x f) (kp.begins t ts h)
      | inr b ↦ elim (bind_short ((q b.0).read kept b.1) (both b.0) b.3) [
        | inl h ↦ (let k = gp.takes kept (t ∷ ts) b.1 b.0 b.2 in
            let fits = gp.fitting kept (t ∷ ts) b.1 b.0 b.2 in
            carried (q b.0) P (t ∷ ts) k.front b.1 k.parts (λ vs o. second_opens k.front vs b.0 fits k.spelled o) (λ vs rest x f. second_fault ((t ∷ ts) ++ vs) (b.1 ++ vs) rest b.0 x (gp.got_more kept (t ∷ ts) vs b.1 b.0 b.2) f)
            ((starting (able b.0 fits)).starts b.1 h))
        | inr c ↦ absurd cc
      ]
    ];
  }

pub pair_on_able : {A B : Type 0} {p : Rule A} {q : A → Rule B} (follow : List Tok → Bool) → Good p → Able p → ((a : A) → p.fits kept a → Able (q a)) → Able (pair_on p q follow)
pair_on_able follow gp x able = let b = (able x.some.0 x.some.1).some in record { keeps = pair_on_kept follow gp x.keeps able; some = ((x.some.0, b.0), (x.some.1, b.1)) }

pub pair_able : {A B : Type 0} {p : Rule A} {q : Rule B} → Good p → Able p → Able q → Able (pair p q)
pair_able {q = q} gp x y = pair_on_able q.follow gp x (λ a f. y)

-- ---- the same text under another value

module _ {A B : Type 0} (to : A → B) (from : B → Option A) (p : Rule A) (back : (a : A) → p.fits kept a → from (to a) ≡ Some a) where
  abbrev E : Rule B
  E = embedded to from p

  abbrev under : A → List Tok → Read B
  under a us = got (to a) us

  under_opens : (ts : List Tok) → BeginsAccepted p ts → BeginsAccepted E ts
  under_opens ts k =
      let e = sym (back k.value k.accepted.fits) in
      opened E ts k.more (to k.value) (subst (λ o. holds_of (p.fits kept) o) e k.accepted.fits) (subst (λ o. Spelled (ts ++ k.more) (spelled_as p.spell o)) e k.accepted.spelled)

  under_fault : (ts rest : List Tok) (x : Flaw) → p.read kept ts ≡ fails x rest → E.read kept ts ≡ fails x rest
  under_fault ts rest x e = rw e refl

  under_begins : Kept p → (t : Tok) (ts : List Tok) → E.read kept (t ∷ ts) ≡ short → Start E (t ∷ ts)
  under_begins k t ts e = elim (bind_short (p.read kept (t ∷ ts)) under e) [
    | inl h ↦ carried p E (t ∷ ts) [] (t ∷ ts) refl under_opens (λ vs rest x f. under_fault ((t ∷ ts) ++ vs) rest x f) (k.begins t ts h)
    | inr b ↦ absurd cc
  ]

  as_kept : Kept p → Kept (embedded to from p)
  as_kept k = record { begins = under_begins k }

  as_value : HasValue p → HasValue (embedded to from p)
  as_value v = (to v.0, subst (λ o. holds_of (p.fits kept) o) (sym (back v.0 v.1)) v.1)

pub embedded_able : {A B : Type 0} (to : A → B) (from : B → Option A) {p : Rule A} → Undoes to from p → Good p → Able p → Able (embedded to from p)
embedded_able to from {p = p} u gp a = record { keeps = as_kept to from p (λ x f. u.back x (gp.looser x f)) a.keeps; some = as_value to from p (λ x f. u.back x (gp.looser x f)) a.some }

some_back : {A B : Type 0} (to : A → B) (from : B → A) → ((a : A) → from (to a) ≡ a) → (a : A) → Some (from (to a)) ≡ Some a
some_back {A} to from back a = ap (λ (y : A). Some y) (back a)

pub renamed_kept : {A B : Type 0} (to : A → B) (from : B → A) {p : Rule A} → ((a : A) → from (to a) ≡ a) → Kept p → Kept (renamed to from p)
renamed_kept to from {p = p} back k = as_kept to (λ b. Some (from b)) p (λ x f. some_back to from back x) k

pub renamed_able : {A B : Type 0} (to : A → B) (from : B → A) {p : Rule A} → ((a : A) → from (to a) ≡ a) → Able p → Able (renamed to from p)
renamed_able to from {p = p} back a = record { keeps = renamed_kept to from back a.keeps; some = as_value to (λ b. Some (from b)) p (λ x f. some_back to from back x) a.some }

-- ---- parts chosen by their first token

module _ {A : Type 0} (goes : Lexeme → Bool) {p : Rule A} (kp : Kept p) where
  abbrev M : Rule (Option A)
  M = maybe goes p

  abbrev there : A → List Tok → Read (Option A)
  there a us = got (Some a) us

  abbrev none : Option A
  none = None

  is_there : (t : Tok) (ts : List Tok) → goes t.face ≡ true → M.read kept (t ∷ ts) ≡ bind (p.read kept (t ∷ ts)) there
  is_there t ts h = rw h refl

  not_there : (t : Tok) (ts : List Tok) → goes t.face ≡ false → M.read kept (t ∷ ts) ≡ got None (t ∷ ts)
  not_there t ts h = rw h refl

  there_fault : (t : Tok) (ts rest : List Tok) (x : Flaw) → goes t.face ≡ true → p.read kept (t ∷ ts) ≡ fails x rest → M.read kept (t ∷ ts) ≡ fails x rest
  there_fault t ts rest x h e = is_there t ts h ∙ rw e refl

  there_opens : (ts : List Tok) → BeginsAccepted p ts → BeginsAccepted M ts
  there_opens ts k = opened M ts k.more (Some k.value) k.accepted.fits k.accepted.spelled

  maybe_begins : (t : Tok) (ts : List Tok) → M.read kept (t ∷ ts) ≡ short → Start M (t ∷ ts)
  maybe_begins t ts e = elim (either_way (goes t.face)) [
    | inl h ↦ elim (bind_short (p.read kept (t ∷ ts)) there (sym (is_there t ts h) ∙ e)) [
      | inl k ↦ carried p M (t ∷ ts) [] (t ∷ ts) refl there_opens (λ vs rest x f. there_fault t (ts ++ vs) rest x h f) (kp.begins t ts k)
      | inr b ↦ absurd cc
    ]
    | inr h ↦ (let k : got none (t ∷ ts) ≡ short = sym (not_there t ts h) ∙ e in absurd cc)
  ]

  pub maybe_able : Able (maybe goes p)
  maybe_able = record { keeps = record { begins = maybe_begins }; some = (none, tt) }

module _ {A B : Type 0} (goes : Lexeme → Bool) {p : Rule A} {q : Rule B} (kp : Kept p) (kq : Kept q) where
  abbrev O : Rule (A ⊎ B)
  O = either goes p q

  abbrev L : A → A ⊎ B
  L a = inl a

  abbrev R : B → A ⊎ B
  R b = inr b

  abbrev on_left : A → List Tok → Read (A ⊎ B)
  on_left a us = got (L a) us

  abbrev on_right : B → List Tok → Read (A ⊎ B)
  on_right b us = got (R b) us

  is_left : (t : Tok) (ts : List Tok) → goes t.face ≡ true → O.read kept (t ∷ ts) ≡ bind (p.read kept (t ∷ ts)) on_left
  is_left t ts h = rw h refl

  is_right : (t : Tok) (ts : List Tok) → goes t.face ≡ false → O.read kept (t ∷ ts) ≡ bind (q.read kept (t ∷ ts)) on_right
  is_right t ts h = rw h refl

  left_fault : (t : Tok) (ts rest : List Tok) (x : Flaw) → goes t.face ≡ true → p.read kept (t ∷ ts) ≡ fails x rest → O.read kept (t ∷ ts) ≡ fails x rest
  left_fault t ts rest x h e = is_left t ts h ∙ rw e refl

  right_fault : (t : Tok) (ts rest : List Tok) (x : Flaw) → goes t.face ≡ false → q.read kept (t ∷ ts) ≡ fails x rest → O.read kept (t ∷ ts) ≡ fails x rest
  right_fault t ts rest x h e = is_right t ts h ∙ rw e refl

  left_opens : (ts : List Tok) → BeginsAccepted p ts → BeginsAccepted O ts
  left_opens ts k = opened O ts k.more (L k.value) k.accepted.fits k.accepted.spelled

  right_opens : (ts : List Tok) → BeginsAccepted q ts → BeginsAccepted O ts
  right_opens ts k = opened O ts k.more (R k.value) k.accepted.fits k.accepted.spelled

  either_begins : (t : Tok) (ts : List Tok) → O.read kept (t ∷ ts) ≡ short → Start O (t ∷ ts)
  either_begins t ts e = elim (either_way (goes t.face)) [
    | inl h ↦ elim (bind_short (p.read kept (t ∷ ts)) on_left (sym (is_left t ts h) ∙ e)) [
      | inl k ↦ carried p O (t ∷ ts) [] (t ∷ ts) refl left_opens (λ vs rest x f. left_fault t (ts ++ vs) rest x h f) (kp.begins t ts k)
      | inr b ↦ absurd cc
    ]
    | inr h ↦ elim (bind_short (q.read kept (t ∷ ts)) on_right (sym (is_right t ts h) ∙ e)) [
      | inl k ↦ carried q O (t ∷ ts) [] (t ∷ ts) refl right_opens (λ vs rest x f. right_fault t (ts ++ vs) rest x h f) (kq.begins t ts k)
      | inr b ↦ absurd cc
    ]
  ]

  pub either_kept : Kept (either goes p q)
  either_kept = record { begins = either_begins }

pub either_able : {A B : Type 0} (goes : Lexeme → Bool) {p : Rule A} {q : Rule B} → Able p → Able q → Able (either goes p q)
either_able goes x y = record { keeps = either_kept goes x.keeps y.keeps; some = (inl x.some.0, x.some.1) }

-- ---- words, signs and numbers

the_able : (face : Lexeme) (goes : Lexeme → Bool) → Able (the face goes)
the_able face goes = record { keeps = one_kept (λ (u : Unit {0}). plain face) (λ l u. Unit {0}) (λ l t. passed (goes t.face) tt t.face) (λ u. u); some = (tt, tt) }

pub keyword_able : (text : List ℕ) → Able (keyword text)
keyword_able text = the_able (word text) (is_word text)

pub sign_able : (k : ℕ) → Able (sign k)
sign_able k = the_able (symbol k) (is_symbol k)

pub end_able : Able the_end
end_able = the_able finish is_finish

line_able : (face : Lexeme) (goes : Lexeme → Bool) → Able (line_at face goes)
line_able face goes = record { keeps = one_kept (λ line. lined face line) (λ l line. Unit {0}) (λ l t. passed (goes t.face) t.line t.face) (λ line. 0); some = (0, tt) }

pub line_of_word_able : (text : List ℕ) → Able (line_of_word text)
line_of_word_able text = line_able (word text) (is_word text)

pub line_of_sign_able : (k : ℕ) → Able (line_of_sign k)
line_of_sign_able k = line_able (symbol k) (is_symbol k)

pub leaf_kept : {A : Type 0} (face : A → Lexeme) (get : Lexeme → Option A) (test : A → Option Flaw) → Kept (leaf face get test)
leaf_kept {A} face get test = one_kept (λ (a : A). plain (face a)) (λ l a. closed l (test a) ≡ None) (λ l t. judged_by test l t.face (get t.face)) (λ a. a)

pub leaf_able : {A : Type 0} (face : A → Lexeme) (get : Lexeme → Option A) (test : A → Option Flaw) (a : A) → test a ≡ None → Able (leaf face get test)
leaf_able face get test a e = record { keeps = leaf_kept face get test; some = (a, e) }

pub number_in_able : (low high : ℕ) → low ≤ high → Able (number_in low high)
number_in_able low high le = leaf_able number number_at (in_range low high) low (let a : nat_le low low ≡ true = le-leb low low (omega arith) in let b : nat_le low high ≡ true = le-leb low high le in rw (a, b) refl)

-- a part after a word or a sign, and before one
pub after_able : {A : Type 0} {p : Rule (Unit {0})} {q : Rule A} → Good p → Able p → Able q → Able (p ▸ q)
after_able gp x y = renamed_able second as_second (λ a. refl) (pair_able gp x y)

pub before_able : {A : Type 0} {p : Rule A} {q : Rule (Unit {0})} → Good p → Able p → Able q → Able (p ◂ q)
before_able gp x y = renamed_able first with_second (λ a. refl) (pair_able gp x y)

pub after_word_able : {A : Type 0} (text : List ℕ) {q : Rule A} → Able q → Able (keyword text ▸ q)
after_word_able text y = after_able (keyword_good text) (keyword_able text) y

pub after_sign_able : {A : Type 0} (k : ℕ) {q : Rule A} → Able q → Able (sign k ▸ q)
after_sign_able k y = after_able (sign_good k) (sign_able k) y

-- ---- lists

-- the token is a comma after which no token can stand, and there is no token after it
pub record Alone {A : Type 0} (r : Rule A) (t : Tok) (ts : List Tok) : Type 0 where
  pub is_comma : t.face ≡ symbol 3
  pub alone : ts ≡ []
  pub shut : (u : Tok) (rest : List Tok) → (x : Flaw) × (r.read kept ((t ∷ ts) ++ u ∷ rest) ≡ fails x (u ∷ rest))

-- an item of a list: tokens that are read without a fault start it, or are such a comma
pub record Steps {A : Type 0} (r : Rule A) : Type 0 where
  pub begins : (t : Tok) (ts : List Tok) → r.read kept (t ∷ ts) ≡ short → Start r (t ∷ ts) ⊎ Alone r t ts

pub kept_steps : {A : Type 0} {r : Rule A} → Kept r → Steps r
kept_steps k = record { begins = λ t ts e. inl (k.begins t ts e) }

module _ {A : Type 0} {goes : Lexeme → Bool} {shut : List A → Option Flaw} {p : List A → Rule A} (alike : Alike goes shut p) (steps : (seen : List A) → shut seen ≡ None → Steps (p seen)) where
  -- the items after those seen
  abbrev From : List A → Rule (List A)
  From seen = record {
    spell = items_spelled (p []).spell;
    fits = λ l x. fit_from shut p l seen x;
    read = λ l ts. links goes shut p l seen ts;
    follow = λ us. cond (no_more goes us) ((p []).follow us) false;
    bare = map (p []).bare;
  }

  nothing_more : (seen : List A) → BeginsAccepted (From seen) []
  nothing_more seen = opened (From seen) [] [] [] tt tt

  item_opens : (seen : List A) (ts : List Tok) → shut seen ≡ None → BeginsAccepted (p seen) ts → BeginsAccepted (From seen) ts
  item_opens seen ts f k = opened (From seen) ts k.more (k.value ∷ []) (f, k.accepted.fits, tt)
      (remarked (ts ++ k.more) ((p seen).spell k.value) ((p []).spell k.value ++ []) (alike.spells seen k.value ∙ sym (append-nil ((p []).spell k.value))) k.accepted.spelled)

  more_opens : (seen : List A) (front vs : List Tok) (a : A) → shut seen ≡ None → (p seen).fits kept a → Spelled front ((p seen).spell a) → BeginsAccepted (From (seen ++ a ∷ [])) vs → BeginsAccepted (From seen) (front ++ vs)
  more_opens seen front vs a f h s k =
      let ms = items_spelled (p []).spell k.value in
      opened (From seen) (front ++ vs) k.more (a ∷ k.value) (f, h, k.accepted.fits)
      (respelled (front ++ (vs ++ k.more)) ((front ++ vs) ++ k.more) ((p []).spell a ++ ms) (sym (append_assoc front vs k.more))
      (spelled_append front (vs ++ k.more) ((p []).spell a) ms (remarked front ((p seen).spell a) ((p []).spell a) (alike.spells seen a) s) k.accepted.spelled))

  from_short : (n : ℕ) (seen : List A) (ts : List Tok) → length ts ≤ n → links goes shut p kept seen ts ≡ short → Start (From seen) ts
  from_short n seen [] b e = inl (nothing_more seen)
  from_short zero seen (t ∷ ts) b e = absurd (omega arith)
  from_short (suc n) seen (t ∷ ts) b e = elim (either_way (goes t.face)) [
    | inl g ↦ elim (some_or_none (shut seen)) [
      | inl i ↦ at_item (λ a us less w. from_short n (seen ++ a ∷ []) us less w) ((p seen).read kept (t ∷ ts)) refl g i
      | inr x ↦ (let j : fails x.0 (t ∷ ts) ≡ short = sym (links_shut alike kept seen t ts x.0 g x.1) ∙ e in absurd cc)
    ]
    | inr g ↦ (let j : got seen (t ∷ ts) ≡ short = sym (links_over alike kept seen t ts g) ∙ e in absurd cc)
  ]
    where
      at_item : ((a : A) (us : List Tok) → length us ≤ n → links goes shut p kept (seen ++ a ∷ []) us ≡ short → Start (From (seen ++ a ∷ [])) us) → (r : Read A) → (p seen).read kept (t ∷ ts) ≡ r → goes t.face ≡ true → shut seen ≡ None → Start (From seen) (t ∷ ts)
      at_item more (got a us) f g i =
          let less = fewer alike kept seen (t ∷ ts) us a f in
          let k = (alike.good seen).takes kept (t ∷ ts) us a f in
          carried (From (seen ++ a ∷ [])) (From seen) (t ∷ ts) k.front us k.parts
          (λ vs o. more_opens seen k.front vs a i ((alike.good seen).fitting kept (t ∷ ts) us a f) k.spelled o)
          (λ vs rest x w. links_go alike kept seen t (ts ++ vs) (us ++ vs) a g i ((alike.good seen).got_more kept (t ∷ ts) vs us a f) ∙ w)
          (more a us (omega arith) (sym (links_go alike kept seen t ts us a g i f) ∙ e))
      at_item more (fails x us) f g i = (let j : fails x us ≡ short = sym (links_fail alike kept seen t ts us x g i f) ∙ e in absurd cc)
      at_item more short f g i = elim ((steps seen i).begins t ts f) [
        | inl s ↦ carried (p seen) (From seen) (t ∷ ts) [] (t ∷ ts) refl (λ vs o. item_opens seen vs i o) (λ vs rest x w. links_fail alike kept seen t (ts ++ vs) rest x g i w) s
        | inr s ↦ inr (record {
          fore = [];
          comma = t;
          parts = ap (λ (l : List Tok). t ∷ l) s.alone;
          is_comma = s.is_comma;
          begins = nothing_more seen;
          shut = λ u rest. let k = s.shut u rest in (k.0, links_fail alike kept seen t (ts ++ u ∷ rest) (u ∷ rest) k.0 g i k.1);
        })
      ]

  pub many_able : Able (many goes shut p)
  many_able = record { keeps = record { begins = λ t ts e. from_short (length (t ∷ ts)) [] (t ∷ ts) (omega arith) e }; some = ([], tt) }

  module _ {start : Rule A} (gs : Good start) (able : Able start) where
    abbrev C : Rule (List A)
    C = series start goes shut p

    abbrev then_more : A → List Tok → Read (List A)
    then_more a us = links goes shut p kept (a ∷ []) us

    start_opens : (ts : List Tok) → BeginsAccepted start ts → BeginsAccepted C ts
    start_opens ts k = opened C ts k.more (k.value ∷ []) (k.accepted.fits, tt) (remarked (ts ++ k.more) (start.spell k.value) (start.spell k.value ++ []) (sym (append-nil (start.spell k.value))) k.accepted.spelled)

    then_opens : (front vs : List Tok) (a : A) → start.fits kept a → Spelled front (start.spell a) → BeginsAccepted (From (a ∷ [])) vs → BeginsAccepted C (front ++ vs)
    then_opens front vs a h s k =
        let ms = items_spelled (p []).spell k.value in
        opened C (front ++ vs) k.more (a ∷ k.value) (h, k.accepted.fits)
        (respelled (front ++ (vs ++ k.more)) ((front ++ vs) ++ k.more) (start.spell a ++ ms) (sym (append_assoc front vs k.more)) (spelled_append front (vs ++ k.more) (start.spell a) ms s k.accepted.spelled))

    start_fault : (ts rest : List Tok) (x : Flaw) → start.read kept ts ≡ fails x rest → C.read kept ts ≡ fails x rest
    start_fault ts rest x e = rw e refl

    then_fault : (ts us rest : List Tok) (a : A) (x : Flaw) → start.read kept ts ≡ got a us → then_more a us ≡ fails x rest → C.read kept ts ≡ fails x rest
    then_fault ts us rest a x e f = rw e f

    series_begins : (t : Tok) (ts : List Tok) → C.read kept (t ∷ ts) ≡ short → Start C (t ∷ ts)
    series_begins t ts e = elim (bind_short (start.read kept (t ∷ ts)) then_more e) [
      | inl h ↦ carried start C (t ∷ ts) [] (t ∷ ts) refl start_opens (λ vs rest x f. start_fault ((t ∷ ts) ++ vs) rest x f) (able.keeps.begins t ts h)
      | inr b ↦ (let k = gs.takes kept (t ∷ ts) b.1 b.0 b.2 in
          let h = gs.fitting kept (t ∷ ts) b.1 b.0 b.2 in
          carried (From (b.0 ∷ [])) C (t ∷ ts) k.front b.1 k.parts (λ vs o. then_opens k.front vs b.0 h k.spelled o)
          (λ vs rest x f. then_fault ((t ∷ ts) ++ vs) (b.1 ++ vs) rest b.0 x (gs.got_more kept (t ∷ ts) vs b.1 b.0 b.2) f) (from_short (length b.1) (b.0 ∷ []) b.1 (omega arith) b.3))
    ]

    pub series_able : Able (series start goes shut p)
    series_able = record { keeps = record { begins = series_begins }; some = (able.some.0 ∷ [], (able.some.1, tt)) }

-- ---- lists with commas

past_kept : {A : Type 0} (begun : Lexeme → Flaw) (p : Rule A) → Kept (past begun p)
past_kept begun p = record { begins = λ t ts e. absurd cc }

past_dead : {A : Type 0} (begun : Lexeme → Flaw) (p : Rule A) → Dead (past begun p)
past_dead begun p = record { fault = λ t ts. (begun t.face, refl) }

-- after a comma stands an item, or no token can stand there
abbrev pub Next : {A : Type 0} → Rule A → Type 0
Next r = Kept r × (HasValue r ⊎ Dead r)

pub able_next : {A : Type 0} {r : Rule A} → Able r → Next r
able_next a = (a.keeps, inl a.some)

module _ {A : Type 0} {q : Rule A} (d : Dead q) where
  abbrev S : Rule A
  S = sign 3 ▸ q

  comma_fault : (t u : Tok) (rest : List Tok) (x : Flaw) → is_symbol 3 t.face ≡ true → q.read kept (u ∷ rest) ≡ fails x (u ∷ rest) → S.read kept (t ∷ u ∷ rest) ≡ fails x (u ∷ rest)
  comma_fault t u rest x h e = rw (h, e) refl

  no_comma : (t : Tok) (ts : List Tok) → is_symbol 3 t.face ≡ false → S.read kept (t ∷ ts) ≡ fails (wrong t.face) (t ∷ ts)
  no_comma t ts h = rw h refl

  at_comma : (t : Tok) (ts : List Tok) → is_symbol 3 t.face ≡ true → S.read kept (t ∷ ts) ≡ short → Alone S t ts
  at_comma t [] h e = record { is_comma = (symbol_mark 3).only t.face h; alone = refl; shut = λ u rest. let k = d.fault u rest in (k.0, comma_fault t u rest k.0 h k.1) }
  at_comma t (u ∷ ts) h e =
      let k = d.fault u ts in
      let j : fails k.0 (u ∷ ts) ≡ short = sym (comma_fault t u ts k.0 h k.1) ∙ e in
      absurd cc

  dead_steps : Steps (sign 3 ▸ q)
  dead_steps = record {
    begins = λ t ts e. elim (either_way (is_symbol 3 t.face)) [
      | inl h ↦ inr (at_comma t ts h e)
      | inr h ↦ (let j : fails (wrong t.face) (t ∷ ts) ≡ short = sym (no_comma t ts h) ∙ e in absurd cc)
    ];
  }

comma_steps : {A : Type 0} {q : Rule A} → Kept q → HasValue q ⊎ Dead q → Steps (sign 3 ▸ q)
comma_steps k (inl v) = kept_steps (after_sign_able 3 (record { keeps = k; some = v })).keeps
comma_steps k (inr d) = dead_steps d

next_steps : {A : Type 0} (begun : Lexeme → Flaw) (b : Bool) (p q : Rule A) → (b ≡ false → Next q) → Steps (sign 3 ▸ either_rule b (past begun p) q)
next_steps begun true p q h = comma_steps (past_kept begun p) (inr (past_dead begun p))
next_steps begun false p q h = let k = h refl in comma_steps k.0 k.1

pub commas_able : {A : Type 0} (limit : ℕ) {begun : Lexeme → Flaw} {p : List A → Rule A} → Listed begun p → Able (p []) → ((seen : List A) → length seen < limit → Next (p seen)) → Able (commas limit begun p)
commas_able limit {begun = begun} {p = p} h a next =
    series_able (comma_alike limit h) (λ seen e. next_steps begun (nat_le limit (length seen)) (p []) (p seen) (λ f. next seen (below_limit limit (length seen) f))) (h.good []) a
