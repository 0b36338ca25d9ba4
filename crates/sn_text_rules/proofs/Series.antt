-- Lists of items, each begun by its first token, keep the laws.
use Rattle.std.proofs.Common.{◌≡◌, ℕ, zero, suc, ◌≤◌, Bool, true, false, cond, List, [], ◌∷◌, ◌++◌, length, map, Option, Some, None, refl, sym, ap, subst, ◌∙◌, append_assoc, arith, inl, inr, ◌⊎◌, length-append}
use Rattle.std.proofs.lemmas.List.{append-nil, map_push}
use Rattle.sn_text_rules.specs.declared.Flaw.{Flaw}
use Rattle.sn_text_rules.specs.Tokens.{Lexeme, Tok, Mark, Spelled, faces, mark_faces, Read, got, fails, short, bind}
use Rattle.sn_text_rules.specs.Rules.{Limits, kept, aside, is_limit, Rule, Begins, no_more, closed, links_at, links, items_spelled, fit_from, many, series}
use Rattle.sn_text_rules.proofs.Common.{either_way, both_true, same_value, same_rest, fails_same, bind_got, bind_fails, bind_short, left, left_bind, respelled, remarked, spelled_append, split_spelled, split_faces, mark_faces_append, Heads, head_is, no_head, heads_append}
use Rattle.sn_text_rules.proofs.Laws.{Takes, Stands, Reaches, Relined, Good, within, loosened, stands_after, takes_as}

-- The rules of the items are alike, whatever stands before them, and each item begins with a token that passes goes.
pub record Alike {A : Type 0} (goes : Lexeme → Bool) (shut : List A → Option Flaw) (p : List A → Rule A) : Type 0 where
  pub good : (seen : List A) → Good (p seen)
  pub spells : (seen : List A) (a : A) → (p seen).spell a ≡ (p []).spell a
  pub follows : (seen : List A) (us : List Tok) → (p seen).follow us ≡ (p []).follow us
  pub marked : (t : Tok) (us : List Tok) → goes t.face ≡ true → (p []).follow (t ∷ us) ≡ true
  pub heads : (seen : List A) (a : A) → (p seen).fits aside a → Heads goes ((p []).spell a)
  -- each such token begins an item
  pub opens : (seen : List A) (t : Tok) → goes t.face ≡ true → (a : A) × (more : List Tok) × (p seen).fits aside a × Spelled (t ∷ more) ((p []).spell a)
  pub bares : (seen : List A) (a : A) → (p seen).bare a ≡ (p []).bare a
  -- the lines in the items before it don't matter
  pub steady : (seen other : List A) → map (p []).bare seen ≡ map (p []).bare other → (shut seen ≡ None → shut other ≡ None) × ((a : A) → (p seen).fits kept a → (p other).fits kept a)

pub some_or_none : (o : Option Flaw) → (o ≡ None) ⊎ ((x : Flaw) × (o ≡ Some x))
some_or_none None = inl refl
some_or_none (Some x) = inr (x, refl)

pub open_aside : (l : Limits) (o : Option Flaw) → closed l o ≡ None → closed aside o ≡ None
open_aside kept None e = refl
open_aside kept (Some x) e = absurd cc
open_aside aside o e = e

pub shut_aside : (o : Option Flaw) (x : Flaw) → o ≡ Some x → is_limit x ≡ false → closed aside o ≡ Some x
shut_aside None x e n = absurd cc
shut_aside (Some y) x e n = let h : y ≡ x = cc in rw (h, n) refl

pub limit_aside : (o : Option Flaw) (x : Flaw) → o ≡ Some x → is_limit x ≡ true → closed aside o ≡ None
limit_aside None x e n = refl
limit_aside (Some y) x e n = let h : y ≡ x = cc in rw (h, n) refl

some_front : (goes : Lexeme → Bool) (front : List Tok) (ms : List Mark) → Spelled front ms → Heads goes ms → 1 ≤ length front
some_front goes [] ms s h = absurd (no_head goes ms s h)
some_front goes (t ∷ front) ms s h = omega arith

module _ {A : Type 0} {goes : Lexeme → Bool} {shut : List A → Option Flaw} {p : List A → Rule A} (alike : Alike goes shut p) where
  abbrev L : Limits → ℕ → List A → List Tok → Read (List A)
  L l n seen ts = links_at goes shut p l n seen ts

  abbrev next : Limits → ℕ → List A → A → List Tok → Read (List A)
  next l n seen a us = L l n (seen ++ a ∷ []) us

  abbrev item : A → List Mark
  item = (p []).spell

  abbrev I : List A → List Mark
  I x = items_spelled item x

  abbrev bare : A → A
  bare = (p []).bare

  goes_on : (l : Limits) (n : ℕ) (seen : List A) (t : Tok) (ts : List Tok) → goes t.face ≡ true → closed l (shut seen) ≡ None → L l (suc n) seen (t ∷ ts) ≡ bind ((p seen).read l (t ∷ ts)) (next l n seen)
  goes_on l n seen t ts h k = rw (h, k) refl

  is_shut : (l : Limits) (n : ℕ) (seen : List A) (t : Tok) (ts : List Tok) (x : Flaw) → goes t.face ≡ true → closed l (shut seen) ≡ Some x → L l (suc n) seen (t ∷ ts) ≡ fails x (t ∷ ts)
  is_shut l n seen t ts x h k = rw (h, k) refl

  is_over : (l : Limits) (n : ℕ) (seen : List A) (t : Tok) (ts : List Tok) → goes t.face ≡ false → L l (suc n) seen (t ∷ ts) ≡ got seen (t ∷ ts)
  is_over l n seen t ts h = rw h refl

  item_heads : (l : Limits) (seen : List A) (a : A) → (p seen).fits l a → Heads goes (item a)
  item_heads l seen a f = alike.heads seen a (loosened (p seen) (alike.good seen) l a f)

  pub fewer : (l : Limits) (seen : List A) (ts us : List Tok) (a : A) → (p seen).read l ts ≡ got a us → suc (length us) ≤ length ts
  fewer l seen ts us a e =
      let k = (alike.good seen).takes l ts us a e in
      let h = some_front goes k.front (item a) (remarked k.front ((p seen).spell a) (item a) (alike.spells seen a) k.spelled) (item_heads l seen a ((alike.good seen).fitting l ts us a e)) in
      omega (arith, ap length k.parts, length-append k.front us)

  -- the number of steps doesn't matter where it is enough
  enough_read : (l : Limits) (n k : ℕ) (seen : List A) (r : Read A) → ((a : A) (us : List Tok) → r ≡ got a us → next l n seen a us ≡ next l k seen a us) → bind r (next l n seen) ≡ bind r (next l k seen)
  enough_read l n k seen (got a us) h = h a us refl
  enough_read l n k seen (fails x us) h = refl
  enough_read l n k seen short h = refl

  enough : (l : Limits) (n k : ℕ) (seen : List A) (ts : List Tok) → length ts ≤ n → length ts ≤ k → L l n seen ts ≡ L l k seen ts
  enough l n k seen [] g h = refl
  enough l zero k seen (t ∷ ts) g h = absurd (omega arith)
  enough l (suc n) zero seen (t ∷ ts) g h = absurd (omega arith)
  enough l (suc n) (suc k) seen (t ∷ ts) g h = elim (either_way (goes t.face)) [
    | inl e ↦ elim (some_or_none (closed l (shut seen))) [
      | inl f ↦ goes_on l n seen t ts e f ∙ enough_read l n k seen ((p seen).read l (t ∷ ts)) (λ a us r.
          let less = fewer l seen (t ∷ ts) us a r in enough l n k (seen ++ a ∷ []) us (omega arith) (omega arith)) ∙ sym (goes_on l k seen t ts e f)
      | inr f ↦ is_shut l n seen t ts f.0 e f.1 ∙ sym (is_shut l k seen t ts f.0 e f.1)
    ]
    | inr e ↦ is_over l n seen t ts e ∙ sym (is_over l k seen t ts e)
  ]

  got_more_at : (l : Limits) (n k : ℕ) (seen : List A) (ts more us : List Tok) (x : List A) → length ts ≤ n → length (ts ++ more) ≤ k → L l n seen ts ≡ got x us → L l k seen (ts ++ more) ≡ got x (us ++ more)
  got_more_at l n k seen [] more us x g h e = absurd cc
  got_more_at l zero k seen (t ∷ ts) more us x g h e = absurd (omega arith)
  got_more_at l (suc n) zero seen (t ∷ ts) more us x g h e = absurd (omega arith)
  got_more_at l (suc n) (suc k) seen (t ∷ ts) more us x g h e = elim (either_way (goes t.face)) [
    | inl d ↦ elim (some_or_none (closed l (shut seen))) [
      | inl f ↦ (let b = bind_got ((p seen).read l (t ∷ ts)) (next l n seen) x us (sym (goes_on l n seen t ts d f) ∙ e) in
          let less = fewer l seen (t ∷ ts) b.1 b.0 b.2 in
          goes_on l k seen t (ts ++ more) d f ∙ rw ((alike.good seen).got_more l (t ∷ ts) more b.1 b.0 b.2)
          (got_more_at l n k (seen ++ b.0 ∷ []) b.1 more us x (omega arith) (omega (arith, length-append ts more, length-append b.1 more)) b.3))
      | inr f ↦ (let j : fails f.0 (t ∷ ts) ≡ got x us = sym (is_shut l n seen t ts f.0 d f.1) ∙ e in absurd cc)
    ]
    | inr d ↦ is_over l k seen t (ts ++ more) d ∙ ap (λ (r : Read (List A)). bind r (λ y vs. got y (vs ++ more))) (sym (is_over l n seen t ts d) ∙ e)
  ]

  fails_more_at : (l : Limits) (n k : ℕ) (seen : List A) (ts more us : List Tok) (x : Flaw) → length ts ≤ n → length (ts ++ more) ≤ k → L l n seen ts ≡ fails x us → L l k seen (ts ++ more) ≡ fails x (us ++ more)
  fails_more_at l n k seen [] more us x g h e = absurd cc
  fails_more_at l zero k seen (t ∷ ts) more us x g h e = absurd (omega arith)
  fails_more_at l (suc n) zero seen (t ∷ ts) more us x g h e = absurd (omega arith)
  fails_more_at l (suc n) (suc k) seen (t ∷ ts) more us x g h e = elim (either_way (goes t.face)) [
    | inl d ↦ elim (some_or_none (closed l (shut seen))) [
      | inl f ↦ elim (bind_fails ((p seen).read l (t ∷ ts)) (next l n seen) x us (sym (goes_on l n seen t ts d f) ∙ e)) [
        | inl b ↦ goes_on l k seen t (ts ++ more) d f ∙ rw ((alike.good seen).fails_more l (t ∷ ts) more us x b) refl
        | inr b ↦ (let less = fewer l seen (t ∷ ts) b.1 b.0 b.2 in
            goes_on l k seen t (ts ++ more) d f ∙ rw ((alike.good seen).got_more l (t ∷ ts) more b.1 b.0 b.2)
            (fails_more_at l n k (seen ++ b.0 ∷ []) b.1 more us x (omega arith) (omega (arith, length-append ts more, length-append b.1 more)) b.3))
      ]
      | inr f ↦ is_shut l k seen t (ts ++ more) f.0 d f.1 ∙ (let s = fails_same {A = List A} f.0 x (t ∷ ts) us (sym (is_shut l n seen t ts f.0 d f.1) ∙ e) in rw (← s.0, ← s.1) refl)
    ]
    | inr d ↦ (let j : got seen (t ∷ ts) ≡ fails x us = sym (is_over l n seen t ts d) ∙ e in absurd cc)
  ]

  -- the items after those seen, and what they are spelled
  pub record Links (l : Limits) (seen : List A) (ts : List Tok) (x : List A) (us : List Tok) : Type 0 where
    pub new : List A
    pub all : x ≡ seen ++ new
    pub taken : Takes (items_spelled (p []).spell) ts new us
    pub fit : fit_from shut p l seen new

  takes_at : (l : Limits) (n : ℕ) (seen : List A) (ts us : List Tok) (x : List A) → length ts ≤ n → L l n seen ts ≡ got x us → Links l seen ts x us
  takes_at l n seen [] us x g e = absurd cc
  takes_at l zero seen (t ∷ ts) us x g e = absurd (omega arith)
  takes_at l (suc n) seen (t ∷ ts) us x g e = elim (either_way (goes t.face)) [
    | inl d ↦ elim (some_or_none (closed l (shut seen))) [
      | inl f ↦ (let b = bind_got ((p seen).read l (t ∷ ts)) (next l n seen) x us (sym (goes_on l n seen t ts d f) ∙ e) in
          let less = fewer l seen (t ∷ ts) b.1 b.0 b.2 in
          let h = takes_at l n (seen ++ b.0 ∷ []) b.1 us x (omega arith) b.3 in
          let k = (alike.good seen).takes l (t ∷ ts) b.1 b.0 b.2 in
          record {
            new = b.0 ∷ h.new;
            all = h.all ∙ append_assoc seen (b.0 ∷ []) h.new;
            taken = record {
              front = k.front ++ h.taken.front;
              parts = k.parts ∙ ap (λ (r : List Tok). k.front ++ r) h.taken.parts ∙ sym (append_assoc k.front h.taken.front us);
              spelled = spelled_append k.front h.taken.front (item b.0) (I h.new) (remarked k.front ((p seen).spell b.0) (item b.0) (alike.spells seen b.0) k.spelled) h.taken.spelled;
            };
            fit = (f, (alike.good seen).fitting l (t ∷ ts) b.1 b.0 b.2, h.fit);
          })
      | inr f ↦ (let j : fails f.0 (t ∷ ts) ≡ got x us = sym (is_shut l n seen t ts f.0 d f.1) ∙ e in absurd cc)
    ]
    | inr d ↦ (let k : got seen (t ∷ ts) ≡ got x us = sym (is_over l n seen t ts d) ∙ e in
        record {
          new = [];
          all = sym (same_value seen x (t ∷ ts) us k) ∙ sym (append-nil seen);
          taken = record { front = []; parts = same_rest seen x (t ∷ ts) us k; spelled = tt };
          fit = tt;
        })
  ]

  stands_at : (l : Limits) (n : ℕ) (seen : List A) (ts us : List Tok) (x : Flaw) → length ts ≤ n → L l n seen ts ≡ fails x us → Stands ts us
  stands_at l n seen [] us x g e = absurd cc
  stands_at l zero seen (t ∷ ts) us x g e = absurd (omega arith)
  stands_at l (suc n) seen (t ∷ ts) us x g e = elim (either_way (goes t.face)) [
    | inl d ↦ elim (some_or_none (closed l (shut seen))) [
      | inl f ↦ elim (bind_fails ((p seen).read l (t ∷ ts)) (next l n seen) x us (sym (goes_on l n seen t ts d f) ∙ e)) [
        | inl b ↦ (alike.good seen).stands l (t ∷ ts) us x b
        | inr b ↦ (let less = fewer l seen (t ∷ ts) b.1 b.0 b.2 in
            let k = (alike.good seen).takes l (t ∷ ts) b.1 b.0 b.2 in
            stands_after (t ∷ ts) k.front b.1 us k.parts (stands_at l n (seen ++ b.0 ∷ []) b.1 us x (omega arith) b.3))
      ]
      | inr f ↦ (let s = fails_same {A = List A} f.0 x (t ∷ ts) us (sym (is_shut l n seen t ts f.0 d f.1) ∙ e) in record { front = []; at = t; rest = ts; parts = s.1; head = sym s.1 })
    ]
    | inr d ↦ (let k : got seen (t ∷ ts) ≡ fails x us = sym (is_over l n seen t ts d) ∙ e in absurd cc)
  ]

  abbrev follow : List Tok → Bool
  follow us = cond (no_more goes us) ((p []).follow us) false

  over_at : (l : Limits) (n : ℕ) (seen : List A) (us : List Tok) → no_more goes us ≡ true → length us ≤ n → L l n seen us ≡ got seen us
  over_at l n seen [] h g = absurd cc
  over_at l zero seen (t ∷ us) h g = absurd (omega arith)
  over_at l (suc n) seen (t ∷ us) h g = elim (either_way (goes t.face)) [
    | inl d ↦ (let k : true ≡ false = sym h ∙ rw d refl in absurd cc)
    | inr d ↦ is_over l n seen t us d
  ]

  -- an item may be followed by further ones, or by what follows all
  item_ends : (l : Limits) (seen : List A) (front us : List Tok) (x : List A) → fit_from shut p l seen x → Spelled front (I x) → follow us ≡ true → (p []).follow (front ++ us) ≡ true
  item_ends l seen [] us x f s e = (both_true (no_more goes us) ((p []).follow us) e).1
  item_ends l seen (t ∷ ts) us [] f s e = absurd s
  item_ends l seen (t ∷ ts) us (a ∷ x) f s e = alike.marked t (ts ++ us) (head_is goes t ts (I (a ∷ x)) s (heads_append goes (item a) (I x) (item_heads l seen a f.1)))

  -- one turn
  turn : (l : Limits) (n : ℕ) (seen : List A) (f rest : List Tok) (a : A) (r : Read (List A)) → closed l (shut seen) ≡ None → (p seen).fits l a → Spelled f (item a) → (p seen).read l (f ++ rest) ≡ got a rest → L l n (seen ++ a ∷ []) rest ≡ r → L l (suc n) seen (f ++ rest) ≡ r
  turn l n seen [] rest a r o h s e k = absurd (no_head goes (item a) s (item_heads l seen a h))
  turn l n seen (t ∷ f) rest a r o h s e k = goes_on l n seen t (f ++ rest) (head_is goes t f (item a) s (item_heads l seen a h)) o ∙ rw e k

  again_at : (l : Limits) (n : ℕ) (seen : List A) (front us : List Tok) (x : List A) → fit_from shut p l seen x → Spelled front (I x) → follow us ≡ true → length (front ++ us) ≤ n → L l n seen (front ++ us) ≡ got (seen ++ x) us
  again_at l n seen [] us [] fit s e g = over_at l n seen us (both_true (no_more goes us) ((p []).follow us) e).0 g ∙ ap (λ (y : List A). got y us) (sym (append-nil seen))
  again_at l n seen (t ∷ ts) us [] fit s e g = absurd s
  again_at l zero seen front us (a ∷ x) fit s e g =
      let h = some_front goes front (I (a ∷ x)) s (heads_append goes (item a) (I x) (item_heads l seen a fit.1)) in
      absurd (omega (arith, length-append front us))
  again_at l (suc n) seen front us (a ∷ x) fit s e g =
      let k = split_spelled front (item a) (I x) s in
      let regrouped : front ++ us ≡ k.0 ++ (k.1 ++ us) = ap (λ (r : List Tok). r ++ us) k.2 ∙ append_assoc k.0 k.1 us in
      let some = some_front goes k.0 (item a) k.3 (item_heads l seen a fit.1) in
      let first : (p seen).read l (k.0 ++ (k.1 ++ us)) ≡ got a (k.1 ++ us) = (alike.good seen).again l k.0 (k.1 ++ us) a fit.1 (remarked k.0 (item a) ((p seen).spell a) (sym (alike.spells seen a)) k.3) (alike.follows seen (k.1 ++ us) ∙ item_ends l (seen ++ a ∷ []) k.1 us x fit.2 k.4 e) in
      let long : length (k.1 ++ us) ≤ n = omega (arith, ap length regrouped, length-append k.0 (k.1 ++ us)) in
      ap (L l (suc n) seen) regrouped
      ∙ turn l n seen k.0 (k.1 ++ us) a (got (seen ++ a ∷ x) us) fit.0 fit.1 k.3 first (again_at l n (seen ++ a ∷ []) k.1 us x fit.2 k.4 e long ∙ ap (λ (y : List A). got y us) (append_assoc seen (a ∷ []) x))

  pub record Further (seen : List A) (ts : List Tok) : Type 0 where
    pub new : List A
    pub more : List Tok
    pub fits : fit_from shut p aside seen new
    pub spelled : Spelled (ts ++ more) (items_spelled (p []).spell new)

  begins_at : (l : Limits) (n : ℕ) (seen : List A) (ts : List Tok) → length ts ≤ n → L l n seen ts ≡ short → Further seen ts
  begins_at l n seen [] g e = record { new = []; more = []; fits = tt; spelled = tt }
  begins_at l zero seen (t ∷ ts) g e = absurd (omega arith)
  begins_at l (suc n) seen (t ∷ ts) g e = elim (either_way (goes t.face)) [
    | inl d ↦ elim (some_or_none (closed l (shut seen))) [
      | inl f ↦ elim (bind_short ((p seen).read l (t ∷ ts)) (next l n seen) (sym (goes_on l n seen t ts d f) ∙ e)) [
        | inl b ↦ (let k = (alike.good seen).begins l (t ∷ ts) b in
            record {
              new = k.value ∷ [];
              more = k.more;
              fits = (open_aside l (shut seen) f, k.fits, tt);
              spelled = remarked (t ∷ (ts ++ k.more)) ((p seen).spell k.value) (item k.value ++ []) (alike.spells seen k.value ∙ sym (append-nil (item k.value))) k.spelled;
            })
        | inr b ↦ (let less = fewer l seen (t ∷ ts) b.1 b.0 b.2 in
            let k = (alike.good seen).takes l (t ∷ ts) b.1 b.0 b.2 in
            let h = begins_at l n (seen ++ b.0 ∷ []) b.1 (omega arith) b.3 in
            record {
              new = b.0 ∷ h.new;
              more = h.more;
              fits = (open_aside l (shut seen) f, loosened (p seen) (alike.good seen) l b.0 ((alike.good seen).fitting l (t ∷ ts) b.1 b.0 b.2), h.fits);
              spelled = respelled (k.front ++ (b.1 ++ h.more)) ((t ∷ ts) ++ h.more) (item b.0 ++ I h.new) (sym (append_assoc k.front b.1 h.more) ∙ ap (λ (r : List Tok). r ++ h.more) (sym k.parts))
                  (spelled_append k.front (b.1 ++ h.more) (item b.0) (I h.new) (remarked k.front ((p seen).spell b.0) (item b.0) (alike.spells seen b.0) k.spelled) h.spelled);
            })
      ]
      | inr f ↦ (let j : fails f.0 (t ∷ ts) ≡ short = sym (is_shut l n seen t ts f.0 d f.1) ∙ e in absurd cc)
    ]
    | inr d ↦ (let k : got seen (t ∷ ts) ≡ short = sym (is_over l n seen t ts d) ∙ e in absurd cc)
  ]

  within_at : (l : Limits) (n : ℕ) (seen : List A) (ts : List Tok) → left (L l n seen ts) ≤ length ts
  within_at l n seen [] = omega arith
  within_at l zero seen (t ∷ ts) = omega arith
  within_at l (suc n) seen (t ∷ ts) = elim (either_way (goes t.face)) [
    | inl d ↦ elim (some_or_none (closed l (shut seen))) [
      | inl f ↦ rw (goes_on l n seen t ts d f) (left_bind ((p seen).read l (t ∷ ts)) (next l n seen) (suc (length ts)) (within (p seen) (alike.good seen) l (t ∷ ts)) (λ a us _. within_at l n (seen ++ a ∷ []) us))
      | inr f ↦ rw (is_shut l n seen t ts f.0 d f.1) (omega arith)
    ]
    | inr d ↦ rw (is_over l n seen t ts d) (omega arith)
  ]

  later_at : (l : Limits) (n k : ℕ) (seen : List A) (ts more : List Tok) → length ts ≤ n → length (ts ++ more) ≤ k → L l n seen ts ≡ short → left (L l k seen (ts ++ more)) ≤ length more
  later_at l n k seen [] more g h e = within_at l k seen more
  later_at l zero k seen (t ∷ ts) more g h e = absurd (omega arith)
  later_at l (suc n) zero seen (t ∷ ts) more g h e = absurd (omega arith)
  later_at l (suc n) (suc k) seen (t ∷ ts) more g h e = elim (either_way (goes t.face)) [
    | inl d ↦ elim (some_or_none (closed l (shut seen))) [
      | inl f ↦ elim (bind_short ((p seen).read l (t ∷ ts)) (next l n seen) (sym (goes_on l n seen t ts d f) ∙ e)) [
        | inl b ↦ rw (goes_on l k seen t (ts ++ more) d f) (left_bind ((p seen).read l (t ∷ (ts ++ more))) (next l k seen) (length more) ((alike.good seen).later l (t ∷ ts) more b) (λ a us _. within_at l k (seen ++ a ∷ []) us))
        | inr b ↦ (let less = fewer l seen (t ∷ ts) b.1 b.0 b.2 in
            rw (goes_on l k seen t (ts ++ more) d f, (alike.good seen).got_more l (t ∷ ts) more b.1 b.0 b.2) (later_at l n k (seen ++ b.0 ∷ []) b.1 more (omega arith) (omega (arith, length-append ts more, length-append b.1 more)) b.3))
      ]
      | inr f ↦ (let j : fails f.0 (t ∷ ts) ≡ short = sym (is_shut l n seen t ts f.0 d f.1) ∙ e in absurd cc)
    ]
    | inr d ↦ (let k : got seen (t ∷ ts) ≡ short = sym (is_over l n seen t ts d) ∙ e in absurd cc)
  ]

  looser_from : (seen x : List A) → fit_from shut p kept seen x → fit_from shut p aside seen x
  looser_from seen [] h = tt
  looser_from seen (a ∷ x) h = (open_aside kept (shut seen) h.0, (alike.good seen).looser a h.1, looser_from (seen ++ a ∷ []) x h.2)

  gets_at : (n : ℕ) (seen : List A) (ts us : List Tok) (x : List A) → L kept n seen ts ≡ got x us → L aside n seen ts ≡ got x us
  gets_at n seen [] us x e = absurd cc
  gets_at zero seen (t ∷ ts) us x e = absurd cc
  gets_at (suc n) seen (t ∷ ts) us x e = elim (either_way (goes t.face)) [
    | inl d ↦ elim (some_or_none (closed kept (shut seen))) [
      | inl f ↦ (let b = bind_got ((p seen).read kept (t ∷ ts)) (next kept n seen) x us (sym (goes_on kept n seen t ts d f) ∙ e) in
          goes_on aside n seen t ts d (open_aside kept (shut seen) f) ∙ rw ((alike.good seen).gets (t ∷ ts) b.1 b.0 b.2) (gets_at n (seen ++ b.0 ∷ []) b.1 us x b.3))
      | inr f ↦ (let j : fails f.0 (t ∷ ts) ≡ got x us = sym (is_shut kept n seen t ts f.0 d f.1) ∙ e in absurd cc)
    ]
    | inr d ↦ is_over aside n seen t ts d ∙ sym (is_over kept n seen t ts d) ∙ e
  ]

  refuses_at : (n : ℕ) (seen : List A) (ts us : List Tok) (x : Flaw) → is_limit x ≡ false → L kept n seen ts ≡ fails x us → L aside n seen ts ≡ fails x us
  refuses_at n seen [] us x i e = absurd cc
  refuses_at zero seen (t ∷ ts) us x i e = absurd cc
  refuses_at (suc n) seen (t ∷ ts) us x i e = elim (either_way (goes t.face)) [
    | inl d ↦ elim (some_or_none (closed kept (shut seen))) [
      | inl f ↦ elim (bind_fails ((p seen).read kept (t ∷ ts)) (next kept n seen) x us (sym (goes_on kept n seen t ts d f) ∙ e)) [
        | inl b ↦ goes_on aside n seen t ts d (open_aside kept (shut seen) f) ∙ rw ((alike.good seen).refuses (t ∷ ts) us x i b) refl
        | inr b ↦ goes_on aside n seen t ts d (open_aside kept (shut seen) f) ∙ rw ((alike.good seen).gets (t ∷ ts) b.1 b.0 b.2) (refuses_at n (seen ++ b.0 ∷ []) b.1 us x i b.3)
      ]
      | inr f ↦ (let s = fails_same {A = List A} f.0 x (t ∷ ts) us (sym (is_shut kept n seen t ts f.0 d f.1) ∙ e) in
          is_shut aside n seen t ts f.0 d (shut_aside (shut seen) f.0 f.1 (ap is_limit s.0 ∙ i)) ∙ rw (← s.0, ← s.1) refl)
    ]
    | inr d ↦ is_over aside n seen t ts d ∙ sym (is_over kept n seen t ts d) ∙ e
  ]

  pub record Reached (seen : List A) (ts us : List Tok) : Type 0 where
    pub upto : List Tok
    pub at : Tok
    pub rest : List Tok
    pub head : us ≡ at ∷ rest
    pub parts : ts ≡ upto ++ rest
    pub new : List A
    pub more : List Tok
    pub fits : fit_from shut p aside seen new
    pub spelled : Spelled (upto ++ more) (items_spelled (p []).spell new)

  tells_at : (n : ℕ) (seen : List A) (ts us : List Tok) (x : Flaw) → is_limit x ≡ true → L kept n seen ts ≡ fails x us → Reached seen ts us
  tells_at n seen [] us x i e = absurd cc
  tells_at zero seen (t ∷ ts) us x i e = absurd cc
  tells_at (suc n) seen (t ∷ ts) us x i e = elim (either_way (goes t.face)) [
    | inl d ↦ elim (some_or_none (closed kept (shut seen))) [
      | inl f ↦ elim (bind_fails ((p seen).read kept (t ∷ ts)) (next kept n seen) x us (sym (goes_on kept n seen t ts d f) ∙ e)) [
        | inl b ↦ (let k = (alike.good seen).tells (t ∷ ts) us x i b in
            record {
              upto = k.upto;
              at = k.at;
              rest = k.rest;
              head = k.head;
              parts = k.parts;
              new = k.value ∷ [];
              more = k.more;
              fits = (open_aside kept (shut seen) f, k.fits, tt);
              spelled = remarked (k.upto ++ k.more) ((p seen).spell k.value) (item k.value ++ []) (alike.spells seen k.value ∙ sym (append-nil (item k.value))) k.spelled;
            })
        | inr b ↦ (let k = tells_at n (seen ++ b.0 ∷ []) b.1 us x i b.3 in
            let first = (alike.good seen).takes kept (t ∷ ts) b.1 b.0 b.2 in
            record {
              upto = first.front ++ k.upto;
              at = k.at;
              rest = k.rest;
              head = k.head;
              parts = first.parts ∙ ap (λ (r : List Tok). first.front ++ r) k.parts ∙ sym (append_assoc first.front k.upto k.rest);
              new = b.0 ∷ k.new;
              more = k.more;
              fits = (open_aside kept (shut seen) f, (alike.good seen).looser b.0 ((alike.good seen).fitting kept (t ∷ ts) b.1 b.0 b.2), k.fits);
              spelled = respelled (first.front ++ (k.upto ++ k.more)) ((first.front ++ k.upto) ++ k.more) (item b.0 ++ I k.new) (sym (append_assoc first.front k.upto k.more))
                  (spelled_append first.front (k.upto ++ k.more) (item b.0) (I k.new) (remarked first.front ((p seen).spell b.0) (item b.0) (alike.spells seen b.0) first.spelled) k.spelled);
            })
      ]
      | inr f ↦ (let s = fails_same {A = List A} f.0 x (t ∷ ts) us (sym (is_shut kept n seen t ts f.0 d f.1) ∙ e) in
          let o = alike.opens seen t d in
          record {
            upto = t ∷ [];
            at = t;
            rest = ts;
            head = sym s.1;
            parts = refl;
            new = o.0 ∷ [];
            more = o.1;
            fits = (limit_aside (shut seen) f.0 f.1 (ap is_limit s.0 ∙ i), o.2, tt);
            spelled = remarked (t ∷ o.1) (item o.0) (item o.0 ++ []) (sym (append-nil (item o.0))) o.3;
          })
    ]
    | inr d ↦ (let k : got seen (t ∷ ts) ≡ fails x us = sym (is_over kept n seen t ts d) ∙ e in absurd cc)
  ]

  pub record Relisted (other x : List A) (ts : List Tok) : Type 0 where
    pub new : List A
    pub spelled : Spelled ts (items_spelled (p []).spell new)
    pub fits : fit_from shut p kept other new
    pub same : map (p []).bare new ≡ map (p []).bare x

  pushed : (seen other : List A) (a b : A) → map bare seen ≡ map bare other → bare b ≡ bare a → map bare (seen ++ a ∷ []) ≡ map bare (other ++ b ∷ [])
  pushed seen other a b e f = map_push bare seen a ∙ ap (λ (r : List A). r ++ bare a ∷ []) e ∙ ap (λ (y : A). map bare other ++ y ∷ []) (sym f) ∙ sym (map_push bare other b)

  headed : (a b : A) (x y : List A) → a ≡ b → x ≡ y → a ∷ x ≡ b ∷ y
  headed a b x y e f = cc

  relines_at : (seen other x : List A) (ts : List Tok) → map bare seen ≡ map bare other → fit_from shut p kept seen x → faces ts ≡ mark_faces (I x) → Relisted other x ts
  relines_at seen other [] [] e f h = record { new = []; spelled = tt; fits = tt; same = refl }
  relines_at seen other [] (t ∷ ts) e f h = absurd cc
  relines_at seen other (a ∷ x) ts e f h =
      let s = split_faces ts (mark_faces (item a)) (mark_faces (I x)) (h ∙ mark_faces_append (item a) (I x)) in
      let k = (alike.good seen).relines a s.0 f.1 (s.3 ∙ ap mark_faces (sym (alike.spells seen a))) in
      let st = alike.steady seen other e in
      let same : bare k.value ≡ bare a = sym (alike.bares seen k.value) ∙ k.same ∙ alike.bares seen a in
      let r = relines_at (seen ++ a ∷ []) (other ++ k.value ∷ []) x s.1 (pushed seen other a k.value e same) f.2 s.4 in
      record {
        new = k.value ∷ r.new;
        spelled = respelled (s.0 ++ s.1) ts (item k.value ++ I r.new) (sym s.2) (spelled_append s.0 s.1 (item k.value) (I r.new) (remarked s.0 ((p seen).spell k.value) (item k.value) (alike.spells seen k.value) k.spelled) r.spelled);
        fits = (st.0 f.0, st.1 k.value k.fits, r.fits);
        same = headed (bare k.value) (bare a) (map bare r.new) (map bare x) same r.same;
      }

  -- ---- no items or more

  abbrev Many : Rule (List A)
  Many = many goes shut p

  pub many_good : Good (many goes shut p)
  unfolding links
  many_good = record {
    got_more = λ l ts more us x e. got_more_at l (length ts) (length (ts ++ more)) [] ts more us x (omega arith) (omega arith) e;
    fails_more = λ l ts more us x e. fails_more_at l (length ts) (length (ts ++ more)) [] ts more us x (omega arith) (omega arith) e;
    later = λ l ts more e. later_at l (length ts) (length (ts ++ more)) [] ts more (omega arith) (omega arith) e;
    takes = λ l ts us x e.
        let k = takes_at l (length ts) [] ts us x (omega arith) e in
        takes_as Many.spell ts k.new x us us (sym k.all) refl (record { front = k.taken.front; parts = k.taken.parts; spelled = k.taken.spelled });
    fitting = λ l ts us x e. let k = takes_at l (length ts) [] ts us x (omega arith) e in subst (fit_from shut p l []) (sym k.all) k.fit;
    stands = λ l ts us x e. stands_at l (length ts) [] ts us x (omega arith) e;
    again = λ l front us x f s e. again_at l (length (front ++ us)) [] front us x f s e (omega arith);
    begins = λ l ts e. let k = begins_at l (length ts) [] ts (omega arith) e in record { value = k.new; more = k.more; fits = k.fits; spelled = k.spelled };
    some = ([], tt);
    looser = λ x h. looser_from [] x h;
    gets = λ ts us x e. gets_at (length ts) [] ts us x e;
    refuses = λ ts us x n e. refuses_at (length ts) [] ts us x n e;
    tells = λ ts us x n e.
        let k = tells_at (length ts) [] ts us x n e in
        record { upto = k.upto; at = k.at; rest = k.rest; head = k.head; parts = k.parts; value = k.new; more = k.more; fits = k.fits; spelled = k.spelled };
    relines = λ x ts f e. let k = relines_at [] [] x ts refl f e in record { value = k.new; spelled = k.spelled; fits = k.fits; same = k.same };
  }

  -- ---- one turn of a loop over the items

  pub links_go : (l : Limits) (seen : List A) (t : Tok) (ts us : List Tok) (a : A) → goes t.face ≡ true → closed l (shut seen) ≡ None → (p seen).read l (t ∷ ts) ≡ got a us → links goes shut p l seen (t ∷ ts) ≡ links goes shut p l (seen ++ a ∷ []) us
  unfolding links
  links_go l seen t ts us a d f e =
      let less = fewer l seen (t ∷ ts) us a e in
      goes_on l (length ts) seen t ts d f ∙ rw e (enough l (length ts) (length us) (seen ++ a ∷ []) us (omega arith) (omega arith))

  pub links_fail : (l : Limits) (seen : List A) (t : Tok) (ts us : List Tok) (x : Flaw) → goes t.face ≡ true → closed l (shut seen) ≡ None → (p seen).read l (t ∷ ts) ≡ fails x us → links goes shut p l seen (t ∷ ts) ≡ fails x us
  unfolding links
  links_fail l seen t ts us x d f e = goes_on l (length ts) seen t ts d f ∙ rw e refl

  pub links_shut : (l : Limits) (seen : List A) (t : Tok) (ts : List Tok) (x : Flaw) → goes t.face ≡ true → closed l (shut seen) ≡ Some x → links goes shut p l seen (t ∷ ts) ≡ fails x (t ∷ ts)
  unfolding links
  links_shut l seen t ts x d f = is_shut l (length ts) seen t ts x d f

  pub links_over : (l : Limits) (seen : List A) (t : Tok) (ts : List Tok) → goes t.face ≡ false → links goes shut p l seen (t ∷ ts) ≡ got seen (t ∷ ts)
  unfolding links
  links_over l seen t ts d = is_over l (length ts) seen t ts d

-- ---- a first item and further ones

-- the first item, and what may stand after it
pub record Leads {A : Type 0} (first : Rule A) (goes : Lexeme → Bool) (p : List A → Rule A) : Type 0 where
  pub good : Good first
  pub marked : (t : Tok) (us : List Tok) → goes t.face ≡ true → first.follow (t ∷ us) ≡ true
  pub bares : (a : A) → first.bare a ≡ (p []).bare a

module _ {A : Type 0} {first : Rule A} {goes : Lexeme → Bool} {shut : List A → Option Flaw} {p : List A → Rule A} (alike : Alike goes shut p) (leads : Leads first goes p) where
  abbrev C : Rule (List A)
  C = series first goes shut p

  abbrev J : List A → List Mark
  J x = items_spelled (p []).spell x

  abbrev then_more : Limits → A → List Tok → Read (List A)
  then_more l a us = links goes shut p l (a ∷ []) us

  first_ends : (l : Limits) (a : A) (front us : List Tok) (x : List A) → fit_from shut p l (a ∷ []) x → Spelled front (J x) → C.follow us ≡ true → first.follow (front ++ us) ≡ true
  first_ends l a [] us x f s e = (both_true (first.follow us) ((p []).follow us) (both_true (no_more goes us) (cond (first.follow us) ((p []).follow us) false) e).1).0
  first_ends l a (t ∷ ts) us [] f s e = absurd s
  first_ends l a (t ∷ ts) us (b ∷ x) f s e = leads.marked t (ts ++ us) (head_is goes t ts (J (b ∷ x)) s (heads_append goes ((p []).spell b) (J x) (item_heads alike l (a ∷ []) b f.1)))

  both_follow : (us : List Tok) → C.follow us ≡ true → cond (no_more goes us) ((p []).follow us) false ≡ true
  both_follow us e =
      let k = both_true (no_more goes us) (cond (first.follow us) ((p []).follow us) false) e in
      rw k.0 (both_true (first.follow us) ((p []).follow us) k.1).1

  series_takes : (l : Limits) (ts us : List Tok) (x : List A) → bind (first.read l ts) (then_more l) ≡ got x us → Takes C.spell ts x us × C.fits l x
  unfolding links
  series_takes l ts us x e =
      let b = bind_got (first.read l ts) (then_more l) x us e in
      let k = leads.good.takes l ts b.1 b.0 b.2 in
      let h = takes_at alike l (length b.1) (b.0 ∷ []) b.1 us x (omega arith) b.3 in
      let made : List A = b.0 ∷ h.new in
      let whole : Takes C.spell ts made us = record {
        front = k.front ++ h.taken.front;
        parts = k.parts ∙ ap (λ (r : List Tok). k.front ++ r) h.taken.parts ∙ sym (append_assoc k.front h.taken.front us);
        spelled = spelled_append k.front h.taken.front (first.spell b.0) (J h.new) k.spelled h.taken.spelled;
      } in (
        takes_as C.spell ts made x us us (sym h.all) refl whole,
        subst (C.fits l) (sym h.all) (leads.good.fitting l ts b.1 b.0 b.2, h.fit),
      )

  series_begins : (l : Limits) (ts : List Tok) → bind (first.read l ts) (then_more l) ≡ short → Begins C ts
  unfolding links
  series_begins l ts e = elim (bind_short (first.read l ts) (then_more l) e) [
    | inl b ↦ (let k = leads.good.begins l ts b in
        record { value = k.value ∷ []; more = k.more; fits = (k.fits, tt); spelled = remarked (ts ++ k.more) (first.spell k.value) (first.spell k.value ++ []) (sym (append-nil (first.spell k.value))) k.spelled })
    | inr b ↦ (let k = leads.good.takes l ts b.1 b.0 b.2 in
        let h = begins_at alike l (length b.1) (b.0 ∷ []) b.1 (omega arith) b.3 in
        record {
          value = b.0 ∷ h.new;
          more = h.more;
          fits = (loosened first leads.good l b.0 (leads.good.fitting l ts b.1 b.0 b.2), h.fits);
          spelled = respelled (k.front ++ (b.1 ++ h.more)) (ts ++ h.more) (first.spell b.0 ++ J h.new) (sym (append_assoc k.front b.1 h.more) ∙ ap (λ (r : List Tok). r ++ h.more) (sym k.parts))
              (spelled_append k.front (b.1 ++ h.more) (first.spell b.0) (J h.new) k.spelled h.spelled);
        })
  ]

  series_again : (l : Limits) (front us : List Tok) (x : List A) → C.fits l x → Spelled front (C.spell x) → C.follow us ≡ true → bind (first.read l (front ++ us)) (then_more l) ≡ got x us
  unfolding links
  series_again l front us [] f s e = absurd f
  series_again l front us (a ∷ x) f s e =
      let k = split_spelled front (first.spell a) (J x) s in
      let regrouped : front ++ us ≡ k.0 ++ (k.1 ++ us) = ap (λ (r : List Tok). r ++ us) k.2 ∙ append_assoc k.0 k.1 us in
      let one : first.read l (k.0 ++ (k.1 ++ us)) ≡ got a (k.1 ++ us) = leads.good.again l k.0 (k.1 ++ us) a f.0 k.3 (first_ends l a k.1 us x f.1 k.4 e) in
      ap (λ (r : List Tok). bind (first.read l r) (then_more l)) regrouped ∙ rw one (again_at alike l (length (k.1 ++ us)) (a ∷ []) k.1 us x f.1 k.4 (both_follow us e) (omega arith))

  series_got_more : (l : Limits) (ts more us : List Tok) (x : List A) → bind (first.read l ts) (then_more l) ≡ got x us → bind (first.read l (ts ++ more)) (then_more l) ≡ got x (us ++ more)
  unfolding links
  series_got_more l ts more us x e =
      let b = bind_got (first.read l ts) (then_more l) x us e in
      rw (leads.good.got_more l ts more b.1 b.0 b.2) (got_more_at alike l (length b.1) (length (b.1 ++ more)) (b.0 ∷ []) b.1 more us x (omega arith) (omega arith) b.3)

  series_fails_more : (l : Limits) (ts more us : List Tok) (x : Flaw) → bind (first.read l ts) (then_more l) ≡ fails x us → bind (first.read l (ts ++ more)) (then_more l) ≡ fails x (us ++ more)
  unfolding links
  series_fails_more l ts more us x e = elim (bind_fails (first.read l ts) (then_more l) x us e) [
    | inl b ↦ rw (leads.good.fails_more l ts more us x b) refl
    | inr b ↦ rw (leads.good.got_more l ts more b.1 b.0 b.2) (fails_more_at alike l (length b.1) (length (b.1 ++ more)) (b.0 ∷ []) b.1 more us x (omega arith) (omega arith) b.3)
  ]

  series_later : (l : Limits) (ts more : List Tok) → bind (first.read l ts) (then_more l) ≡ short → left (bind (first.read l (ts ++ more)) (then_more l)) ≤ length more
  unfolding links
  series_later l ts more e = elim (bind_short (first.read l ts) (then_more l) e) [
    | inl b ↦ left_bind (first.read l (ts ++ more)) (then_more l) (length more) (leads.good.later l ts more b) (λ a us _. within_at alike l (length us) (a ∷ []) us)
    | inr b ↦ rw (leads.good.got_more l ts more b.1 b.0 b.2) (later_at alike l (length b.1) (length (b.1 ++ more)) (b.0 ∷ []) b.1 more (omega arith) (omega arith) b.3)
  ]

  series_stands : (l : Limits) (ts us : List Tok) (x : Flaw) → bind (first.read l ts) (then_more l) ≡ fails x us → Stands ts us
  unfolding links
  series_stands l ts us x e = elim (bind_fails (first.read l ts) (then_more l) x us e) [
    | inl b ↦ leads.good.stands l ts us x b
    | inr b ↦ (let k = leads.good.takes l ts b.1 b.0 b.2 in stands_after ts k.front b.1 us k.parts (stands_at alike l (length b.1) (b.0 ∷ []) b.1 us x (omega arith) b.3))
  ]

  series_looser : (x : List A) → C.fits kept x → C.fits aside x
  series_looser [] h = absurd h
  series_looser (a ∷ x) h = (leads.good.looser a h.0, looser_from alike (a ∷ []) x h.1)

  series_gets : (ts us : List Tok) (x : List A) → bind (first.read kept ts) (then_more kept) ≡ got x us → bind (first.read aside ts) (then_more aside) ≡ got x us
  unfolding links
  series_gets ts us x e =
      let b = bind_got (first.read kept ts) (then_more kept) x us e in
      rw (leads.good.gets ts b.1 b.0 b.2) (gets_at alike (length b.1) (b.0 ∷ []) b.1 us x b.3)

  series_refuses : (ts us : List Tok) (x : Flaw) → is_limit x ≡ false → bind (first.read kept ts) (then_more kept) ≡ fails x us → bind (first.read aside ts) (then_more aside) ≡ fails x us
  unfolding links
  series_refuses ts us x n e = elim (bind_fails (first.read kept ts) (then_more kept) x us e) [
    | inl b ↦ rw (leads.good.refuses ts us x n b) refl
    | inr b ↦ rw (leads.good.gets ts b.1 b.0 b.2) (refuses_at alike (length b.1) (b.0 ∷ []) b.1 us x n b.3)
  ]

  series_tells : (ts us : List Tok) (x : Flaw) → is_limit x ≡ true → bind (first.read kept ts) (then_more kept) ≡ fails x us → Reaches C ts us
  unfolding links
  series_tells ts us x n e = elim (bind_fails (first.read kept ts) (then_more kept) x us e) [
    | inl b ↦ (let k = leads.good.tells ts us x n b in
        record {
          upto = k.upto;
          at = k.at;
          rest = k.rest;
          head = k.head;
          parts = k.parts;
          value = k.value ∷ [];
          more = k.more;
          fits = (k.fits, tt);
          spelled = remarked (k.upto ++ k.more) (first.spell k.value) (first.spell k.value ++ []) (sym (append-nil (first.spell k.value))) k.spelled;
        })
    | inr b ↦ (let k = tells_at alike (length b.1) (b.0 ∷ []) b.1 us x n b.3 in
        let h = leads.good.takes kept ts b.1 b.0 b.2 in
        record {
          upto = h.front ++ k.upto;
          at = k.at;
          rest = k.rest;
          head = k.head;
          parts = h.parts ∙ ap (λ (r : List Tok). h.front ++ r) k.parts ∙ sym (append_assoc h.front k.upto k.rest);
          value = b.0 ∷ k.new;
          more = k.more;
          fits = (leads.good.looser b.0 (leads.good.fitting kept ts b.1 b.0 b.2), k.fits);
          spelled = respelled (h.front ++ (k.upto ++ k.more)) ((h.front ++ k.upto) ++ k.more) (first.spell b.0 ++ J k.new) (sym (append_assoc h.front k.upto k.more)) (spelled_append h.front (k.upto ++ k.more) (first.spell b.0) (J k.new) h.spelled k.spelled);
        })
  ]

  series_relines : (x : List A) (ts : List Tok) → C.fits kept x → faces ts ≡ mark_faces (C.spell x) → Relined C x ts
  series_relines [] ts f e = absurd f
  series_relines (a ∷ x) ts f e =
      let s = split_faces ts (mark_faces (first.spell a)) (mark_faces (J x)) (e ∙ mark_faces_append (first.spell a) (J x)) in
      let k = leads.good.relines a s.0 f.0 s.3 in
      let same : (p []).bare k.value ≡ (p []).bare a = sym (leads.bares k.value) ∙ k.same ∙ leads.bares a in
      let r = relines_at alike (a ∷ []) (k.value ∷ []) x s.1 (ap (λ (y : A). y ∷ []) (sym same)) f.1 s.4 in
      record {
        value = k.value ∷ r.new;
        spelled = respelled (s.0 ++ s.1) ts (first.spell k.value ++ J r.new) (sym s.2) (spelled_append s.0 s.1 (first.spell k.value) (J r.new) k.spelled r.spelled);
        fits = (k.fits, r.fits);
        same = headed alike ((p []).bare k.value) ((p []).bare a) (map (p []).bare r.new) (map (p []).bare x) same r.same;
      }

  pub series_good : Good (series first goes shut p)
  series_good = record {
    got_more = series_got_more;
    fails_more = series_fails_more;
    later = series_later;
    takes = λ l ts us x e. (series_takes l ts us x e).0;
    fitting = λ l ts us x e. (series_takes l ts us x e).1;
    stands = series_stands;
    again = series_again;
    begins = series_begins;
    some = (leads.good.some.0 ∷ [], (leads.good.some.1, tt));
    looser = series_looser;
    gets = series_gets;
    refuses = series_refuses;
    tells = series_tells;
    relines = series_relines;
  }
