-- Helps for lists: what is past a limit, items that are alike, and what may stand after a list.
use Rattle.std.proofs.Common.{◌≡◌, ℕ, Bool, true, false, cond, List, [], ◌∷◌, ◌++◌, length, map, Option, Some, None, refl, sym, ap, subst, ◌∙◌}
use Rattle.std.specs.Prelude.{nat_le}
use Rattle.std.proofs.lemmas.List.{length-map}
use Rattle.sn_text_rules.specs.declared.Flaw.{Flaw}
use Rattle.sn_text_rules.specs.Tokens.{Lexeme, Tok, Spelled}
use Rattle.sn_text_rules.specs.Rules.{aside, Rule, pair, embedded, spelled_as, holds_of, past, either_rule}
use Rattle.sn_text_rules.specs.Words.{is_symbol, full, after_comma, commas}
use Rattle.sn_text_rules.proofs.Common.{Heads, bearers, bearers_spelled, spelled_append}
use Rattle.sn_text_rules.proofs.Laws.{Good}
use Rattle.sn_text_rules.proofs.Choices.{Past, Undoes}
use Rattle.sn_text_rules.proofs.Series.{Alike}

-- ---- past a limit

pub pair_past : {A B : Type 0} (wrong : Lexeme → Flaw) {p : Rule A} {q : Rule B} → Good q → Past wrong p → Past wrong (pair p q)
pair_past wrong {p = p} {q = q} gq w = record {
  no_item = λ t ts n. rw (w.no_item t ts n) refl;
  item = λ t n.
      let k = w.item t n in
      let b = gq.some in
      ((k.0, b.0), k.1 ++ bearers (q.spell b.0), (k.2, b.1), spelled_append (t ∷ k.1) (bearers (q.spell b.0)) (p.spell k.0) (q.spell b.0) k.3 (bearers_spelled (q.spell b.0)));
}

pub embedded_past : {A B : Type 0} (wrong : Lexeme → Flaw) (to : A → B) (from : B → Option A) {p : Rule A} → Undoes to from p → Past wrong p → Past wrong (embedded to from p)
embedded_past wrong to from {p = p} u w = record {
  no_item = λ t ts n. rw (w.no_item t ts n) refl;
  item = λ t n.
      let k = w.item t n in
      (to k.0, k.1, subst (λ o. holds_of (p.fits aside) o) (sym (u.back k.0 k.2)) k.2, subst (λ o. Spelled (t ∷ k.1) (spelled_as p.spell o)) (sym (u.back k.0 k.2)) k.3);
}

-- ---- items that are alike

pub same_length : {A : Type 0} (f : A → A) (seen other : List A) → map f seen ≡ map f other → length seen ≡ length other
same_length f seen other e = sym (length-map seen f) ∙ ap length e ∙ length-map other f

pub full_steady : {A : Type 0} (limit : ℕ) (x : Flaw) (f : A → A) (seen other : List A) → map f seen ≡ map f other → full limit x seen ≡ None → full limit x other ≡ None
full_steady limit x f seen other e h = ap (λ (n : ℕ). cond (nat_le limit n) (Some x) None) (sym (same_length f seen other e)) ∙ h

-- what doesn't change with the lines is the same of lists that are the same up to lines
pub keyed : {A K : Type 0} (key : A → K) (f : A → A) → ((a : A) → key (f a) ≡ key a) → (seen other : List A) → map f seen ≡ map f other → map key seen ≡ map key other
keyed key f h [] [] e = refl
keyed key f h [] (b ∷ other) e = absurd cc
keyed key f h (a ∷ seen) [] e = absurd cc
keyed key f h (a ∷ seen) (b ∷ other) e =
    let head : f a ≡ f b = cc in
    let tail : map f seen ≡ map f other = cc in
    joined (key a) (key b) (map key seen) (map key other) (sym (h a) ∙ ap key head ∙ h b) (keyed key f h seen other tail)
  where
    joined : {K : Type 0} (k m : K) (ks ms : List K) → k ≡ m → ks ≡ ms → k ∷ ks ≡ m ∷ ms
    joined k m ks ms e f = cc

pub itself : {A : Type 0} → A → A
itself a = a

pub unmapped : {A : Type 0} (f : A → A) → ((a : A) → f a ≡ a) → (xs ys : List A) → map f xs ≡ map f ys → xs ≡ ys
unmapped f h [] [] e = refl
unmapped f h [] (b ∷ ys) e = absurd cc
unmapped f h (a ∷ xs) [] e = absurd cc
unmapped f h (a ∷ xs) (b ∷ ys) e =
    let head : f a ≡ f b = cc in
    let tail : map f xs ≡ map f ys = cc in
    let k : a ≡ b = sym (h a) ∙ head ∙ h b in
    let m : xs ≡ ys = unmapped f h xs ys tail in
    cc

-- the same rule for each item, up to a limit
pub always_alike : {A : Type 0} (goes : Lexeme → Bool) (limit : ℕ) (x : Flaw) {p : Rule A} → Good p → ((t : Tok) (us : List Tok) → goes t.face ≡ true → p.follow (t ∷ us) ≡ true) → ((a : A) → p.fits aside a → Heads goes (p.spell a))
    → ((t : Tok) → goes t.face ≡ true → (a : A) × (more : List Tok) × p.fits aside a × Spelled (t ∷ more) (p.spell a)) → Alike goes (full limit x) (λ (seen : List A). p)
always_alike goes limit x {p = p} g marked heads opens = record {
  good = λ seen. g;
  spells = λ seen a. refl;
  follows = λ seen us. refl;
  marked = marked;
  heads = λ seen a f. heads a f;
  opens = λ seen t e. opens t e;
  bares = λ seen a. refl;
  steady = λ seen other e. (λ h. full_steady limit x p.bare seen other e h, λ a f. f);
}

-- ---- what may stand after a list with commas

pub open_follow : (c a b : Bool) → c ≡ true → a ≡ true → b ≡ true → cond c (cond a b false) false ≡ true
open_follow c a b e f g = rw (e, f, g) refl

branch_follow : {A : Type 0} (b : Bool) (begun : Lexeme → Flaw) (p : Rule A) (us : List Tok) → p.follow us ≡ true → (either_rule b (past begun p) p).follow us ≡ true
branch_follow true begun p us e = e
branch_follow false begun p us e = e

pub commas_sign : {A : Type 0} (limit : ℕ) (begun : Lexeme → Flaw) (p : List A → Rule A) (t : Tok) (us : List Tok) → is_symbol 3 t.face ≡ false → (p []).follow (t ∷ us) ≡ true → (commas limit begun p).follow (t ∷ us) ≡ true
commas_sign limit begun p t us e f = rw e (open_follow true ((p []).follow (t ∷ us)) ((after_comma limit begun p []).follow (t ∷ us)) refl f (branch_follow (nat_le limit 0) begun (p []) (t ∷ us) f))
