-- One turn of a loop over the items of a list with commas.
use Rattle.std.proofs.Common.{◌≡◌, ℕ, ◌≤◌, suc, true, false, List, [], ◌∷◌, ◌++◌, length, refl, sym, ap, ◌∙◌, subst}
use Rattle.std.specs.Prelude.{nat_le}
use Rattle.sn_text_rules.specs.declared.Flaw.{Flaw}
use Rattle.sn_text_rules.specs.Tokens.{Lexeme, Tok, Read, got, fails}
use Rattle.sn_text_rules.specs.Rules.{Rule, kept, links, past_at}
use Rattle.sn_text_rules.specs.Words.{is_symbol, sign, ◌▸◌, never, next_item, after_comma}
use Rattle.sn_text_rules.proofs.Words.{Listed, comma_alike}
use Rattle.sn_text_rules.proofs.Series.{links_fail}
use Rattle.sn_text.specs.Lexing.{left}
use Rattle.sn_text.specs.declared.stop.Stop.{Stop}
use Rattle.sn_text.specs.declared.stop.Stop.TheVariants as stops
use Rattle.sn_text.specs.Reading.{Halts, Peeked}
use Rattle.sn_text.proofs.Tokens.{Next, symbol_gives, peeked}
use Rattle.sn_text.proofs.Loops.{over, turns, stops_at, shorter}

after_got : {A : Type 0} (q : Rule A) (ts us vs : List Tok) (a : A) → (sign 3).read kept ts ≡ got tt us → q.read kept us ≡ got a vs → (sign 3 ▸ q).read kept ts ≡ got a vs
after_got q ts us vs a e f = rw (e, f) refl

after_fails : {A : Type 0} (q : Rule A) (ts us vs : List Tok) (x : Flaw) → (sign 3).read kept ts ≡ got tt us → q.read kept us ≡ fails x vs → (sign 3 ▸ q).read kept ts ≡ fails x vs
after_fails q ts us vs x e f = rw (e, f) refl

after_halts : {A : Type 0} (q : Rule A) (ts us : List Tok) (e : Stop) → (sign 3).read kept ts ≡ got tt us → Halts e (q.read kept us) → Halts e ((sign 3 ▸ q).read kept ts)
after_halts q ts us stops.NoMemory c h = tt
after_halts q ts us (stops.Fault x l) c h = after_fails q ts us (left l) x c h

module _ {A : Type 0} (limit : ℕ) (begun : Lexeme → Flaw) (p : List A → Rule A) (h : Listed begun p) where
  abbrev B : List A → Rule A
  B seen = after_comma limit begun p seen

  abbrev S : List A → List Tok → Read (List A)
  S seen ts = links (is_symbol 3) never (after_comma limit begun p) kept seen ts

  comma : (ts us : List Tok) (t : Tok) → Next ts t us → is_symbol 3 t.face ≡ true → (sign 3).read kept ts ≡ got tt us
  comma ts us t n e = symbol_gives 3 ts us t n e

  open_item : (seen : List A) (us : List Tok) → nat_le limit (length seen) ≡ false → (next_item limit begun p seen).read kept us ≡ (p seen).read kept us
  open_item seen us f = rw f refl

  past_item : (seen : List A) (us ws : List Tok) (u : Tok) → nat_le limit (length seen) ≡ true → Next us u ws → (next_item limit begun p seen).read kept us ≡ fails (begun u.face) us
  past_item seen us ws u f n = rw f (ap (past_at begun) n ∙ ap (fails (begun u.face)) (sym n))

  pub comma_over : (seen : List A) (ts us : List Tok) (t : Tok) → Next ts t us → is_symbol 3 t.face ≡ false → S seen ts ≡ got seen ts
  comma_over seen ts us t n e = over (comma_alike limit h) seen ts (peeked (is_symbol 3) false ts us t n (sym e))

  item_read : (seen : List A) (ts us vs : List Tok) (t : Tok) (a : A) → Next ts t us → is_symbol 3 t.face ≡ true → nat_le limit (length seen) ≡ false → (p seen).read kept us ≡ got a vs → (B seen).read kept ts ≡ got a vs
  item_read seen ts us vs t a n e f r = after_got (next_item limit begun p seen) ts us vs a (comma ts us t n e) (open_item seen us f ∙ r)

  pub comma_turns : (seen : List A) (ts us vs : List Tok) (t : Tok) (a : A) → Next ts t us → is_symbol 3 t.face ≡ true → nat_le limit (length seen) ≡ false → (p seen).read kept us ≡ got a vs → S seen ts ≡ S (seen ++ a ∷ []) vs
  comma_turns seen ts us vs t a n e f r = turns (comma_alike limit h) seen ts vs a (peeked (is_symbol 3) true ts us t n (sym e)) refl (item_read seen ts us vs t a n e f r)

  pub comma_shorter : (seen : List A) (ts us vs : List Tok) (t : Tok) (a : A) → Next ts t us → is_symbol 3 t.face ≡ true → nat_le limit (length seen) ≡ false → (p seen).read kept us ≡ got a vs → suc (length vs) ≤ length ts
  comma_shorter seen ts us vs t a n e f r = shorter (comma_alike limit h) seen ts vs a (item_read seen ts us vs t a n e f r)

  pub comma_stops : (seen : List A) (ts us : List Tok) (t : Tok) (e : Stop) → Next ts t us → is_symbol 3 t.face ≡ true → nat_le limit (length seen) ≡ false → Halts e ((p seen).read kept us) → Halts e (S seen ts)
  comma_stops seen ts us t e n c f r = stops_at (comma_alike limit h) seen ts e (peeked (is_symbol 3) true ts us t n (sym c)) refl
      (after_halts (next_item limit begun p seen) ts us e (comma ts us t n c) (subst (Halts e) (sym (open_item seen us f)) r))

  pub comma_past : (seen : List A) (ts us ws : List Tok) (t u : Tok) (l : List Tok) → Next ts t us → is_symbol 3 t.face ≡ true → nat_le limit (length seen) ≡ true → Next us u ws → S seen ts ≡ fails (begun u.face) us
  comma_past seen ts us ws t u l n c f k = fails_here seen ts us (begun u.face) (peeked (is_symbol 3) true ts us t n (sym c)) (after_fails (next_item limit begun p seen) ts us us (begun u.face) (comma ts us t n c) (past_item seen us ws u f k))
    where
      fails_here : (seen : List A) (ts us : List Tok) (x : Flaw) → Peeked true (is_symbol 3) ts → (B seen).read kept ts ≡ fails x us → S seen ts ≡ fails x us
      fails_here seen [] us x q e = absurd q
      fails_here seen (t ∷ ts) us x q e = links_fail (comma_alike limit h) kept seen t ts us x (sym q) refl e
