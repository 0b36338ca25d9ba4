-- The tokens of a text from a byte on.
use Rattle.std.proofs.Common.{◌≡◌, ℕ, ◌+◌, ◌≤◌, ◌<◌, suc, Bool, true, false, cond, List, [], ◌∷◌, ◌++◌, length, take, Option, Some, None, refl, sym, ap, subst, ◌∙◌, arith, inl, inr, ◌⊎◌}
use Rattle.std.specs.Prelude.{nat_lt, not, ◌&&◌, ◌||◌, ◌==◌}
use Rattle.std.proofs.lemmas.Bool.Decides.{nat_tests}
use Rattle.sn_text_rules.specs.Tokens.{Lexeme, word, is_last, Tok}
use Rattle.sn_text_rules.proofs.Common.{either_way}
use Rattle.sn_text_rules.proofs.Bounded.{Ended}
use Rattle.sn_text.specs.Cutting.{is_digit, is_name_start, is_word_byte, run, number_lexeme, number_of, long_symbol, short_symbol, short_lexeme, long_lexeme, symbol_at, lexeme_at, Place, gap, following, when_gap, skip_from, skip, tok_at, after_at, tokens, tokens_of}
use Rattle.sn_text.proofs.Next.{tokens_next, run_one}
use Rattle.sn_text.proofs.Ends.{tokens_ended, head, rest}
use Rattle.sn_tree_text.specs.Places.{from_byte}
use Rattle.sn_base.proofs.Tests.{not_less, and_false_right, less}

-- ---- the steps of the code

abbrev at_or_on : Bool → ℕ → Tok → List Tok → List Tok
at_or_on b byte t ts = cond b (from_byte byte ts) (t ∷ ts)

pub stays_after : (byte : ℕ) (t : Tok) (ts us : List Tok) → us ≡ t ∷ ts → byte ≤ t.start → from_byte byte us ≡ us
stays_after byte t ts us e h = ap (from_byte byte) e ∙ rw (not_less t.start byte h) refl ∙ sym e

pub stays_last : (byte : ℕ) (t : Tok) (ts us : List Tok) → us ≡ t ∷ ts → is_last t.face ≡ true → from_byte byte us ≡ us
stays_last byte t ts us e h = ap (from_byte byte) e ∙ ap (λ (b : Bool). at_or_on b byte t ts) (and_false_right (nat_lt t.start byte) (not (is_last t.face)) (ap not h)) ∙ sym e

pub goes_on : (byte : ℕ) (t : Tok) (ts us : List Tok) → us ≡ t ∷ cond (is_last t.face) [] ts → t.start < byte → is_last t.face ≡ false → from_byte byte us ≡ from_byte byte ts
goes_on byte t ts us e h l = ap (from_byte byte) e ∙ rw (less t.start byte h, l) refl

pub fewer : (t : Tok) (ts us : List Tok) → us ≡ t ∷ cond (is_last t.face) [] ts → is_last t.face ≡ false → length ts < length us
fewer t ts us e l = let k : us ≡ t ∷ ts = e ∙ rw l refl in let n = ap length k in omega arith

-- ---- the end

ended_if : (b : Bool) (byte : ℕ) (t : Tok) (ts : List Tok) → Ended (from_byte byte ts) ⊎ (b ≡ false) → Ended (t ∷ ts) → Ended (at_or_on b byte t ts)
ended_if true byte t ts (inl h) e = h
ended_if true byte t ts (inr h) e = absurd cc
ended_if false byte t ts h e = e

pub ended_from : (byte : ℕ) (ts : List Tok) → Ended ts → Ended (from_byte byte ts)
ended_from byte [] e = e
ended_from byte (t ∷ ts) (inl e) = ended_if (nat_lt t.start byte && not (is_last t.face)) byte t ts (inr (and_false_right (nat_lt t.start byte) (not (is_last t.face)) (ap not e.0))) (inl e)
ended_from byte (t ∷ ts) (inr e) = ended_if (nat_lt t.start byte && not (is_last t.face)) byte t ts (inl (ended_from byte ts e.1)) (inr e)

-- ---- tokens begin one after the other

Rises : ℕ → List Tok → Type 0
Rises low [] = Unit {0}
Rises low (t ∷ ts) = (low ≤ t.start) × Rises (t.start + 1) ts

-- what is no last token has a byte
abbrev Counts : Lexeme × ℕ → Type 0
Counts x = is_last x.0 ≡ false → 1 ≤ x.1

short_counts : (o : Option ℕ) → Counts (short_lexeme o)
short_counts None e = absurd cc
short_counts (Some k) e = omega arith

long_counts : (o : Option ℕ) (b : ℕ) → Counts (long_lexeme o b)
long_counts None b = short_counts (short_symbol b)
long_counts (Some k) b = λ e. omega arith

symbol_counts : (b : ℕ) (bs : List ℕ) → Counts (symbol_at (b ∷ bs))
symbol_counts b [] = short_counts (short_symbol b)
symbol_counts b (c ∷ bs) = long_counts (long_symbol b c) b

if_counts : (d e : Bool) (x y z : Lexeme × ℕ) → (d ≡ true → Counts x) → (e ≡ true → Counts y) → Counts z → Counts (cond d x (cond e y z))
if_counts true e x y z f g h = f refl
if_counts false true x y z f g h = g refl
if_counts false false x y z f g h = h

digit_counts : (b : ℕ) → is_digit b ≡ true → is_word_byte b ≡ true
digit_counts b e = made (is_name_start b) (is_digit b) (b == 46) e
  where
    made : (x y z : Bool) → y ≡ true → ((x || y) || z) ≡ true
    made true y z e = refl
    made false true z e = refl
    made false false z e = absurd cc

name_counts : (b : ℕ) → is_name_start b ≡ true → is_word_byte b ≡ true
name_counts b e = made (is_name_start b) (is_digit b) (b == 46) e
  where
    made : (x y z : Bool) → x ≡ true → ((x || y) || z) ≡ true
    made true y z e = refl
    made false y z e = absurd cc

lexeme_counts : (r : List ℕ) → Counts (lexeme_at r)
unfolding lexeme_at
lexeme_counts [] = λ e. absurd cc
lexeme_counts (b ∷ bs) =
    let n : ℕ = run is_word_byte (b ∷ bs) in
    let w : List ℕ = take n (b ∷ bs) in
    if_counts (is_digit b) (is_name_start b) (number_lexeme (number_of w), n) (word w, n) (symbol_at (b ∷ bs))
    (λ d e. run_one b bs (digit_counts b d)) (λ d e. run_one b bs (name_counts b d)) (symbol_counts b bs)

gap_later : (o : Option Bool) (b : ℕ) (bs : List ℕ) (p : Place) → ((on : Bool) → p.start + 1 ≤ (skip_from bs on (following b p bs)).start) → p.start ≤ (when_gap o p (λ on. skip_from bs on (following b p bs))).start
gap_later None b bs p h = omega arith
gap_later (Some on) b bs p h = let k = h on in omega arith

skip_later : (bs : List ℕ) (inside : Bool) (p : Place) → p.start ≤ (skip_from bs inside p).start
skip_later [] inside p = omega arith
skip_later (b ∷ bs) inside p = gap_later (gap inside b) b bs p (λ on. skip_later bs on (following b p bs))

rises_at : (ts : List Tok) (p : Place) (low : ℕ) → tokens p ≡ ts → low ≤ p.start → Rises low ts
unfolding Rises
rises_at [] p low e h = tt
rises_at (t ∷ ts) p low e h =
    let q = skip p in
    let later = skip_later p.rest false p in
    elim (either_way (is_last (tok_at q).face)) [
      | inl l ↦ (let k : tok_at q ∷ [] ≡ t ∷ ts = sym (tokens_next p ∙ rw l refl) ∙ e in
          let starts = ap (λ (x : Tok). x.start) (head (tok_at q) t [] ts k) in
          (omega arith, subst (λ (us : List Tok). Rises (t.start + 1) us) (rest (tok_at q) t [] ts k) tt))
      | inr l ↦ (let k : tok_at q ∷ tokens (after_at q) ≡ t ∷ ts = sym (tokens_next p ∙ rw l refl) ∙ e in
          let starts = ap (λ (x : Tok). x.start) (head (tok_at q) t (tokens (after_at q)) ts k) in
          let some = lexeme_counts q.rest l in
          (omega arith, rises_at ts (after_at q) (t.start + 1) (rest (tok_at q) t (tokens (after_at q)) ts k) (omega arith)))
    ]

lowest : (front : List Tok) (at : Tok) (us : List Tok) (low : ℕ) → Rises low (front ++ at ∷ us) → low ≤ at.start
unfolding Rises
lowest [] at us low h = h.0
lowest (t ∷ front) at us low h = let k = lowest front at us (t.start + 1) h.1 in let j = h.0 in omega arith

no_end : (front : List Tok) (at : Tok) (us : List Tok) → front ++ at ∷ us ≡ [] → ⊥
no_end [] at us e = cc
no_end (t ∷ front) at us e = cc

from_there : (front : List Tok) (at : Tok) (us : List Tok) (low : ℕ) → Rises low (front ++ at ∷ us) → Ended (front ++ at ∷ us) → from_byte at.start (front ++ at ∷ us) ≡ at ∷ us
unfolding Rises
from_there [] at us low r e = stays_after at.start at us (at ∷ us) refl (omega arith)
from_there (t ∷ front) at us low r (inl e) = absurd (no_end front at us e.1)
from_there (t ∷ front) at us low r (inr e) =
    let before = lowest front at us (t.start + 1) r.1 in
    rw (less t.start at.start (omega arith), e.0) (from_there front at us (t.start + 1) r.1 e.1)

pub from_start : (text : List ℕ) (front : List Tok) (at : Tok) (us : List Tok) → tokens_of text ≡ front ++ at ∷ us → from_byte at.start (tokens_of text) ≡ at ∷ us
from_start text front at us e =
    ap (from_byte at.start) e
    ∙ from_there front at us 0 (subst (Rises 0) e (rises_at (tokens_of text) (record { rest = text; start = 0; line = 1; column = 1 }) 0 refl (omega arith))) (subst Ended e (tokens_ended text))
