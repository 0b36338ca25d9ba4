-- Each token of a text stands where its numbers say.
use Rattle.std.proofs.Common.{◌≡◌, ℕ, zero, suc, ◌+◌, ◌≤◌, List, [], ◌∷◌, ◌++◌, filter, take, drop, length, nat_eq, ◌==◌, Bool, true, false, ◌||◌, ◌&&◌, cond, Option, None, Some, inl, inr, refl, ap, sym, ◌∙◌, subst, arith}
use Rattle.std.specs.List.{AllByRecursion, list_any}
use Rattle.std.proofs.lemmas.Bool.Decides.{nat_tests}
use Rattle.std.proofs.lemmas.List.{append-nil, append_assoc, length-append, length-take-le, take-append-drop}
use Rattle.std.proofs.lemmas.List.Elements.{filter-append}
use Rattle.std.proofs.lemmas.List.Folds.{list_any-append}
use Rattle.sn_base.proofs.Lists.{by_test, filter_none, nat_same}
use Rattle.sn_text_rules.specs.Tokens.{Lexeme, bad, finish, is_last, number, symbol, word}
use Rattle.sn_text.specs.Cutting.{Place, after_at, following, gap, is_digit, is_name_start, is_word_byte, lexeme_at, long_lexeme, long_symbol, number_lexeme, number_of, run, short_lexeme, short_symbol, skip, skip_from, symbol_at, tok_at, tokens, tokens_at, tokens_of, when_gap}
use Rattle.sn_text.specs.Stands.{IsEnded, StandsIn}
use Rattle.sn_base.proofs.Tests.{and_never}
use Rattle.sn_text.proofs.Ends.{run_within}

-- ---- the rest of a text, and what is above and ahead of it

record Rests (text : List ℕ) (p : Place) : Type 0 where
  pub above : List ℕ
  pub ahead : List ℕ
  pub parts : text ≡ (above ++ ahead) ++ p.rest
  pub ended : IsEnded above
  pub one_line : list_any (nat_eq 10) ahead ≡ false
  pub line : p.line ≡ 1 + length (filter (nat_eq 10) above)
  pub column : p.column ≡ 1 + length ahead
  pub start : p.start ≡ length (above ++ ahead)

-- bytes of one line go ahead
ahead_of : (text : List ℕ) (p : Place) (own rest : List ℕ) → Rests text p → p.rest ≡ own ++ rest → list_any (nat_eq 10) own ≡ false
    → Rests text (record { rest = rest; start = p.start + length own; line = p.line; column = p.column + length own })
ahead_of text p own rest h same one =
    let longer = length-append h.above h.ahead in
    let whole = length-append h.above (h.ahead ++ own) in
    let more = length-append h.ahead own in
    let start = h.start in
    let column = h.column in
    record {
      above = h.above;
      ahead = h.ahead ++ own;
      parts = h.parts ∙ ap (λ (r : List ℕ). (h.above ++ h.ahead) ++ r) same ∙ sym (append_assoc (h.above ++ h.ahead) own rest) ∙ ap (λ (r : List ℕ). r ++ rest) (append_assoc h.above h.ahead own);
      ended = h.ended;
      one_line = list_any-append (nat_eq 10) h.ahead own ∙ ap (λ b. b || list_any (nat_eq 10) own) h.one_line ∙ one;
      line = h.line;
      column = omega (arith, column, more);
      start = omega (arith, start, longer, whole, more);
    }

-- a line feed ends the line
next_line : (text : List ℕ) (p : Place) (rest : List ℕ) → Rests text p → p.rest ≡ 10 ∷ rest → Rests text (record { rest = rest; start = p.start + 1; line = p.line + 1; column = 1 })
next_line text p rest h same =
    let full : List ℕ = (h.above ++ h.ahead) ++ 10 ∷ [] in
    let counted : filter (nat_eq 10) full ≡ filter (nat_eq 10) h.above ++ 10 ∷ [] =
    filter-append (nat_eq 10) (h.above ++ h.ahead) (10 ∷ [])
    ∙ ap (λ (xs : List ℕ). xs ++ 10 ∷ []) (filter-append (nat_eq 10) h.above h.ahead ∙ ap (λ (xs : List ℕ). filter (nat_eq 10) h.above ++ xs) (filter_none (nat_eq 10) h.ahead h.one_line) ∙ append-nil (filter (nat_eq 10) h.above)) in
    let lines = ap length counted ∙ length-append (filter (nat_eq 10) h.above) (10 ∷ []) in
    let longer = length-append (h.above ++ h.ahead) (10 ∷ []) in
    let whole = ap length (append-nil full) in
    let line = h.line in
    let start = h.start in
    record {
      above = full;
      ahead = [];
      parts = h.parts ∙ ap (λ (r : List ℕ). (h.above ++ h.ahead) ++ r) same ∙ sym (append_assoc (h.above ++ h.ahead) (10 ∷ []) rest) ∙ ap (λ (r : List ℕ). r ++ rest) (sym (append-nil full));
      ended = inr (h.above ++ h.ahead, refl);
      one_line = refl;
      line = omega (arith, line, lines);
      column = refl;
      start = omega (arith, start, longer, whole);
    }

-- ---- between tokens

following_rests : (text : List ℕ) (b : ℕ) (p : Place) (bs : List ℕ) → Rests text p → p.rest ≡ b ∷ bs → Rests text (following b p bs)
following_rests text b p bs h same =
    by_test (b == 10)
    (λ is. subst (λ (t : Bool). Rests text (record { rest = bs; start = p.start + 1; line = cond t (p.line + 1) p.line; column = cond t 1 (p.column + 1) })) (sym is)
    (next_line text p bs h (same ∙ ap (λ (x : ℕ). x ∷ bs) (nat_same b 10 is))))
    (λ isnt. subst (λ (t : Bool). Rests text (record { rest = bs; start = p.start + 1; line = cond t (p.line + 1) p.line; column = cond t 1 (p.column + 1) })) (sym isnt)
    (ahead_of text p (b ∷ []) bs h same (other_byte b isnt)))
  where
    other_byte : (b : ℕ) → (b == 10) ≡ false → list_any (nat_eq 10) (b ∷ []) ≡ false
    other_byte b isnt = grind (arith, nat_tests)

when_rests : (text : List ℕ) (o : Option Bool) (p : Place) (f : Bool → Place) → Rests text p → ((on : Bool) → Rests text (f on)) → Rests text (when_gap o p f)
when_rests text None p f h k = h
when_rests text (Some on) p f h k = k on

skip_rests : (text : List ℕ) (bs : List ℕ) (inside : Bool) (p : Place) → Rests text p → p.rest ≡ bs → Rests text (skip_from bs inside p)
skip_rests text [] inside p h same = h
skip_rests text (b ∷ bs) inside p h same = when_rests text (gap inside b) p (λ on. skip_from bs on (following b p bs)) h (λ on. skip_rests text bs on (following b p bs) (following_rests text b p bs h same) refl)

-- ---- a token's bytes have no line feed

word_bytes : (bs : List ℕ) → list_any (nat_eq 10) (take (run is_word_byte bs) bs) ≡ false
word_bytes [] = refl
word_bytes (b ∷ bs) =
    by_test (is_word_byte b)
    (λ is. ap (λ (t : Bool). list_any (nat_eq 10) (take (cond t (suc (run is_word_byte bs)) 0) (b ∷ bs))) is ∙ ap (λ (t : Bool). t || list_any (nat_eq 10) (take (run is_word_byte bs) bs)) (no_feed b is) ∙ word_bytes bs)
    (λ isnt. ap (λ (t : Bool). list_any (nat_eq 10) (take (cond t (suc (run is_word_byte bs)) 0) (b ∷ bs))) isnt)
  where
    no_feed : (b : ℕ) → is_word_byte b ≡ true → nat_eq 10 b ≡ false
    no_feed b is = by_test (nat_eq 10 b) (λ same. let ten = nat_same 10 b same in let no = ap is_word_byte ten ∙ is in cc) (λ other. other)

-- which of its bytes a token takes, and what it is where it is a word
record Takes (bytes : List ℕ) (found : Lexeme × ℕ) : Type 0 where
  pub one_line : list_any (nat_eq 10) (take found.1 bytes) ≡ false
  pub within : found.1 ≤ length bytes
  pub own_word : (w : List ℕ) → found.0 ≡ word w → take found.1 bytes ≡ w

none_takes : (bytes : List ℕ) (x : Lexeme) → ((w : List ℕ) → x ≡ word w → ⊥) → Takes bytes (x, 0)
none_takes bytes x no_word = record { one_line = refl; within = omega arith; own_word = λ w e. absurd (no_word w e) }

no_short : (b k : ℕ) → short_symbol b ≡ Some k → nat_eq 10 b ≡ false
no_short b k e = by_test (nat_eq 10 b) (λ same. let none = ap short_symbol (nat_same 10 b same) ∙ e in cc) (λ other. other)

short_takes_by : (b k : ℕ) (bs : List ℕ) (o : Option ℕ) → short_symbol b ≡ o → Takes (b ∷ bs) (short_lexeme o)
short_takes_by b k bs None e = none_takes (b ∷ bs) bad (λ w e. cc)
short_takes_by b k bs (Some n) e = record { one_line = ap (λ (t : Bool). t || false) (no_short b n e); within = omega arith; own_word = λ w e. cc }

short_takes : (b : ℕ) (bs : List ℕ) → Takes (b ∷ bs) (short_lexeme (short_symbol b))
short_takes b bs = short_takes_by b 0 bs (short_symbol b) refl

-- no symbol of two bytes has a line feed
feed_after : (b : ℕ) → long_symbol b 10 ≡ None
feed_after b =
    ap (λ (t : Bool). cond t (Some 12) (cond ((b == 33) && false) (Some 13) (cond ((b == 60) && false) (Some 15) (cond ((b == 62) && false) (Some 17) (cond ((b == 62) && false) (Some 18) None))))) (and_never (b == 61))
    ∙ ap (λ (t : Bool). cond t (Some 13) (cond ((b == 60) && false) (Some 15) (cond ((b == 62) && false) (Some 17) (cond ((b == 62) && false) (Some 18) None)))) (and_never (b == 33))
    ∙ ap (λ (t : Bool). cond t (Some 15) (cond ((b == 62) && false) (Some 17) (cond ((b == 62) && false) (Some 18) None))) (and_never (b == 60))
    ∙ ap (λ (t : Bool). cond t (Some 17) (cond ((b == 62) && false) (Some 18) None)) (and_never (b == 62))
    ∙ ap (λ (t : Bool). cond t (Some 18) None) (and_never (b == 62))

no_long : (b c k : ℕ) → long_symbol b c ≡ Some k → (nat_eq 10 b || (nat_eq 10 c || false)) ≡ false
no_long b c k e =
    by_test (nat_eq 10 b)
    (λ same. let none = ap (λ (x : ℕ). long_symbol x c) (nat_same 10 b same) ∙ e in cc)
    (λ other. ap (λ (t : Bool). t || (nat_eq 10 c || false)) other
    ∙ by_test (nat_eq 10 c)
    (λ same. let none = sym (feed_after b) ∙ ap (long_symbol b) (nat_same 10 c same) ∙ e in cc)
    (λ another. ap (λ (t : Bool). t || false) another))

long_takes : (b c : ℕ) (bs : List ℕ) (o : Option ℕ) → long_symbol b c ≡ o → Takes (b ∷ c ∷ bs) (long_lexeme o b)
long_takes b c bs None e = short_takes b (c ∷ bs)
long_takes b c bs (Some k) e = record { one_line = no_long b c k e; within = omega arith; own_word = λ w e. cc }

symbol_takes : (bs : List ℕ) → Takes bs (symbol_at bs)
symbol_takes [] = none_takes [] finish (λ w e. cc)
symbol_takes (b ∷ []) = short_takes b []
symbol_takes (b ∷ c ∷ bs) = long_takes b c bs (long_symbol b c) refl

number_takes : (bs : List ℕ) (o : Option ℕ) → Takes bs (number_lexeme o, run is_word_byte bs)
number_takes bs None = record { one_line = word_bytes bs; within = run_within bs; own_word = λ w e. cc }
number_takes bs (Some n) = record { one_line = word_bytes bs; within = run_within bs; own_word = λ w e. cc }

bytes_of : Lexeme → List ℕ
bytes_of (word w) = w
bytes_of (number n) = []
bytes_of (symbol k) = []
bytes_of finish = []
bytes_of bad = []

name_takes : (bs : List ℕ) → Takes bs (word (take (run is_word_byte bs) bs), run is_word_byte bs)
unfolding bytes_of
name_takes bs = record { one_line = word_bytes bs; within = run_within bs; own_word = λ w e. ap bytes_of e }

if_takes : (d e : Bool) (bs : List ℕ) (x y z : Lexeme × ℕ) → Takes bs x → Takes bs y → Takes bs z → Takes bs (cond d x (cond e y z))
if_takes true e bs x y z f g h = f
if_takes false true bs x y z f g h = g
if_takes false false bs x y z f g h = h

lexeme_takes : (bs : List ℕ) → Takes bs (lexeme_at bs)
unfolding lexeme_at
lexeme_takes [] = none_takes [] finish (λ w e. cc)
lexeme_takes (b ∷ bs) =
    let n : ℕ = run is_word_byte (b ∷ bs) in
    let w : List ℕ = take n (b ∷ bs) in
    if_takes (is_digit b) (is_name_start b) (b ∷ bs) (number_lexeme (number_of w), n) (word w, n) (symbol_at (b ∷ bs))
    (number_takes (b ∷ bs) (number_of w)) (name_takes (b ∷ bs)) (symbol_takes (b ∷ bs))

-- ---- the tokens

token_stands : (text : List ℕ) (p : Place) → Rests text p → StandsIn text (tok_at p)
token_stands text p h =
    let k : ℕ = (lexeme_at p.rest).1 in
    let takes = lexeme_takes p.rest in
    let start = h.start in
    let long = length-take-le k p.rest takes.within in
    record {
      above = h.above;
      ahead = h.ahead;
      own = take k p.rest;
      following = drop k p.rest;
      parts = h.parts ∙ ap (λ (r : List ℕ). (h.above ++ h.ahead) ++ r) (sym (take-append-drop k p.rest));
      ended = h.ended;
      one_line = h.one_line;
      line = h.line;
      column = h.column;
      start = h.start;
      end = omega (arith, start, long);
      own_word = takes.own_word;
    }

after_rests : (text : List ℕ) (p : Place) → Rests text p → Rests text (after_at p)
after_rests text p h =
    let k : ℕ = (lexeme_at p.rest).1 in
    let takes = lexeme_takes p.rest in
    subst (λ (n : ℕ). Rests text (record { rest = drop k p.rest; start = p.start + n; line = p.line; column = p.column + n })) (length-take-le k p.rest takes.within)
    (ahead_of text p (take k p.rest) (drop k p.rest) h (sym (take-append-drop k p.rest)) takes.one_line)

from_here : (text : List ℕ) (n : ℕ) (p : Place) → Rests text p → AllByRecursion (StandsIn text) (tokens_at n p)
from_here text zero p h = (token_stands text (skip p) (skip_rests text p.rest false p h refl), tt)
from_here text (suc n) p h =
    let q = skip_rests text p.rest false p h refl in (
      token_stands text (skip p) q,
      by_test (is_last (tok_at (skip p)).face)
          (λ is. subst (λ (t : Bool). AllByRecursion (StandsIn text) (cond t [] (tokens_at n (after_at (skip p))))) (sym is) tt)
          (λ isnt. subst (λ (t : Bool). AllByRecursion (StandsIn text) (cond t [] (tokens_at n (after_at (skip p))))) (sym isnt) (from_here text n (after_at (skip p)) (after_rests text (skip p) q))),
    )

pub stand : (text : List ℕ) → AllByRecursion (StandsIn text) (tokens_of text)
unfolding tokens
stand text =
    from_here text (length text) (record { rest = text; start = 0; line = 1; column = 1 })
    (record { above = []; ahead = []; parts = refl; ended = inl refl; one_line = refl; line = refl; column = refl; start = refl })
