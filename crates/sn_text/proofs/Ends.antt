-- The tokens of a text end with its end, which is after its last byte, or with no token.
use Rattle.std.proofs.Common.{◌≡◌, ℕ, ◌+◌, ◌≤◌, suc, Bool, true, false, cond, List, [], ◌∷◌, ◌++◌, length, take, Option, Some, None, refl, sym, ap, ◌∙◌, arith, inl, inr, length-drop}
use Rattle.sn_text_rules.specs.Tokens.{Lexeme, word, finish, is_last, Tok}
use Rattle.sn_text_rules.proofs.Common.{either_way}
use Rattle.sn_text_rules.proofs.Bounded.{Ended}
use Rattle.sn_text.specs.Cutting.{is_digit, is_name_start, is_word_byte, run, number_lexeme, number_of, long_symbol, short_symbol, short_lexeme, long_lexeme, symbol_at, lexeme_at, Place, gap, following, when_gap, skip_from, skip, tok_at, after_at, tokens, tokens_of}
use Rattle.sn_text.proofs.Next.{tokens_next}

pub head : (a b : Tok) (xs ys : List Tok) → a ∷ xs ≡ b ∷ ys → a ≡ b
head a b xs ys e = cc

pub rest : (a b : Tok) (xs ys : List Tok) → a ∷ xs ≡ b ∷ ys → xs ≡ ys
rest a b xs ys e = cc

last : (a b : Tok) (xs ys : List Tok) → a ∷ xs ≡ b ∷ ys → is_last a.face ≡ true → is_last b.face ≡ true
last a b xs ys e l = sym (ap (λ (x : Tok). is_last x.face) (head a b xs ys e)) ∙ l

ended_as : (ts : List Tok) (p : Place) → tokens p ≡ ts → Ended ts
ended_as [] p e = let k = sym (tokens_next p) ∙ e in absurd cc
ended_as (t ∷ ts) p e = elim (either_way (is_last (tok_at (skip p)).face)) [
  | inl l ↦ (let k : tok_at (skip p) ∷ [] ≡ t ∷ ts = sym (tokens_next p ∙ rw l refl) ∙ e in inl (last (tok_at (skip p)) t [] ts k l, sym (rest (tok_at (skip p)) t [] ts k)))
  | inr l ↦ (let k : tok_at (skip p) ∷ tokens (after_at (skip p)) ≡ t ∷ ts = sym (tokens_next p ∙ rw l refl) ∙ e in
      inr (sym (ap (λ (x : Tok). is_last x.face) (head (tok_at (skip p)) t (tokens (after_at (skip p))) ts k)) ∙ l, ended_as ts (after_at (skip p)) (rest (tok_at (skip p)) t (tokens (after_at (skip p))) ts k)))
]

pub tokens_ended : (text : List ℕ) → Ended (tokens_of text)
tokens_ended text = ended_as (tokens_of text) (record { rest = text; start = 0; line = 1; column = 1 }) refl

-- ---- where the end stands

-- the bytes up to the end of the text
abbrev whole : Place → ℕ
whole p = p.start + length p.rest

gap_whole : (o : Option Bool) (b : ℕ) (bs : List ℕ) (p : Place) → p.rest ≡ b ∷ bs → ((on : Bool) → whole (skip_from bs on (following b p bs)) ≡ whole (following b p bs)) → whole (when_gap o p (λ on. skip_from bs on (following b p bs))) ≡ whole p
gap_whole None b bs p e h = refl
gap_whole (Some on) b bs p e h = h on ∙ omega (arith, ap length e)

skip_whole_by : (bs : List ℕ) (inside : Bool) (p : Place) → p.rest ≡ bs → whole (skip_from bs inside p) ≡ whole p
skip_whole_by [] inside p e = refl
skip_whole_by (b ∷ bs) inside p e = gap_whole (gap inside b) b bs p e (λ on. skip_whole_by bs on (following b p bs) refl)

pub run_within : (bs : List ℕ) → run is_word_byte bs ≤ length bs
run_within [] = omega arith
run_within (b ∷ bs) = go (is_word_byte b) (run_within bs)
  where
    go : (t : Bool) → run is_word_byte bs ≤ length bs → cond t (suc (run is_word_byte bs)) 0 ≤ suc (length bs)
    go true h = omega arith
    go false h = omega arith

-- of no bytes more than there are, and the end only where there are none
record Cuts (n : ℕ) (x : Lexeme × ℕ) : Type 0 where
  within : x.1 ≤ n
  goes_on : x.0 ≡ finish → ⊥

short_cuts : (o : Option ℕ) (n : ℕ) → Cuts (suc n) (short_lexeme o)
short_cuts None n = record { within = omega arith; goes_on = λ e. cc }
short_cuts (Some k) n = record { within = omega arith; goes_on = λ e. cc }

long_cuts : (o : Option ℕ) (b n : ℕ) → Cuts (suc (suc n)) (long_lexeme o b)
long_cuts None b n = short_cuts (short_symbol b) (suc n)
long_cuts (Some k) b n = record { within = omega arith; goes_on = λ e. cc }

symbol_cuts : (b : ℕ) (bs : List ℕ) → Cuts (suc (length bs)) (symbol_at (b ∷ bs))
symbol_cuts b [] = short_cuts (short_symbol b) 0
symbol_cuts b (c ∷ bs) = long_cuts (long_symbol b c) b (length bs)

number_cuts : (o : Option ℕ) (n k : ℕ) → k ≤ n → Cuts n (number_lexeme o, k)
number_cuts None n k h = record { within = h; goes_on = λ e. cc }
number_cuts (Some m) n k h = record { within = h; goes_on = λ e. cc }

if_cuts : (d e : Bool) (n : ℕ) (x y z : Lexeme × ℕ) → Cuts n x → Cuts n y → Cuts n z → Cuts n (cond d x (cond e y z))
if_cuts true e n x y z f g h = f
if_cuts false true n x y z f g h = g
if_cuts false false n x y z f g h = h

lexeme_cuts : (b : ℕ) (bs : List ℕ) → Cuts (suc (length bs)) (lexeme_at (b ∷ bs))
unfolding lexeme_at
lexeme_cuts b bs =
    let n : ℕ = run is_word_byte (b ∷ bs) in
    let w : List ℕ = take n (b ∷ bs) in
    if_cuts (is_digit b) (is_name_start b) (suc (length bs)) (number_lexeme (number_of w), n) (word w, n) (symbol_at (b ∷ bs))
    (number_cuts (number_of w) (suc (length bs)) n (run_within (b ∷ bs))) (record { within = run_within (b ∷ bs); goes_on = λ e. cc }) (symbol_cuts b bs)

cut_within : (r : List ℕ) → (lexeme_at r).1 ≤ length r
unfolding lexeme_at
cut_within [] = omega arith
cut_within (b ∷ bs) = (lexeme_cuts b bs).within

at_end : (r : List ℕ) → (lexeme_at r).0 ≡ finish → length r ≡ 0
at_end [] e = refl
at_end (b ∷ bs) e = absurd ((lexeme_cuts b bs).goes_on e)

after_whole : (p : Place) → whole (after_at p) ≡ whole p
after_whole p = let h = cut_within p.rest in omega (arith, h, length-drop (lexeme_at p.rest).1 p.rest)

no_more : (front : List Tok) (t : Tok) → [] ≡ front ++ t ∷ [] → ⊥
no_more [] t e = cc
no_more (u ∷ front) t e = cc

end_starts : (front : List Tok) (t : Tok) (p : Place) → tokens p ≡ front ++ t ∷ [] → t.face ≡ finish → t.start ≡ whole p
end_starts [] t p e f =
    let is = head (tok_at (skip p)) t (cond (is_last (tok_at (skip p)).face) [] (tokens (after_at (skip p)))) [] (sym (tokens_next p) ∙ e) in
    let none = at_end (skip p).rest (ap (λ (u : Tok). u.face) is ∙ f) in
    omega (arith, none, ap (λ (u : Tok). u.start) is, skip_whole_by p.rest false p refl)
end_starts (u ∷ front) t p e f = elim (either_way (is_last (tok_at (skip p)).face)) [
  | inl l ↦ absurd (no_more front t (rest (tok_at (skip p)) u [] (front ++ t ∷ []) (sym (tokens_next p ∙ rw l refl) ∙ e)))
  | inr l ↦ end_starts front t (after_at (skip p)) (rest (tok_at (skip p)) u (tokens (after_at (skip p))) (front ++ t ∷ []) (sym (tokens_next p ∙ rw l refl) ∙ e)) f ∙ after_whole (skip p) ∙ skip_whole_by p.rest false p refl
]

-- the end of a text stands after its last byte
pub end_at : (text : List ℕ) (front : List Tok) (t : Tok) → tokens_of text ≡ front ++ t ∷ [] → t.face ≡ finish → t.start ≡ length text
end_at text front t e f = end_starts front t (record { rest = text; start = 0; line = 1; column = 1 }) e f ∙ omega arith
