-- The tokens that are cut out of a text can be written again.
use Rattle.std.proofs.Common.{◌≡◌, ℕ, zero, suc, ◌+◌, ◌*◌, ◌^◌, ◌<◌, ◌≤◌, Bool, true, false, cond, List, [], ◌∷◌, ◌++◌, length, take, drop, Option, Some, None, refl, sym, ◌∙◌, subst, arith}
use Rattle.std.specs.Prelude.{nat_le, nat_lt, ◌==◌, ◌&&◌, ◌||◌}
use Rattle.std.proofs.lemmas.Bool.{ltb-true, leb-true}
use Rattle.sn_text_rules.specs.Tokens.{Lexeme, word, Tok, faces}
use Rattle.sn_text.specs.Cutting.{is_digit, is_name_start, is_word_byte, run, digit, with_digit, or_none, digits_after, digits, part_of, part, dot_part, address, has_dot, is_hex, number_of, number_lexeme, long_symbol, short_symbol, short_lexeme, long_lexeme, symbol_at, lexeme_at, Place, skip, tok_at, after_at, is_last, tokens}
use Rattle.sn_text.proofs.Next.{or_first, tokens_next}
use Rattle.sn_text.proofs.Lexemes.{AllWord, Fine, AllFine}

-- ---- numbers

some_of : {A B : Type 0} (o : Option A) (f : A → Option B) (b : B) → or_none o f ≡ Some b → (a : A) × (o ≡ Some a) × (f a ≡ Some b)
some_of None f b e = absurd cc
some_of (Some a) f b e = (a, refl, e)

tested : (t : Bool) (n m : ℕ) → cond t (Some n) None ≡ Some m → (t ≡ true) × (n ≡ m)
tested true n m e = (refl, cc)
tested false n m e = absurd cc

with_bound : (base n : ℕ) (o : Option ℕ) (m : ℕ) → with_digit base n o ≡ Some m → m < 2 ^ 64
with_bound base n None m e = absurd cc
with_bound base n (Some d) m e =
    let k = tested (nat_lt (n * base + d) (2 ^ 64)) (n * base + d) m e in
    subst (λ (x : ℕ). x < 2 ^ 64) k.1 (ltb-true (n * base + d) (2 ^ 64) k.0)

after_bound : (base n : ℕ) (cs : List ℕ) (m : ℕ) → n < 2 ^ 64 → digits_after base n cs ≡ Some m → m < 2 ^ 64
after_bound base n [] m h e = let k : n ≡ m = cc in subst (λ (x : ℕ). x < 2 ^ 64) k h
after_bound base n (c ∷ cs) m h e =
    let k = some_of (with_digit base n (digit base c)) (λ x. digits_after base x cs) m e in
    after_bound base k.0 cs m (with_bound base n (digit base c) k.0 k.1) k.2

abbrev some_number : ℕ → Option ℕ
some_number n = Some n

not_none : (t : Bool) (o : Option ℕ) (m : ℕ) → cond t None o ≡ some_number m → o ≡ Some m
not_none true o m e = absurd cc
not_none false o m e = e

digits_bound : (base : ℕ) (w : List ℕ) (m : ℕ) → digits base w ≡ Some m → m < 2 ^ 64
digits_bound base w m e = after_bound base 0 w m (omega arith) (not_none (length w == 0) (digits_after base 0 w) m e)

abbrev Part : Type 0
Part = ℕ × List ℕ

abbrev some_part : Part → Option Part
some_part x = Some x

part_of_bound : (o : Option ℕ) (after : List ℕ) (x : Part) → part_of o after ≡ Some x → x.0 ≤ 255
part_of_bound None after x e = absurd cc
part_of_bound (Some n) after x e = go (nat_le n 255) refl e
  where
    go : (t : Bool) → nat_le n 255 ≡ t → cond t (some_part (n, after)) None ≡ Some x → x.0 ≤ 255
    go true t e = let k : (n, after) ≡ x = cc in subst (λ (y : Part). y.0 ≤ 255) k (leb-true n 255 t)
    go false t e = absurd cc

no_part : (t : Bool) (o : Option Part) (x : Part) → cond t None o ≡ some_part x → o ≡ Some x
no_part true o x e = absurd cc
no_part false o x e = e

part_bound : (w : List ℕ) (x : Part) → part w ≡ Some x → x.0 ≤ 255
unfolding part
part_bound w x e = part_of_bound (digits 10 (take (run is_digit w) w)) (drop (run is_digit w) w) x (no_part (nat_lt 3 (run is_digit w)) (part_of (digits 10 (take (run is_digit w) w)) (drop (run is_digit w) w)) x e)

then_part : (t : Bool) (o : Option Part) (x : Part) → cond t o None ≡ some_part x → o ≡ Some x
then_part true o x e = e
then_part false o x e = absurd cc

dot_part_bound : (w : List ℕ) (x : Part) → dot_part w ≡ Some x → x.0 ≤ 255
unfolding dot_part
dot_part_bound [] x e = absurd cc
dot_part_bound (b ∷ bs) x e = part_bound bs x (then_part (b == 46) (part bs) x e)

abbrev joined : Part → Part → Part → Part → ℕ
joined a b c d = a.0 * 16777216 + b.0 * 65536 + c.0 * 256 + d.0

address_bound : (w : List ℕ) (m : ℕ) → address w ≡ Some m → m < 2 ^ 64
unfolding address
address_bound w m e =
    let a = some_of (part w) (λ a. or_none (dot_part a.1) (λ b. or_none (dot_part b.1) (λ c. or_none (dot_part c.1) (λ d. cond (length d.1 == 0) (some_number (joined a b c d)) None)))) m e in
    let b = some_of (dot_part a.0.1) (λ b. or_none (dot_part b.1) (λ c. or_none (dot_part c.1) (λ d. cond (length d.1 == 0) (some_number (joined a.0 b c d)) None))) m a.2 in
    let c = some_of (dot_part b.0.1) (λ c. or_none (dot_part c.1) (λ d. cond (length d.1 == 0) (some_number (joined a.0 b.0 c d)) None)) m b.2 in
    let d = some_of (dot_part c.0.1) (λ d. cond (length d.1 == 0) (some_number (joined a.0 b.0 c.0 d)) None) m c.2 in
    let k = tested (length d.0.1 == 0) (joined a.0 b.0 c.0 d.0) m d.2 in
    let pa = part_bound w a.0 a.1 in
    let pb = dot_part_bound a.0.1 b.0 b.1 in
    let pc = dot_part_bound b.0.1 c.0 c.1 in
    let pd = dot_part_bound c.0.1 d.0 d.1 in
    subst (λ (x : ℕ). x < 2 ^ 64) k.1 (omega (arith, pa, pb, pc, pd))

number_bound : (w : List ℕ) (m : ℕ) → number_of w ≡ Some m → m < 2 ^ 64
unfolding number_of
number_bound w m e = go (is_hex w) (has_dot w) e
  where
    go : (h d : Bool) → cond h (digits 16 (drop 2 w)) (cond d (address w) (digits 10 w)) ≡ Some m → m < 2 ^ 64
    go true d e = digits_bound 16 (drop 2 w) m e
    go false true e = address_bound w m e
    go false false e = digits_bound 10 w m e

number_fine : (o : Option ℕ) → ((m : ℕ) → o ≡ Some m → m < 2 ^ 64) → is_last (number_lexeme o) ≡ false → Fine (number_lexeme o)
number_fine None h e = absurd cc
number_fine (Some n) h e = h n refl

-- ---- words

all_run : (bs : List ℕ) → AllWord (take (run is_word_byte bs) bs)
all_run [] = tt
all_run (b ∷ bs) = go (is_word_byte b) refl (all_run bs)
  where
    go : (t : Bool) → is_word_byte b ≡ t → AllWord (take (run is_word_byte bs) bs) → AllWord (take (cond t (suc (run is_word_byte bs)) 0) (b ∷ bs))
    go true e h = (e, h)
    go false e h = tt

word_fine : (b : ℕ) (bs : List ℕ) (n : ℕ) → run is_word_byte (b ∷ bs) ≡ n → is_digit b ≡ false → is_name_start b ≡ true → Fine (word (take n (b ∷ bs)))
word_fine b bs zero r d s = let t : is_word_byte b ≡ true = or_first (is_name_start b) (is_digit b) (b == 46) s in let k : suc (run is_word_byte bs) ≡ 0 = sym (rw t refl) ∙ r in absurd (omega (arith, k))
word_fine b bs (suc n) r d s = (d, s, subst (λ (m : ℕ). AllWord (take m (b ∷ bs))) r (all_run (b ∷ bs)))

-- ---- symbols

abbrev Low : Option ℕ → Type 0
Low None = Unit {0}
Low (Some k) = nat_le k 18 ≡ true

if_low : (t : Bool) (j : ℕ) (o : Option ℕ) → nat_le j 18 ≡ true → Low o → Low (cond t (some_number j) o)
if_low true j o h k = h
if_low false j o h k = k

short_low : (b : ℕ) → Low (short_symbol b)
short_low b =
    if_low (b == 123) 0 _ refl (if_low (b == 125) 1 _ refl (if_low (b == 59) 2 _ refl (if_low (b == 44) 3 _ refl
    (if_low (b == 124) 4 _ refl (if_low (b == 40) 5 _ refl (if_low (b == 41) 6 _ refl (if_low (b == 58) 7 _ refl
    (if_low (b == 38) 8 _ refl (if_low (b == 43) 9 _ refl (if_low (b == 42) 10 _ refl (if_low (b == 47) 11 _ refl
    (if_low (b == 60) 14 _ refl (if_low (b == 62) 16 None refl tt)))))))))))))

long_low : (b c : ℕ) → Low (long_symbol b c)
long_low b c =
    if_low ((b == 61) && (c == 61)) 12 _ refl (if_low ((b == 33) && (c == 61)) 13 _ refl (if_low ((b == 60) && (c == 61)) 15 _ refl
    (if_low ((b == 62) && (c == 61)) 17 _ refl (if_low ((b == 62) && (c == 62)) 18 None refl tt))))

short_fine : (o : Option ℕ) → Low o → is_last (short_lexeme o).0 ≡ false → Fine (short_lexeme o).0
short_fine None h e = absurd cc
short_fine (Some k) h e = leb-true k 18 h

long_fine : (o : Option ℕ) (b : ℕ) → Low o → is_last (long_lexeme o b).0 ≡ false → Fine (long_lexeme o b).0
long_fine None b h e = short_fine (short_symbol b) (short_low b) e
long_fine (Some k) b h e = leb-true k 18 h

symbol_fine : (r : List ℕ) → is_last (symbol_at r).0 ≡ false → Fine (symbol_at r).0
symbol_fine [] e = absurd cc
symbol_fine (b ∷ []) e = short_fine (short_symbol b) (short_low b) e
symbol_fine (b ∷ c ∷ bs) e = long_fine (long_symbol b c) b (long_low b c) e

-- ---- all tokens

one_of : (d s : Bool) (x y z : Lexeme × ℕ) → (d ≡ true → is_last x.0 ≡ false → Fine x.0) → (d ≡ false → s ≡ true → is_last y.0 ≡ false → Fine y.0) → (is_last z.0 ≡ false → Fine z.0) → is_last (cond d x (cond s y z)).0 ≡ false → Fine (cond d x (cond s y z)).0
one_of true s x y z f g h e = f refl e
one_of false true x y z f g h e = g refl refl e
one_of false false x y z f g h e = h e

lexeme_fine : (r : List ℕ) → is_last (lexeme_at r).0 ≡ false → Fine (lexeme_at r).0
unfolding lexeme_at
lexeme_fine [] e = absurd cc
lexeme_fine (b ∷ bs) e = one_of (is_digit b) (is_name_start b) (number_lexeme (number_of (take (run is_word_byte (b ∷ bs)) (b ∷ bs))), run is_word_byte (b ∷ bs)) (word (take (run is_word_byte (b ∷ bs)) (b ∷ bs)), run is_word_byte (b ∷ bs)) (symbol_at (b ∷ bs))
    (λ d l. number_fine (number_of (take (run is_word_byte (b ∷ bs)) (b ∷ bs))) (number_bound (take (run is_word_byte (b ∷ bs)) (b ∷ bs))) l)
    (λ d s l. word_fine b bs (run is_word_byte (b ∷ bs)) refl d s)
    (symbol_fine (b ∷ bs)) e

-- all but the last can be written
abbrev pub Closed : List Lexeme → Type 0
Closed [] = ⊥
Closed (x ∷ []) = Unit {0}
Closed (x ∷ y ∷ xs) = Fine x × Closed (y ∷ xs)

pub cut_fine : (ts : List Tok) (p : Place) → tokens p ≡ ts → Closed (faces ts)
cut_fine [] p e = (let k : [] ≡ tok_at (skip p) ∷ cond (is_last (tok_at (skip p)).face) [] (tokens (after_at (skip p))) = sym e ∙ tokens_next p in absurd cc)
cut_fine (t ∷ []) p e = tt
cut_fine (t ∷ u ∷ us) p e = go (is_last (tok_at (skip p)).face) refl (sym (tokens_next p) ∙ e) (cut_fine (u ∷ us) (after_at (skip p)))
  where
    go : (l : Bool) → is_last (tok_at (skip p)).face ≡ l → tok_at (skip p) ∷ cond l [] (tokens (after_at (skip p))) ≡ t ∷ u ∷ us → (tokens (after_at (skip p)) ≡ u ∷ us → Closed (u.face ∷ faces us)) → Fine t.face × Closed (u.face ∷ faces us)
    go true l k h = (let j : [] ≡ u ∷ us = cc in absurd cc)
    go false l k h =
        let head : tok_at (skip p) ≡ t = cc in
        let tail : tokens (after_at (skip p)) ≡ u ∷ us = cc in
        (subst (λ (x : Tok). Fine x.face) head (lexeme_fine (skip p).rest l), h tail)

pub front_fine : (xs : List Lexeme) (y : Lexeme) (ys : List Lexeme) → Closed (xs ++ y ∷ ys) → AllFine xs
front_fine [] y ys e = tt
front_fine (x ∷ []) y ys e = (e.0, tt)
front_fine (x ∷ z ∷ xs) y ys e = (e.0, front_fine (z ∷ xs) y ys e.1)
