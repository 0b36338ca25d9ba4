-- Readings, marks and choices.
use Rattle.std.proofs.Common.{◌≡◌, ℕ, Bool, true, false, cond, List, [], ◌∷◌, ◌++◌, length, map, Option, Some, None, refl, ap, subst, ◌∙◌, arith, inl, inr, ◌⊎◌, ◌≤◌}
use Rattle.sn_text_rules.specs.declared.Flaw.{Flaw}
use Rattle.sn_text_rules.specs.Tokens.{Lexeme, Tok, Mark, IsLine, Bears, Spelled, faces, mark_faces, Read, got, fails, short, bind}

-- ---- choices

pub either_way : (b : Bool) → (b ≡ true) ⊎ (b ≡ false)
either_way true = inl refl
either_way false = inr refl

pub both_true : (a b : Bool) → cond a b false ≡ true → (a ≡ true) × (b ≡ true)
both_true true b e = (refl, e)
both_true false b e = absurd cc

pub both_made : (a b : Bool) → a ≡ true → b ≡ true → cond a b false ≡ true
both_made a b e f = rw (e, f) refl

-- ---- readings

abbrev giving : {A : Type 0} → A → List Tok → Read A
giving a us = got a us

abbrev failing : (A : Type 0) → Flaw → List Tok → Read A
failing A x us = fails x us

pub same_value : {A : Type 0} (a b : A) (us vs : List Tok) → giving a us ≡ giving b vs → a ≡ b
same_value a b us vs e = cc

pub same_rest : {A : Type 0} (a b : A) (us vs : List Tok) → giving a us ≡ giving b vs → us ≡ vs
same_rest a b us vs e = cc

pub fails_same : {A : Type 0} (x y : Flaw) (us vs : List Tok) → failing A x us ≡ failing A y vs → (x ≡ y) × (us ≡ vs)
fails_same x y us vs e = (cc, cc)

pub bind_got : {A B : Type 0} (r : Read A) (f : A → List Tok → Read B) (b : B) (vs : List Tok) → bind r f ≡ got b vs → (a : A) × (us : List Tok) × (r ≡ got a us) × (f a us ≡ got b vs)
bind_got (got a us) f b vs e = (a, us, refl, e)
bind_got (fails x us) f b vs e = absurd cc
bind_got short f b vs e = absurd cc

pub bind_fails : {A B : Type 0} (r : Read A) (f : A → List Tok → Read B) (x : Flaw) (vs : List Tok) → bind r f ≡ fails x vs → (r ≡ fails x vs) ⊎ ((a : A) × (us : List Tok) × (r ≡ got a us) × (f a us ≡ fails x vs))
bind_fails (got a us) f x vs e = inr (a, us, refl, e)
bind_fails (fails y us) f x vs e = inl cc
bind_fails short f x vs e = absurd cc

pub bind_short : {A B : Type 0} (r : Read A) (f : A → List Tok → Read B) → bind r f ≡ short → (r ≡ short) ⊎ ((a : A) × (us : List Tok) × (r ≡ got a us) × (f a us ≡ short))
bind_short (got a us) f e = inr (a, us, refl, e)
bind_short (fails y us) f e = absurd cc
bind_short short f e = inl refl

-- how many tokens are left; what is known is known at the last token that was looked at
abbrev pub left : {A : Type 0} → Read A → ℕ
left (got a us) = length us
left (fails x us) = length us
left short = 0

pub left_bind : {A B : Type 0} (r : Read A) (f : A → List Tok → Read B) (n : ℕ) → left r ≤ n → ((a : A) (us : List Tok) → r ≡ got a us → left (f a us) ≤ length us) → left (bind r f) ≤ n
left_bind (got a us) f n h k = let j = k a us refl in omega arith
left_bind (fails x us) f n h k = h
left_bind short f n h k = h

-- ---- marks

pub respelled : (ts us : List Tok) (ms : List Mark) → ts ≡ us → Spelled ts ms → Spelled us ms
respelled ts us ms e h = subst (λ (l : List Tok). Spelled l ms) e h

pub remarked : (ts : List Tok) (ms ns : List Mark) → ms ≡ ns → Spelled ts ms → Spelled ts ns
remarked ts ms ns e h = subst (λ (l : List Mark). Spelled ts l) e h

pub spelled_append : (ts us : List Tok) (ms ns : List Mark) → Spelled ts ms → Spelled us ns → Spelled (ts ++ us) (ms ++ ns)
spelled_append [] us [] ns h k = k
spelled_append [] us (m ∷ ms) ns h k = absurd h
spelled_append (t ∷ ts) us [] ns h k = absurd h
spelled_append (t ∷ ts) us (m ∷ ms) ns h k = (h.0, spelled_append ts us ms ns h.1 k)

pub split_spelled : (front : List Tok) (ms ns : List Mark) → Spelled front (ms ++ ns) → (a : List Tok) × (b : List Tok) × (front ≡ a ++ b) × Spelled a ms × Spelled b ns
split_spelled front [] ns h = ([], front, refl, tt, h)
split_spelled [] (m ∷ ms) ns h = absurd h
split_spelled (t ∷ front) (m ∷ ms) ns h =
    let k = split_spelled front ms ns h.1 in
    (t ∷ k.0, k.1, ap (λ (l : List Tok). t ∷ l) k.2, (h.0, k.3), k.4)

pub faces_append : (ts us : List Tok) → faces (ts ++ us) ≡ faces ts ++ faces us
faces_append [] us = refl
faces_append (t ∷ ts) us = ap (λ (x : List Lexeme). t.face ∷ x) (faces_append ts us)

pub mark_faces_append : (ms ns : List Mark) → mark_faces (ms ++ ns) ≡ mark_faces ms ++ mark_faces ns
mark_faces_append [] ns = refl
mark_faces_append (m ∷ ms) ns = ap (λ (x : List Lexeme). m.face ∷ x) (mark_faces_append ms ns)

pub spelled_faces : (ts : List Tok) (ms : List Mark) → Spelled ts ms → faces ts ≡ mark_faces ms
spelled_faces [] [] s = refl
spelled_faces [] (m ∷ ms) s = absurd s
spelled_faces (t ∷ ts) [] s = absurd s
spelled_faces (t ∷ ts) (m ∷ ms) s = rw (s.0.0, spelled_faces ts ms s.1) refl

pub split_faces : (front : List Tok) (xs ys : List Lexeme) → faces front ≡ xs ++ ys → (a : List Tok) × (b : List Tok) × (front ≡ a ++ b) × (faces a ≡ xs) × (faces b ≡ ys)
split_faces front [] ys e = ([], front, refl, refl, e)
split_faces [] (x ∷ xs) ys e = absurd cc
split_faces (t ∷ front) (x ∷ xs) ys e =
    let tail : faces front ≡ xs ++ ys = cc in
    let head : t.face ≡ x = cc in
    let h = split_faces front xs ys tail in
    (t ∷ h.0, h.1, ap (λ (l : List Tok). t ∷ l) h.2, cc, h.4)

-- some tokens that bear these marks
abbrev line_of : Option ℕ → ℕ
line_of None = 0
line_of (Some line) = line

abbrev pub bearer : Mark → Tok
bearer m = record { face = m.face; line = line_of m.line; column = 0; start = 0; end = 0 }

abbrev pub bearers : List Mark → List Tok
bearers ms = map bearer ms

has_line : (o : Option ℕ) → IsLine o (line_of o)
has_line None = tt
has_line (Some line) = refl

pub bears : (m : Mark) → Bears (bearer m) m
bears m = (refl, has_line m.line)

pub bearers_spelled : (ms : List Mark) → Spelled (bearers ms) ms
bearers_spelled [] = tt
bearers_spelled (m ∷ ms) = (bears m, bearers_spelled ms)

-- ---- the first token

abbrev pub Heads : (Lexeme → Bool) → List Mark → Type 0
Heads goes [] = ⊥
Heads goes (m ∷ ms) = goes m.face ≡ true

pub head_is : (goes : Lexeme → Bool) (t : Tok) (ts : List Tok) (ms : List Mark) → Spelled (t ∷ ts) ms → Heads goes ms → goes t.face ≡ true
head_is goes t ts [] s h = absurd h
head_is goes t ts (m ∷ ms) s h = ap goes s.0.0 ∙ h

pub no_head : (goes : Lexeme → Bool) (ms : List Mark) → Spelled [] ms → Heads goes ms → ⊥
no_head goes [] s h = h
no_head goes (m ∷ ms) s h = s

pub heads_append : (goes : Lexeme → Bool) (ms ns : List Mark) → Heads goes ms → Heads goes (ms ++ ns)
heads_append goes [] ns h = absurd h
heads_append goes (m ∷ ms) ns h = h
