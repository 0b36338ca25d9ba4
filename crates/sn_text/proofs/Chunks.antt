-- Lexemes that are written with blanks after them are cut out again, and a text that is written so stands for the same value.
use Rattle.std.proofs.Common.{◌≡◌, ℕ, false, cond, List, [], ◌∷◌, ◌++◌, map, length, drop, Some, None, refl, sym, ap, subst, ◌∙◌, inl, inr, ◌⊎◌}
use Rattle.std.proofs.Math.Seq.{drop-append_seam}
use Rattle.std.proofs.lemmas.List.{append-nil}
use Rattle.sn_text_rules.specs.Tokens.{Lexeme, symbol, finish, Tok, faces, mark_faces}
use Rattle.sn_text_rules.specs.Rules.{Rule, kept, Accepts}
use Rattle.sn_text_rules.proofs.Common.{spelled_faces}
use Rattle.sn_text_rules.proofs.Laws.{Good}
use Rattle.sn_text.specs.Cutting.{lexeme_at, Place, gap, following, skip_from, skip, tok_at, after_at, is_last, tokens, tokens_of}
use Rattle.sn_text.proofs.Next.{tokens_next}
use Rattle.sn_text.specs.Writing.{lexeme_text}
use Rattle.sn_text.proofs.Symbols.{HeadOk, open_read}
use Rattle.sn_text.proofs.Lexemes.{Fine, AllFine, fine_ahead, fine_reads}
use Rattle.sn_text.proofs.Cut.{Closed, cut_fine, front_fine}

-- ---- blanks

abbrev pub Blank : List ℕ → Type 0
Blank [] = Unit {0}
Blank (b ∷ bs) = ((b ≡ 32) ⊎ (b ≡ 10)) × Blank bs

blank_goes : (b : ℕ) → (b ≡ 32) ⊎ (b ≡ 10) → gap false b ≡ Some false
blank_goes b (inl e) = ap (gap false) e
blank_goes b (inr e) = ap (gap false) e

skip_gap : (g rest : List ℕ) (p : Place) → p.rest ≡ g ++ rest → Blank g → (q : Place) × (q.rest ≡ rest) × (skip_from (g ++ rest) false p ≡ skip_from rest false q)
skip_gap [] rest p e h = (p, e, refl)
skip_gap (b ∷ g) rest p e h =
    let k = skip_gap g rest (following b p (g ++ rest)) refl h.1 in
    (k.0, k.1, rw (blank_goes b h.0) k.2)

stopped : (b : ℕ) (t : List ℕ) (q : Place) → gap false b ≡ None → skip_from (b ∷ t) false q ≡ q
stopped b t q n = rw n refl

skip_to : (p : Place) (g t : List ℕ) (b : ℕ) → p.rest ≡ g ++ (b ∷ t) → Blank g → gap false b ≡ None → (skip p).rest ≡ b ∷ t
skip_to p g t b e h n =
    let k = skip_gap g (b ∷ t) p e h in
    ap (λ (r : List ℕ). (skip_from r false p).rest) e ∙ ap (λ (q : Place). q.rest) (k.2 ∙ stopped b t k.0 n) ∙ k.1

skip_all : (p : Place) (g : List ℕ) → p.rest ≡ g → Blank g → (skip p).rest ≡ []
skip_all p g e h =
    let k = skip_gap g [] p (e ∙ sym (append-nil g)) h in
    ap (λ (r : List ℕ). (skip_from r false p).rest) (e ∙ sym (append-nil g)) ∙ ap (λ (q : Place). q.rest) k.2 ∙ k.1

-- ---- chunks

-- a lexeme and the blanks after it
pub record Chunk : Type 0 where
  pub face : Lexeme
  pub gap : List ℕ

abbrev pub chunk : Lexeme → List ℕ → Chunk
chunk x g = record { face = x; gap = g }

abbrev pub text_of : List Chunk → List ℕ
text_of [] = []
text_of (c ∷ cs) = lexeme_text c.face ++ (c.gap ++ text_of cs)

abbrev pub face_of : Chunk → Lexeme
face_of c = c.face

-- what follows a lexeme makes it no longer; `(` stands alone whatever follows
abbrev pub Parts : Lexeme → List ℕ → Type 0
Parts x t = HeadOk t ⊎ (x ≡ symbol 5)

-- after each lexeme stand blanks
abbrev pub Spaced : List Chunk → Type 0
Spaced [] = Unit {0}
Spaced (c ∷ cs) = Blank c.gap × Parts c.face (c.gap ++ text_of cs) × Spaced cs

-- ---- one token

abbrev pairs : Lexeme → ℕ → Lexeme × ℕ
pairs x n = (x, n)

parted : (x : Lexeme) (t : List ℕ) → Fine x → Parts x t → lexeme_at (lexeme_text x ++ t) ≡ pairs x (length (lexeme_text x))
parted x t f (inl h) = let r = fine_reads x f in rw r.text (r.read t h)
parted x t f (inr e) = subst (λ (y : Lexeme). lexeme_at (lexeme_text y ++ t) ≡ pairs y (length (lexeme_text y))) (sym e) (open_read t)

empty_is : (lexeme_at []).0 ≡ finish
unfolding lexeme_at
empty_is = refl

ends : (g : List ℕ) (p : Place) → p.rest ≡ g ++ [] → Blank g → faces (tokens p) ≡ finish ∷ []
ends g p e h = ap faces (tokens_next p) ∙ end_face (skip p) (skip_all p g (e ∙ append-nil g) h)
  where
    end_face : (q : Place) → q.rest ≡ [] → faces (tok_at q ∷ cond (is_last (tok_at q).face) [] (tokens (after_at q))) ≡ finish ∷ []
    end_face q r = let f : (lexeme_at q.rest).0 ≡ finish = ap (λ (l : List ℕ). (lexeme_at l).0) r ∙ empty_is in rw f refl

after_token : (q : Place) (x t : List ℕ) (y : Lexeme) → q.rest ≡ x ++ t → lexeme_at (x ++ t) ≡ pairs y (length x) → (after_at q).rest ≡ t
after_token q x t y e r = ap (λ (l : List ℕ). drop (lexeme_at l).1 l) e ∙ ap (λ (n : Lexeme × ℕ). drop n.1 (x ++ t)) r ∙ drop-append_seam x t

face_of_token : (q : Place) (x t : List ℕ) (y : Lexeme) → q.rest ≡ x ++ t → lexeme_at (x ++ t) ≡ pairs y (length x) → (tok_at q).face ≡ y
face_of_token q x t y e r = ap (λ (l : List ℕ). (lexeme_at l).0) e ∙ ap (λ (n : Lexeme × ℕ). n.0) r

one_more : (p : Place) (x : Lexeme) (ys : List Lexeme) → (tok_at (skip p)).face ≡ x → is_last x ≡ false → faces (tokens (after_at (skip p))) ≡ ys → faces (tokens p) ≡ x ∷ ys
one_more p x ys e l h = ap faces (tokens_next p) ∙ made (tok_at (skip p)) (tokens (after_at (skip p))) x ys e l h
  where
    made : (t : Tok) (ts : List Tok) (x : Lexeme) (ys : List Lexeme) → t.face ≡ x → is_last x ≡ false → faces ts ≡ ys → faces (t ∷ cond (is_last t.face) [] ts) ≡ x ∷ ys
    made t ts x ys e l h = rw (e, l, h) refl

-- ---- the text

chunks_cut : (cs : List Chunk) (g : List ℕ) (p : Place) → AllFine (map face_of cs) → Spaced cs → Blank g → p.rest ≡ g ++ text_of cs → faces (tokens p) ≡ map face_of cs ++ finish ∷ []
chunks_cut [] g p f s b e = ends g p e b
chunks_cut (c ∷ cs) g p f s b e =
    let x = c.face in
    let t : List ℕ = c.gap ++ text_of cs in
    let r = fine_reads x f.0 in
    let whole : p.rest ≡ g ++ (r.head ∷ (r.tail ++ t)) = e ∙ ap (λ (w : List ℕ). g ++ (w ++ t)) r.text in
    let rest : (skip p).rest ≡ lexeme_text x ++ t = skip_to p g (r.tail ++ t) r.head whole b r.no_gap ∙ ap (λ (w : List ℕ). w ++ t) (sym r.text) in
    let reads = parted x t f.0 s.1 in
    one_more p x (map face_of cs ++ finish ∷ []) (face_of_token (skip p) (lexeme_text x) t x rest reads) (fine_ahead x f.0)
    (chunks_cut cs c.gap (after_at (skip p)) f.1 s.2 s.0 (after_token (skip p) (lexeme_text x) t x rest reads))

chunks_read : (cs : List Chunk) → AllFine (map face_of cs) → Spaced cs → faces (tokens_of (text_of cs)) ≡ map face_of cs ++ finish ∷ []
chunks_read cs f s = chunks_cut cs [] (record { rest = text_of cs; start = 0; line = 1; column = 1 }) f s tt refl

-- ---- the value

-- what is written of a value stands for it, up to lines
pub record Again {A : Type 0} (r : Rule A) (a : A) (text : List ℕ) : Type 0 where
  pub value : A
  pub accepted : Accepts r (tokens_of text) value
  pub same : r.bare value ≡ r.bare a

abbrev pub closed_by : List Chunk → List Lexeme
closed_by cs = map face_of cs ++ finish ∷ []

pub read_again : {A : Type 0} {r : Rule A} → Good r → (a : A) (cs : List Chunk) → r.fits kept a → mark_faces (r.spell a) ≡ closed_by cs → AllFine (map face_of cs) → Spaced cs → Again r a (text_of cs)
read_again g a cs f e fine s =
    let k = g.relines a (tokens_of (text_of cs)) f (chunks_read cs fine s ∙ sym e) in
    record { value = k.value; accepted = record { spelled = k.spelled; fits = k.fits }; same = k.same }

-- the value of a text can be written
pub rewritten : {A : Type 0} {r : Rule A} → Good r → (text : List ℕ) (a : A) (cs : List Chunk) → Accepts r (tokens_of text) a → mark_faces (r.spell a) ≡ closed_by cs → (AllFine (map face_of cs) → Spaced cs) → Again r a (text_of cs)
rewritten {r = r} g text a cs h e s =
    let closed = cut_fine (tokens_of text) (record { rest = text; start = 0; line = 1; column = 1 }) refl in
    let fine = front_fine (map face_of cs) finish [] (subst Closed (spelled_faces (tokens_of text) (r.spell a) h.spelled ∙ e) closed) in
    read_again g a cs h.fits e fine (s fine)
