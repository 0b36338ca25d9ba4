-- What is laid out are lexemes with blanks between them.
use Rattle.std.proofs.Common.{◌≡◌, ℕ, Bool, true, false, cond, List, [], ◌∷◌, ◌++◌, map, fold, refl, sym, ap, ◌∙◌, append_assoc, inl, inr}
use Rattle.std.specs.Prelude.{◌==◌, ◌||◌, codes}
use Rattle.std.proofs.lemmas.List.{append-nil}
use Rattle.std.proofs.lemmas.Bool.{eqb-true}
use Rattle.sn_text_rules.specs.Tokens.{Lexeme, word, number, symbol, finish, bad, Mark, plain, mark_faces}
use Rattle.sn_text_rules.specs.Words.{same}
use Rattle.sn_text_rules.proofs.Common.{either_way}
use Rattle.sn_text.specs.Writing.{symbol_text, lexeme_text}
use Rattle.sn_text.proofs.Symbols.{HeadOk}
use Rattle.sn_text.proofs.Lexemes.{Fine, AllFine}
use Rattle.sn_text.proofs.Chunks.{Blank, Chunk, chunk, face_of, text_of, Parts, Spaced}
use Rattle.sn_query_print.specs.declared.printer.Last.{Last}
use Rattle.sn_query_print.specs.declared.printer.Last.TheVariants as lasts
use Rattle.sn_query_print.specs.Layout as layouts
use Rattle.sn_query_print.specs.Layout.{new_line, space, word_gap, symbol_gap, last_of, State, put}

-- ---- what stands between two tokens is blank

word_blank : (a b c d : Bool) → Blank (cond a new_line (cond ((b || c) || d) (new_line ++ codes "  ") space))
word_blank true b c d = (inr refl, tt)
word_blank false true c d = (inr refl, (inl refl, (inl refl, tt)))
word_blank false false true d = (inr refl, (inl refl, (inl refl, tt)))
word_blank false false false true = (inr refl, (inl refl, (inl refl, tt)))
word_blank false false false false = (inl refl, tt)

sign_blank : (a b c : Bool) → Blank (cond a new_line (cond b (new_line ++ codes "    ") (cond c [] space)))
sign_blank true b c = (inr refl, tt)
sign_blank false true c = (inr refl, (inl refl, (inl refl, (inl refl, (inl refl, tt)))))
sign_blank false false true = tt
sign_blank false false false = (inl refl, tt)

wordy : (w : List ℕ) → Blank (word_gap w)
wordy w = word_blank (same w (codes "query")) (same w (codes "refine")) (same w (codes "packets")) (same w (codes "join"))

gap_blank : (last : Last) (x : Lexeme) → Blank (layouts.gap last x)
gap_blank lasts.Begin x = tt
gap_blank lasts.Opening x = tt
gap_blank lasts.At (word w) = wordy w
gap_blank lasts.At (number n) = (inl refl, tt)
gap_blank lasts.At (symbol k) = (inl refl, tt)
gap_blank lasts.At finish = (inr refl, tt)
gap_blank lasts.At bad = tt
gap_blank lasts.Other (word w) = wordy w
gap_blank lasts.Other (number n) = (inl refl, tt)
gap_blank lasts.Other (symbol k) = sign_blank (k == 1) (k == 4) ((((k == 2) || (k == 3)) || (k == 5) || (k == 6)) || (k == 7))
gap_blank lasts.Other finish = (inr refl, tt)
gap_blank lasts.Other bad = tt

-- ---- what follows a token makes it no longer

abbrev After : Last → Type 0
After lasts.Begin = ⊥
After lasts.Opening = ⊥
After lasts.At = Unit {0}
After lasts.Other = Unit {0}

word_head : (a b c d : Bool) (t : List ℕ) → HeadOk (cond a new_line (cond ((b || c) || d) (new_line ++ codes "  ") space) ++ t)
word_head true b c d t = (refl, refl, refl)
word_head false true c d t = (refl, refl, refl)
word_head false false true d t = (refl, refl, refl)
word_head false false false true t = (refl, refl, refl)
word_head false false false false t = (refl, refl, refl)

abbrev tight : ℕ → Bool
tight k = (((k == 2) || (k == 3)) || (k == 5) || (k == 6)) || (k == 7)

tight_head : (k : ℕ) (t : List ℕ) → tight k ≡ true → HeadOk (symbol_text k ++ t)
tight_head k t e = elim (either_way (k == 2)) [
  | inl h ↦ rw (eqb-true k 2 h) (refl, refl, refl)
  | inr h ↦ elim (either_way (k == 3)) [
    | inl i ↦ rw (eqb-true k 3 i) (refl, refl, refl)
    | inr i ↦ elim (either_way (k == 5)) [
      | inl j ↦ rw (eqb-true k 5 j) (refl, refl, refl)
      | inr j ↦ elim (either_way (k == 6)) [
        | inl l ↦ rw (eqb-true k 6 l) (refl, refl, refl)
        | inr l ↦ elim (either_way (k == 7)) [
          | inl n ↦ rw (eqb-true k 7 n) (refl, refl, refl)
          | inr n ↦ (let z : false ≡ true = sym (rw (h, i, j, l, n) refl) ∙ e in absurd cc)
        ]
      ]
    ]
  ]
]

sign_head : (k : ℕ) (t : List ℕ) (a b c : Bool) → tight k ≡ c → HeadOk (cond a new_line (cond b (new_line ++ codes "    ") (cond c [] space)) ++ (symbol_text k ++ t))
sign_head k t true b c e = (refl, refl, refl)
sign_head k t false true c e = (refl, refl, refl)
sign_head k t false false true e = tight_head k t e
sign_head k t false false false e = (refl, refl, refl)

wordy_head : (w t : List ℕ) → HeadOk (word_gap w ++ t)
wordy_head w t = word_head (same w (codes "query")) (same w (codes "refine")) (same w (codes "packets")) (same w (codes "join")) t

head_ok : (last : Last) (y : Lexeme) (t : List ℕ) → After last → Fine y → HeadOk (layouts.gap last y ++ (lexeme_text y ++ t))
head_ok lasts.Begin y t b f = absurd b
head_ok lasts.Opening y t b f = absurd b
head_ok lasts.At (word w) t b f = wordy_head w (w ++ t)
head_ok lasts.Other (word w) t b f = wordy_head w (w ++ t)
head_ok lasts.At (number n) t b f = (refl, refl, refl)
head_ok lasts.Other (number n) t b f = (refl, refl, refl)
head_ok lasts.At (symbol k) t b f = (refl, refl, refl)
head_ok lasts.Other (symbol k) t b f = sign_head k t (k == 1) (k == 4) (tight k) refl
head_ok last finish t b f = absurd f
head_ok last bad t b f = absurd f

end_ok : (last : Last) (t : List ℕ) → After last → HeadOk (layouts.gap last finish ++ t)
end_ok lasts.Begin t b = absurd b
end_ok lasts.Opening t b = absurd b
end_ok lasts.At t b = (refl, refl, refl)
end_ok lasts.Other t b = (refl, refl, refl)

after_word : (b : Bool) → After (cond b lasts.At lasts.Other)
after_word true = tt
after_word false = tt

after_sign : (b : Bool) → b ≡ false → After (cond b lasts.Opening lasts.Other)
after_sign true e = absurd cc
after_sign false e = tt

parted : (x : Lexeme) (t : List ℕ) → Fine x → (After (last_of x) → HeadOk t) → Parts x t
parted (word w) t f h = inl (h (after_word (same w (codes "at"))))
parted (number n) t f h = inl (h tt)
parted (symbol k) t f h = elim (either_way (k == 5)) [
  | inl e ↦ inr (ap symbol (eqb-true k 5 e))
  | inr e ↦ inl (h (after_sign (k == 5) e))
]
parted finish t f h = absurd f
parted bad t f h = absurd f

-- ---- the tokens, each with the blanks after it

abbrev pub chunks : List Mark → List Chunk
chunks [] = []
chunks (m ∷ []) = chunk m.face (layouts.gap (last_of m.face) finish) ∷ []
chunks (m ∷ n ∷ ms) = chunk m.face (layouts.gap (last_of m.face) n.face) ∷ chunks (n ∷ ms)

pub chunks_faces : (ms : List Mark) → map face_of (chunks ms) ≡ mark_faces ms
chunks_faces [] = refl
chunks_faces (m ∷ []) = refl
chunks_faces (m ∷ n ∷ ms) = ap (λ (xs : List Lexeme). m.face ∷ xs) (chunks_faces (n ∷ ms))

pub chunks_spaced : (ms : List Mark) → AllFine (mark_faces ms) → Spaced (chunks ms)
chunks_spaced [] f = tt
chunks_spaced (m ∷ []) f = (gap_blank (last_of m.face) finish, parted m.face _ f.0 (λ b. end_ok (last_of m.face) [] b), tt)
chunks_spaced (m ∷ n ∷ []) f = (gap_blank (last_of m.face) n.face, parted m.face _ f.0 (λ b. head_ok (last_of m.face) n.face _ b f.1.0), chunks_spaced (n ∷ []) f.1)
chunks_spaced (m ∷ n ∷ k ∷ ms) f = (gap_blank (last_of m.face) n.face, parted m.face _ f.0 (λ b. head_ok (last_of m.face) n.face _ b f.1.0), chunks_spaced (n ∷ k ∷ ms) f.1)

-- ---- the text

abbrev ended : List Mark → List Mark
ended front = front ++ plain finish ∷ []

abbrev rest_text : Last → List Mark → List ℕ
rest_text last [] = []
rest_text last (m ∷ ms) = (layouts.gap last m.face ++ lexeme_text m.face) ++ rest_text (last_of m.face) ms

puts_text : (ms : List Mark) (s : State) → (fold put s ms).text ≡ s.text ++ rest_text s.last ms
puts_text [] s = sym (append-nil s.text)
puts_text (m ∷ ms) s = puts_text ms (put s m) ∙ ap (λ (w : List ℕ). w ++ rest_text (last_of m.face) ms) (append_assoc s.text (layouts.gap s.last m.face) (lexeme_text m.face)) ∙ append_assoc s.text (layouts.gap s.last m.face ++ lexeme_text m.face) (rest_text (last_of m.face) ms)

rest_is : (last : Last) (m : Mark) (ms : List Mark) → rest_text last (ended (m ∷ ms)) ≡ layouts.gap last m.face ++ text_of (chunks (m ∷ ms))
rest_is last m [] =
    let g : List ℕ = layouts.gap (last_of m.face) finish in
    append_assoc (layouts.gap last m.face) (lexeme_text m.face) ((g ++ []) ++ []) ∙ ap (λ (w : List ℕ). layouts.gap last m.face ++ (lexeme_text m.face ++ w)) (append-nil (g ++ []))
rest_is last m (n ∷ ms) =
    append_assoc (layouts.gap last m.face) (lexeme_text m.face) (rest_text (last_of m.face) (ended (n ∷ ms))) ∙ ap (λ (w : List ℕ). layouts.gap last m.face ++ (lexeme_text m.face ++ w)) (rest_is (last_of m.face) n ms)

pub layout_is : (m : Mark) (ms : List Mark) → layouts.layout (ended (m ∷ ms)) ≡ text_of (chunks (m ∷ ms))
layout_is m ms = puts_text (ended (m ∷ ms)) layouts.start ∙ rest_is lasts.Begin m ms
