-- The text of a plan as lexemes with the blanks after them.
use Rattle.std.proofs.Common.{◌≡◌, ℕ, List, [], ◌∷◌, ◌++◌, map, refl, sym, ap, ◌∙◌, append_assoc, inl, inr, ◌⊎◌}
use Rattle.std.specs.Prelude.{codes}
use Rattle.std.specs.Fmt.{decimal}
use Rattle.std.proofs.lemmas.List.{append-nil}
use Rattle.sn_text_rules.specs.Tokens.{Lexeme, word, number, symbol}
use Rattle.sn_text.specs.Writing.{lexeme_text}
use Rattle.sn_text.proofs.Symbols.{HeadOk}
use Rattle.sn_text.proofs.Chunks.{Chunk, chunk, text_of, Blank, Spaced}
use Rattle.sn_plan_grammar.specs.declared.plan.Plan.{Plan}
use Rattle.sn_plan_grammar.specs.declared.plan.Entry.{Entry}
use Rattle.sn_plan_grammar.specs.declared.plan.Piece.{Piece}
use Rattle.sn_plan.specs.Printing.{texts, next_text, list_text, sizes_text, piece_text, entry_text, plan_text}

abbrev pub space : List ℕ
space = 32 ∷ []

abbrev pub line_end : List ℕ
line_end = 10 ∷ []

-- ---- lists

-- a number and further ones, with these blanks after the last
abbrev pub further_chunks : ℕ → List ℕ → List ℕ → List Chunk → List Chunk
further_chunks n [] g later = chunk (number n) g ∷ later
further_chunks n (m ∷ ms) g later = chunk (number n) [] ∷ chunk (symbol 3) space ∷ further_chunks m ms g later

abbrev pub list_chunks : List ℕ → List ℕ → List Chunk → List Chunk
list_chunks [] g later = later
list_chunks (n ∷ ns) g later = further_chunks n ns g later

pub further_text : (n : ℕ) (ms g : List ℕ) (later : List Chunk) → text_of (further_chunks n ms g later) ≡ (decimal n ++ texts next_text ms) ++ (g ++ text_of later)
further_text n [] g later = ap (λ (w : List ℕ). w ++ (g ++ text_of later)) (sym (append-nil (decimal n)))
further_text n (m ∷ ms) g later =
    let rest : List ℕ = g ++ text_of later in
    ap (λ (w : List ℕ). decimal n ++ (codes ", " ++ w)) (further_text m ms g later)
    ∙ ap (λ (w : List ℕ). decimal n ++ (codes ", " ++ w)) (append_assoc (decimal m) (texts next_text ms) rest)
    ∙ sym (append_assoc (decimal n) (next_text m ++ texts next_text ms) rest ∙ ap (λ (w : List ℕ). decimal n ++ w) (append_assoc (next_text m) (texts next_text ms) rest))

pub list_is : (ns : List ℕ) (later : List Chunk) → text_of (list_chunks ns [] later) ≡ list_text ns ++ text_of later
list_is [] later = refl
list_is (n ∷ ns) later = further_text n ns [] later

-- ---- pieces

-- the cut, and the sizes and stages after it
abbrev pub sizes_chunks : ℕ → List ℕ → List ℕ → List Chunk → List Chunk
sizes_chunks cut [] stages later = chunk (number cut) [] ∷ later
sizes_chunks cut (s ∷ ss) stages later = chunk (number cut) space ∷ chunk (word (codes "slots")) space ∷ further_chunks s ss space (chunk (word (codes "stages")) space ∷ list_chunks stages [] later)

pub sizes_is : (cut : ℕ) (slots stages : List ℕ) (later : List Chunk) → text_of (sizes_chunks cut slots stages later) ≡ decimal cut ++ (sizes_text slots stages ++ text_of later)
sizes_is cut [] stages later = refl
sizes_is cut (s ∷ ss) stages later =
    let list : List ℕ = decimal s ++ texts next_text ss in
    let middle : List ℕ = codes " stages " in
    ap (λ (w : List ℕ). decimal cut ++ (codes " slots " ++ w))
    (further_text s ss space (chunk (word (codes "stages")) space ∷ list_chunks stages [] later)
    ∙ ap (λ (w : List ℕ). list ++ (middle ++ w)) (list_is stages later)
    ∙ sym (append_assoc list middle (list_text stages ++ text_of later))
    ∙ sym (append_assoc (list ++ middle) (list_text stages) (text_of later)))

abbrev pub piece_chunks : Piece → List Chunk → List Chunk
piece_chunks p later =
    chunk (word (codes "piece")) space ∷ chunk (number p.level) space ∷ chunk (number p.branch) space ∷ chunk (word (codes "cut")) space
    ∷ sizes_chunks p.cut p.slots p.stages (chunk (symbol 2) line_end ∷ later)

eight : (a b c d e f g h t : List ℕ) → (((((((a ++ b) ++ c) ++ d) ++ e) ++ f) ++ g) ++ h) ++ t ≡ a ++ (b ++ (c ++ (d ++ (e ++ (f ++ (g ++ (h ++ t)))))))
eight a b c d e f g h t =
    append_assoc ((((((a ++ b) ++ c) ++ d) ++ e) ++ f) ++ g) h t
    ∙ append_assoc (((((a ++ b) ++ c) ++ d) ++ e) ++ f) g (h ++ t)
    ∙ append_assoc ((((a ++ b) ++ c) ++ d) ++ e) f (g ++ (h ++ t))
    ∙ append_assoc (((a ++ b) ++ c) ++ d) e (f ++ (g ++ (h ++ t)))
    ∙ append_assoc ((a ++ b) ++ c) d (e ++ (f ++ (g ++ (h ++ t))))
    ∙ append_assoc (a ++ b) c (d ++ (e ++ (f ++ (g ++ (h ++ t)))))
    ∙ append_assoc a b (c ++ (d ++ (e ++ (f ++ (g ++ (h ++ t))))))

pub piece_is : (p : Piece) (later : List Chunk) → text_of (piece_chunks p later) ≡ piece_text p ++ text_of later
piece_is p later =
    ap (λ (w : List ℕ). codes "piece " ++ (decimal p.level ++ (codes " " ++ (decimal p.branch ++ (codes " cut " ++ w))))) (sizes_is p.cut p.slots p.stages (chunk (symbol 2) line_end ∷ later))
    ∙ sym (eight (codes "piece ") (decimal p.level) (codes " ") (decimal p.branch) (codes " cut ") (decimal p.cut) (sizes_text p.slots p.stages) (codes ";\n") (text_of later))

abbrev pub pieces_chunks : List Piece → List Chunk → List Chunk
pieces_chunks [] later = later
pieces_chunks (p ∷ ps) later = piece_chunks p (pieces_chunks ps later)

pub pieces_are : (ps : List Piece) (later : List Chunk) → text_of (pieces_chunks ps later) ≡ texts piece_text ps ++ text_of later
pieces_are [] later = refl
pieces_are (p ∷ ps) later =
    piece_is p (pieces_chunks ps later) ∙ ap (λ (w : List ℕ). piece_text p ++ w) (pieces_are ps later) ∙ sym (append_assoc (piece_text p) (texts piece_text ps) (text_of later))

-- ---- entries

abbrev pub entry_chunks : Entry → List Chunk → List Chunk
entry_chunks e later =
    chunk (word (codes "query")) space ∷ chunk (word e.name) space ∷ chunk (word (codes "path")) space ∷ list_chunks e.levels [] (chunk (symbol 2) line_end ∷ pieces_chunks e.pieces later)

six : (a b c d e f t : List ℕ) → (((((a ++ b) ++ c) ++ d) ++ e) ++ f) ++ t ≡ a ++ (b ++ (c ++ (d ++ (e ++ (f ++ t)))))
six a b c d e f t =
    append_assoc ((((a ++ b) ++ c) ++ d) ++ e) f t
    ∙ append_assoc (((a ++ b) ++ c) ++ d) e (f ++ t)
    ∙ append_assoc ((a ++ b) ++ c) d (e ++ (f ++ t))
    ∙ append_assoc (a ++ b) c (d ++ (e ++ (f ++ t)))
    ∙ append_assoc a b (c ++ (d ++ (e ++ (f ++ t))))

pub entry_is : (e : Entry) (later : List Chunk) → text_of (entry_chunks e later) ≡ entry_text e ++ text_of later
entry_is e later =
    ap (λ (w : List ℕ). codes "query " ++ (e.name ++ (codes " path " ++ w)))
    (list_is e.levels (chunk (symbol 2) line_end ∷ pieces_chunks e.pieces later)
    ∙ ap (λ (w : List ℕ). list_text e.levels ++ (codes ";\n" ++ w)) (pieces_are e.pieces later))
    ∙ sym (six (codes "query ") e.name (codes " path ") (list_text e.levels) (codes ";\n") (texts piece_text e.pieces) (text_of later))

abbrev pub entries_chunks : List Entry → List Chunk
entries_chunks [] = []
entries_chunks (e ∷ es) = entry_chunks e (entries_chunks es)

pub entries_are : (es : List Entry) → text_of (entries_chunks es) ≡ texts entry_text es
entries_are [] = refl
entries_are (e ∷ es) = entry_is e (entries_chunks es) ∙ ap (λ (w : List ℕ). entry_text e ++ w) (entries_are es)

abbrev pub plan_chunks : Plan → List Chunk
plan_chunks p = chunk (word (codes "plan")) line_end ∷ entries_chunks p.entries

pub plan_is : (p : Plan) → text_of (plan_chunks p) ≡ plan_text p
plan_is p = ap (λ (w : List ℕ). codes "plan\n" ++ w) (entries_are p.entries)

-- ---- blanks

further_spaced : (n : ℕ) (ms g : List ℕ) (later : List Chunk) → Blank g → HeadOk (g ++ text_of later) → Spaced later → Spaced (further_chunks n ms g later)
further_spaced n [] g later b h s = (b, inl h, s)
further_spaced n (m ∷ ms) g later b h s = (tt, inl (refl, refl, refl), ((inl refl, tt), inl (refl, refl, refl), further_spaced m ms g later b h s))

list_spaced : (ns : List ℕ) (later : List Chunk) → HeadOk (text_of later) → Spaced later → Spaced (list_chunks ns [] later)
list_spaced [] later h s = s
list_spaced (n ∷ ns) later h s = further_spaced n ns [] later tt h s

sizes_spaced : (cut : ℕ) (slots stages : List ℕ) (later : List Chunk) → HeadOk (text_of later) → Spaced later → Spaced (sizes_chunks cut slots stages later)
sizes_spaced cut [] stages later h s = (tt, inl h, s)
sizes_spaced cut (n ∷ ns) stages later h s = (
  (inl refl, tt),
  inl (refl, refl, refl),
  (
    (inl refl, tt),
    inl (refl, refl, refl),
    further_spaced n ns space (chunk (word (codes "stages")) space ∷ list_chunks stages [] later) (inl refl, tt) (refl, refl, refl)
        ((inl refl, tt), inl (refl, refl, refl), list_spaced stages later h s),
  ),
)

piece_spaced : (p : Piece) (later : List Chunk) → Spaced later → Spaced (piece_chunks p later)
piece_spaced p later s = (
  (inl refl, tt),
  inl (refl, refl, refl),
  (
    (inl refl, tt),
    inl (refl, refl, refl),
    (
      (inl refl, tt),
      inl (refl, refl, refl),
      (
        (inl refl, tt),
        inl (refl, refl, refl),
        sizes_spaced p.cut p.slots p.stages (chunk (symbol 2) line_end ∷ later) (refl, refl, refl) ((inr refl, tt), inl (refl, refl, refl), s),
      ),
    ),
  ),
)

pieces_spaced : (ps : List Piece) (later : List Chunk) → Spaced later → Spaced (pieces_chunks ps later)
pieces_spaced [] later s = s
pieces_spaced (p ∷ ps) later s = piece_spaced p (pieces_chunks ps later) (pieces_spaced ps later s)

entries_spaced : (es : List Entry) → Spaced (entries_chunks es)
entries_spaced [] = tt
entries_spaced (e ∷ es) = (
  (inl refl, tt),
  inl (refl, refl, refl),
  (
    (inl refl, tt),
    inl (refl, refl, refl),
    (
      (inl refl, tt),
      inl (refl, refl, refl),
      list_spaced e.levels (chunk (symbol 2) line_end ∷ pieces_chunks e.pieces (entries_chunks es)) (refl, refl, refl)
          ((inr refl, tt), inl (refl, refl, refl), pieces_spaced e.pieces (entries_chunks es) (entries_spaced es)),
    ),
  ),
)

pub plan_spaced : (p : Plan) → Spaced (plan_chunks p)
plan_spaced p = ((inr refl, tt), inl (refl, refl, refl), entries_spaced p.entries)
