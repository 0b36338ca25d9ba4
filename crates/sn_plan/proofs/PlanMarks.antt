-- The lexemes that the grammar gives a plan are those of its chunks.
use Rattle.std.proofs.Common.{◌≡◌, ℕ, List, [], ◌∷◌, ◌++◌, map, Bool, true, false, Option, Some, None, refl, sym, ap, ◌∙◌, append_assoc}
use Rattle.std.specs.Prelude.{codes}
use Rattle.std.proofs.lemmas.List.{map-append, append-nil}
use Rattle.sn_text_rules.specs.declared.Flaw.TheVariants.{Expected}
use Rattle.sn_text_rules.specs.Tokens.{Lexeme, word, number, symbol, finish, Mark, plain, mark_face, mark_faces}
use Rattle.sn_text_rules.specs.Rules.{Rule, kept, items_spelled, fit_from, holds_of}
use Rattle.sn_text_rules.specs.Words.{sign, number_in, full, ◌▸◌}
use Rattle.sn_plan_grammar.specs.declared.plan.Plan.{Plan}
use Rattle.sn_plan_grammar.specs.declared.plan.Entry.{Entry}
use Rattle.sn_plan_grammar.specs.declared.plan.Piece.{Piece}
use Rattle.sn_plan_grammar.specs.Grammar.{numbers, both_rule, sizes_rule, piece_rule, pieces_rule, entry_rule, entries_rule, plan_rule, file_rule}
use Rattle.sn_text.proofs.Chunks.{Chunk, chunk, face_of}
use Rattle.sn_plan.proofs.PlanChunks.{space, line_end, further_chunks, list_chunks, sizes_chunks, piece_chunks, pieces_chunks, entry_chunks, entries_chunks, plan_chunks}

faces_append : (xs ys : List Mark) (zs : List Lexeme) → mark_faces (xs ++ ys) ++ zs ≡ mark_faces xs ++ (mark_faces ys ++ zs)
faces_append xs ys zs = ap (λ (l : List Lexeme). l ++ zs) (map-append mark_face xs ys) ∙ append_assoc (mark_faces xs) (mark_faces ys) zs

-- ---- lists

further_faces : (low high n : ℕ) (ms g : List ℕ) (later : List Chunk)
    → number n ∷ (mark_faces (items_spelled (sign 3 ▸ number_in low high).spell ms) ++ map face_of later) ≡ map face_of (further_chunks n ms g later)
further_faces low high n [] g later = refl
further_faces low high n (m ∷ ms) g later = ap (λ (l : List Lexeme). number n ∷ symbol 3 ∷ l) (further_faces low high m ms g later)

some_faces : (limit low high n : ℕ) (ns g : List ℕ) (later : List Chunk) → mark_faces ((numbers limit low high).spell (n ∷ ns)) ++ map face_of later ≡ map face_of (further_chunks n ns g later)
unfolding numbers
some_faces limit low high n ns g later = further_faces low high n ns g later

list_faces : (limit low high : ℕ) (ns : List ℕ) (later : List Chunk) → mark_faces ((numbers limit low high).spell ns) ++ map face_of later ≡ map face_of (list_chunks ns [] later)
unfolding numbers
list_faces limit low high [] later = refl
list_faces limit low high (n ∷ ns) later = further_faces low high n ns [] later

-- ---- pieces

both_faces : (s : ℕ) (ss stages : List ℕ) (later : List Chunk)
    → mark_faces (both_rule.spell (s ∷ ss, stages)) ++ map face_of later ≡ word (codes "slots") ∷ map face_of (further_chunks s ss space (chunk (word (codes "stages")) space ∷ list_chunks stages [] later))
unfolding both_rule
both_faces s ss stages later =
    let front : List Mark = (numbers 2 1 65536).spell (s ∷ ss) in
    let back : List Mark = plain (word (codes "stages")) ∷ (numbers 8 0 31).spell stages in
    ap (λ (l : List Lexeme). word (codes "slots") ∷ l)
    (faces_append front back (map face_of later)
    ∙ ap (λ (l : List Lexeme). mark_faces front ++ (word (codes "stages") ∷ l)) (list_faces 8 0 31 stages later)
    ∙ some_faces 2 1 65536 s ss space (chunk (word (codes "stages")) space ∷ list_chunks stages [] later))

sizes_faces : (cut : ℕ) (slots stages : List ℕ) (later : List Chunk) → sizes_rule.fits kept (slots, stages)
    → number cut ∷ (mark_faces (sizes_rule.spell (slots, stages)) ++ map face_of later) ≡ map face_of (sizes_chunks cut slots stages later)
unfolding sizes_rule
sizes_faces cut [] [] later f = refl
sizes_faces cut [] (t ∷ ts) later f = absurd f
sizes_faces cut (s ∷ ss) [] later f = absurd f
sizes_faces cut (s ∷ ss) (t ∷ ts) later f = ap (λ (l : List Lexeme). number cut ∷ l) (both_faces s ss (t ∷ ts) later)

piece_faces : (p : Piece) (later : List Chunk) → piece_rule.fits kept p → mark_faces (piece_rule.spell p) ++ map face_of later ≡ map face_of (piece_chunks p later)
unfolding piece_rule
piece_faces p later f =
    let sizes : List Mark = sizes_rule.spell (p.slots, p.stages) in
    ap (λ (l : List Lexeme). word (codes "piece") ∷ number p.level ∷ number p.branch ∷ word (codes "cut") ∷ number p.cut ∷ l) (faces_append sizes (plain (symbol 2) ∷ []) (map face_of later))
    ∙ ap (λ (l : List Lexeme). word (codes "piece") ∷ number p.level ∷ number p.branch ∷ word (codes "cut") ∷ l) (sizes_faces p.cut p.slots p.stages (chunk (symbol 2) line_end ∷ later) f.1.1.1.1.1.0)

pieces_faces : (seen ps : List Piece) (later : List Chunk) → fit_from (full 8 Expected) (λ s. piece_rule) kept seen ps
    → mark_faces (items_spelled piece_rule.spell ps) ++ map face_of later ≡ map face_of (pieces_chunks ps later)
pieces_faces seen [] later f = refl
pieces_faces seen (p ∷ ps) later f =
    faces_append (piece_rule.spell p) (items_spelled piece_rule.spell ps) (map face_of later)
    ∙ ap (λ (l : List Lexeme). mark_faces (piece_rule.spell p) ++ l) (pieces_faces (seen ++ p ∷ []) ps later f.2)
    ∙ piece_faces p (pieces_chunks ps later) f.1

-- ---- entries

entry_faces : (e : Entry) (later : List Chunk) → entry_rule.fits kept e → mark_faces (entry_rule.spell e) ++ map face_of later ≡ map face_of (entry_chunks e later)
unfolding entry_rule pieces_rule
entry_faces e later f =
    let levels : List Mark = (numbers 4 0 128).spell e.levels in
    let pieces : List Mark = items_spelled piece_rule.spell e.pieces in
    ap (λ (l : List Lexeme). word (codes "query") ∷ word e.name ∷ word (codes "path") ∷ l)
    (faces_append (levels ++ plain (symbol 2) ∷ []) pieces (map face_of later)
    ∙ faces_append levels (plain (symbol 2) ∷ []) (mark_faces pieces ++ map face_of later)
    ∙ ap (λ (l : List Lexeme). mark_faces levels ++ (symbol 2 ∷ l)) (pieces_faces [] e.pieces later f.1.1.1.1)
    ∙ list_faces 4 0 128 e.levels (chunk (symbol 2) line_end ∷ pieces_chunks e.pieces later))

entries_faces : (seen es : List Entry) → fit_from (full 8 Expected) (λ s. entry_rule) kept seen es → mark_faces (items_spelled entry_rule.spell es) ≡ map face_of (entries_chunks es)
entries_faces seen [] f = refl
entries_faces seen (e ∷ es) f =
    map-append mark_face (entry_rule.spell e) (items_spelled entry_rule.spell es)
    ∙ ap (λ (l : List Lexeme). mark_faces (entry_rule.spell e) ++ l) (entries_faces (seen ++ e ∷ []) es f.2)
    ∙ entry_faces e (entries_chunks es) f.1

all_entries_faces : (es : List Entry) → entries_rule.fits kept es → mark_faces (entries_rule.spell es) ≡ map face_of (entries_chunks es)
unfolding entries_rule
all_entries_faces [] f = absurd f
all_entries_faces (e ∷ es) f =
    map-append mark_face (entry_rule.spell e) (items_spelled entry_rule.spell es)
    ∙ ap (λ (l : List Lexeme). mark_faces (entry_rule.spell e) ++ l) (entries_faces (e ∷ []) es f.1)
    ∙ entry_faces e (entries_chunks es) f.0

pub plan_faces : (p : Plan) → plan_rule.fits kept p → mark_faces (plan_rule.spell p) ≡ map face_of (plan_chunks p)
unfolding plan_rule
plan_faces p f = ap (λ (l : List Lexeme). word (codes "plan") ∷ l) (all_entries_faces p.entries f.1)

-- ---- values hold no lines

numbers_bare : (limit low high : ℕ) (ns : List ℕ) → (numbers limit low high).bare ns ≡ ns
unfolding numbers
numbers_bare limit low high [] = refl
numbers_bare limit low high (n ∷ ns) = ap (λ (l : List ℕ). n ∷ l) (numbers_bare limit low high ns)

both_bare : (slots stages : List ℕ) → both_rule.bare (slots, stages) ≡ (slots, stages)
unfolding both_rule
both_bare slots stages = let a = numbers_bare 2 1 65536 slots in let b = numbers_bare 8 0 31 stages in rw (a, b) refl

sizes_bare : (slots stages : List ℕ) → sizes_rule.bare (slots, stages) ≡ (slots, stages)
unfolding sizes_rule
sizes_bare [] [] = refl
sizes_bare [] (t ∷ ts) = refl
sizes_bare (s ∷ ss) [] = refl
sizes_bare (s ∷ ss) (t ∷ ts) = both_bare (s ∷ ss) (t ∷ ts)

piece_bare : (p : Piece) → piece_rule.bare p ≡ p
unfolding piece_rule
piece_bare p = let e = sizes_bare p.slots p.stages in rw e refl

pieces_bare : (ps : List Piece) → map piece_rule.bare ps ≡ ps
pieces_bare [] = refl
pieces_bare (p ∷ ps) = let a = piece_bare p in let b = pieces_bare ps in rw (a, b) refl

entry_bare : (e : Entry) → entry_rule.bare e ≡ e
unfolding entry_rule pieces_rule
entry_bare e = let a = numbers_bare 4 0 128 e.levels in let b = pieces_bare e.pieces in rw (a, b) refl

entries_bare : (es : List Entry) → map entry_rule.bare es ≡ es
entries_bare [] = refl
entries_bare (e ∷ es) = let a = entry_bare e in let b = entries_bare es in rw (a, b) refl

pub plan_bare : (p : Plan) → plan_rule.bare p ≡ p
unfolding plan_rule entries_rule
plan_bare p = let a = entries_bare p.entries in rw a refl
