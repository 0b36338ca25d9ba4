-- A plan with its cost and its tree after it is read back as it was written.
use Rattle.std.proofs.Common.{◌≡◌, ◌⊎◌, ℕ, ◌<◌, ◌^◌, List, [], ◌∷◌, ◌++◌, map, true, Ok, refl, sym, ap, ◌∙◌, subst, append_assoc, inl, inr}
use Rattle.std.specs.Prelude.{codes}
use Rattle.std.specs.List.{AllByRecursion}
use Rattle.std.proofs.lemmas.List.{map-append}
use Rattle.sn_text_rules.specs.Tokens.{Lexeme, Tok, Spelled, finish, mark_face, mark_faces, number, plain, symbol, word}
use Rattle.sn_text_rules.specs.Rules.{Accepts, Rule, kept, pair}
use Rattle.sn_text_rules.specs.Words.{is_word}
use Rattle.sn_text_rules.proofs.Common.{Heads, spelled_append, split_spelled}
use Rattle.sn_text_rules.proofs.Words.{word_mark}
use Rattle.sn_text_rules.proofs.Laws.{Good, headed_pair}
use Rattle.sn_text.specs.Cutting.{tokens_of}
use Rattle.sn_text.specs.Writing.{lexeme_text}
use Rattle.sn_text.proofs.Chunks.{Blank, Chunk, Parts, Spaced, chunk, closed_by, face_of, read_again, text_of}
use Rattle.sn_text.proofs.Lexemes.{AllFine, Fine, fine_reads}
use Rattle.sn_text.proofs.Symbols.{HeadOk}
use Rattle.sn_plan_grammar.specs.declared.plan.Entry.{Entry}
use Rattle.sn_plan_grammar.specs.declared.plan.Piece.{Piece}
use Rattle.sn_plan_grammar.specs.declared.plan.Plan.{Plan}
use Rattle.sn_plan_grammar.specs.Grammar.{entries_rule, entry_rule, file_rule, piece_rule, pieces_rule, plan_rule}
use Rattle.sn_plan_grammar.specs.TreeGrammar.{tree_rule}
use Rattle.sn_plan_grammar.proofs.Goods.{plan_good}
use Rattle.sn_plan_grammar.proofs.TreeGoods.{tree_bare, tree_good}
use Rattle.sn_plan.specs.Printing.{plan_text}
use Rattle.sn_plan.specs.Texts as plans
use Rattle.sn_plan.proofs.PlanChunks.{entries_chunks, entry_chunks, further_chunks, line_end, list_chunks, piece_chunks, pieces_chunks, plan_chunks, plan_is, plan_spaced, sizes_chunks, space}
use Rattle.sn_plan.proofs.PlanMarks.{plan_bare, plan_faces}
use Rattle.sn_tree_space.specs.declared.node.Node.{Node}
use Rattle.sn_tree_text.specs.Printing.{IsSmall, nodes_text, tree_text}
use Rattle.sn_tree_text.specs.Texts as trees
use Rattle.sn_tree_text.proofs.Chunks.{tree_chunks, tree_faces, tree_fine, tree_fits, tree_is, tree_spaced}
use Rattle.sn_tree_text.proofs.Places.{from_start}

-- ---- lists of chunks

text_both : (cs ds : List Chunk) → text_of (cs ++ ds) ≡ text_of cs ++ text_of ds
text_both [] ds = refl
text_both (c ∷ cs) ds =
    ap (λ (w : List ℕ). lexeme_text c.face ++ (c.gap ++ w)) (text_both cs ds)
    ∙ ap (λ (w : List ℕ). lexeme_text c.face ++ w) (sym (append_assoc c.gap (text_of cs) (text_of ds)))
    ∙ sym (append_assoc (lexeme_text c.face) (c.gap ++ text_of cs) (text_of ds))

fine_both : (xs ys : List Lexeme) → AllFine xs → AllFine ys → AllFine (xs ++ ys)
fine_both [] ys f g = g
fine_both (x ∷ xs) ys f g = (f.0, fine_both xs ys f.1 g)

-- what begins with a byte begins so whatever follows
head_more : (w rest more : List ℕ) (b : ℕ) (t : List ℕ) → w ≡ b ∷ t → HeadOk (w ++ rest) → HeadOk ((w ++ rest) ++ more)
head_more [] rest more b t e h = cc
head_more (c ∷ w) rest more b t e h = h

-- the last chunk ends its line
abbrev Closes : List Chunk → Type 0
Closes [] = ⊥
Closes (c ∷ []) = c.gap ≡ line_end
Closes (c ∷ d ∷ cs) = Closes (d ∷ cs)

closes_more : (c : Chunk) (cs : List Chunk) → Closes cs → Closes (c ∷ cs)
closes_more c [] h = absurd h
closes_more c (d ∷ cs) h = h

gap_then : (g w more : List ℕ) (x : Lexeme) → Fine x → HeadOk (g ++ (lexeme_text x ++ w)) → HeadOk (g ++ ((lexeme_text x ++ w) ++ more))
gap_then [] w more x f h = let r = fine_reads x f in head_more (lexeme_text x) w more r.head r.tail r.text h
gap_then (b ∷ g) w more x f h = h

line_parts : (x : Lexeme) (g t : List ℕ) → g ≡ line_end → Parts x (g ++ t)
line_parts x g t e = inl (subst (λ (w : List ℕ). HeadOk (w ++ t)) (sym e) (refl, refl, refl))

line_blank : (g : List ℕ) → g ≡ line_end → Blank g
line_blank g e = subst Blank (sym e) (inr refl, tt)

parts_more : (x y : Lexeme) (g w more : List ℕ) → Fine y → Parts x (g ++ (lexeme_text y ++ w)) → Parts x (g ++ ((lexeme_text y ++ w) ++ more))
parts_more x y g w more f (inl h) = inl (gap_then g w more y f h)
parts_more x y g w more f (inr e) = inr e

spaced_both : (cs ds : List Chunk) → Closes cs → AllFine (map face_of cs) → Spaced cs → Spaced ds → Spaced (cs ++ ds)
spaced_both [] ds c f s t = t
spaced_both (x ∷ []) ds c f s t = (line_blank x.gap c, line_parts x.face x.gap (text_of ds) c, t)
spaced_both (x ∷ y ∷ cs) ds c f s t = (
  s.0,
  subst (λ (w : List ℕ). Parts x.face (x.gap ++ w)) (sym (text_both (y ∷ cs) ds)) (parts_more x.face y.face x.gap (y.gap ++ text_of cs) (text_of ds) f.1.0 s.1),
  spaced_both (y ∷ cs) ds c f.1 s.2 t,
)

-- ---- the chunks of a plan end a line

abbrev Ends : List Chunk → Type 0
Ends later = Closes later ⊎ (later ≡ [])

further_close : (n : ℕ) (ms g : List ℕ) (later : List Chunk) → Closes later → Closes (further_chunks n ms g later)
further_close n [] g later h = closes_more (chunk (number n) g) later h
further_close n (m ∷ ms) g later h =
    closes_more (chunk (number n) []) (chunk (symbol 3) space ∷ further_chunks m ms g later) (closes_more (chunk (symbol 3) space) (further_chunks m ms g later) (further_close m ms g later h))

list_close : (ns : List ℕ) (later : List Chunk) → Closes later → Closes (list_chunks ns [] later)
list_close [] later h = h
list_close (n ∷ ns) later h = further_close n ns [] later h

sizes_close : (cut : ℕ) (slots stages : List ℕ) (later : List Chunk) → Closes later → Closes (sizes_chunks cut slots stages later)
sizes_close cut [] stages later h = closes_more (chunk (number cut) []) later h
sizes_close cut (s ∷ ss) stages later h =
    let following : List Chunk = chunk (word (codes "stages")) space ∷ list_chunks stages [] later in
    let sizes : List Chunk = further_chunks s ss space following in
    closes_more (chunk (number cut) space) (chunk (word (codes "slots")) space ∷ sizes)
    (closes_more (chunk (word (codes "slots")) space) sizes
    (further_close s ss space following (closes_more (chunk (word (codes "stages")) space) (list_chunks stages [] later) (list_close stages later h))))

end_closes : (later : List Chunk) → Ends later → Closes (chunk (symbol 2) line_end ∷ later)
end_closes [] h = refl
end_closes (c ∷ cs) (inl h) = h
end_closes (c ∷ cs) (inr e) = cc

piece_close : (p : Piece) (later : List Chunk) → Ends later → Closes (piece_chunks p later)
piece_close p later h =
    let following : List Chunk = chunk (symbol 2) line_end ∷ later in
    closes_more (chunk (word (codes "cut")) space) (sizes_chunks p.cut p.slots p.stages following) (sizes_close p.cut p.slots p.stages following (end_closes later h))

pieces_end : (ps : List Piece) (later : List Chunk) → Ends later → Ends (pieces_chunks ps later)
pieces_end [] later h = h
pieces_end (p ∷ ps) later h = inl (piece_close p (pieces_chunks ps later) (pieces_end ps later h))

entry_close : (e : Entry) (later : List Chunk) → Ends later → Closes (entry_chunks e later)
entry_close e later h =
    let following : List Chunk = chunk (symbol 2) line_end ∷ pieces_chunks e.pieces later in
    let list : List Chunk = list_chunks e.levels [] following in
    closes_more (chunk (word (codes "path")) space) list (list_close e.levels following (end_closes (pieces_chunks e.pieces later) (pieces_end e.pieces later h)))

entries_end : (es : List Entry) → Ends (entries_chunks es)
entries_end [] = inr refl
entries_end (e ∷ es) = inl (entry_close e (entries_chunks es) (entries_end es))

plan_close : (es : List Entry) → Ends (entries_chunks es) → Closes (chunk (word (codes "plan")) line_end ∷ entries_chunks es)
plan_close es (inl h) = closes_more (chunk (word (codes "plan")) line_end) (entries_chunks es) h
plan_close es (inr e) = subst (λ (cs : List Chunk). Closes (chunk (word (codes "plan")) line_end ∷ cs)) (sym e) refl

-- ---- the text is read

abbrev whole_rule : Rule (Plan × (ℕ × List Node))
whole_rule = pair plan_rule tree_rule

abbrev whole_chunks : Plan → ℕ → List Node → List Chunk
whole_chunks p cost nodes = plan_chunks p ++ tree_chunks cost nodes

cost_follows : (t : Tok) (us : List Tok) → t.face ≡ word (codes "cost") → plan_rule.follow (t ∷ us) ≡ true
unfolding plan_rule entries_rule entry_rule pieces_rule piece_rule
cost_follows t us e = rw e refl

tree_begins : (tree : ℕ × List Node) → Heads (is_word (codes "cost")) (tree_rule.spell tree)
unfolding tree_rule
tree_begins tree = refl

whole_good : Good whole_rule
whole_good = headed_pair (is_word (codes "cost")) plan_good tree_good (λ tree f. tree_begins tree) (λ t us e. cost_follows t us ((word_mark (codes "cost")).only t.face e))

whole_faces : (p : Plan) (cost : ℕ) (nodes : List Node) → plan_rule.fits kept p → mark_faces (whole_rule.spell (p, (cost, nodes))) ≡ closed_by (whole_chunks p cost nodes)
whole_faces p cost nodes f =
    map-append mark_face (plan_rule.spell p) (tree_rule.spell (cost, nodes))
    ∙ ap (λ (xs : List Lexeme). xs ++ mark_faces (tree_rule.spell (cost, nodes))) (plan_faces p f)
    ∙ ap (λ (xs : List Lexeme). map face_of (plan_chunks p) ++ xs) (tree_faces cost nodes)
    ∙ sym (append_assoc (map face_of (plan_chunks p)) (map face_of (tree_chunks cost nodes)) (finish ∷ []))
    ∙ ap (λ (xs : List Lexeme). xs ++ finish ∷ []) (sym (map-append face_of (plan_chunks p) (tree_chunks cost nodes)))

-- the text that is written of a plan, its cost and its tree
abbrev pub written : Plan → ℕ → List Node → List ℕ
written p cost nodes = plan_text p ++ tree_text cost (nodes_text nodes)

whole_is : (p : Plan) (cost : ℕ) (nodes : List Node) → text_of (whole_chunks p cost nodes) ≡ written p cost nodes
whole_is p cost nodes = text_both (plan_chunks p) (tree_chunks cost nodes) ∙ ap (λ (w : List ℕ). w ++ text_of (tree_chunks cost nodes)) (plan_is p) ∙ ap (λ (w : List ℕ). plan_text p ++ w) (tree_is cost nodes)

cost_first : (cost : ℕ) (nodes : List Node) (t : Tok) (us : List Tok) → Spelled (t ∷ us) (tree_rule.spell (cost, nodes)) → t.face ≡ word (codes "cost")
unfolding tree_rule
cost_first cost nodes t us s = s.0.0

no_tree : (cost : ℕ) (nodes : List Node) → Spelled [] (tree_rule.spell (cost, nodes)) → ⊥
unfolding tree_rule
no_tree cost nodes s = s

file_spelled : (p : Plan) (front : List Tok) (t : Tok) → Spelled front (plan_rule.spell p) → t.face ≡ word (codes "cost") → Spelled (front ++ t ∷ []) (file_rule.spell (p, true))
unfolding file_rule
file_spelled p front t s e = spelled_append front (t ∷ []) (plan_rule.spell p) (plain (word (codes "cost")) ∷ []) s ((e, tt), tt)

file_fits : (p : Plan) → plan_rule.fits kept p → file_rule.fits kept (p, true)
unfolding file_rule
file_fits p fits = (fits, refl)

module _ (p : Plan) (cost : ℕ) (nodes : List Node) (fits : plan_rule.fits kept p) (fine : AllFine (map face_of (plan_chunks p))) (small : cost < 2 ^ 64) (all_small : AllByRecursion IsSmall nodes) where
  accepted : Accepts whole_rule (tokens_of (written p cost nodes)) (p, (cost, nodes))
  accepted =
      let chunks : List Chunk = whole_chunks p cost nodes in
      let both : AllFine (map face_of chunks) =
      subst AllFine (sym (map-append face_of (plan_chunks p) (tree_chunks cost nodes))) (fine_both (map face_of (plan_chunks p)) (map face_of (tree_chunks cost nodes)) fine (tree_fine cost nodes small all_small)) in
      let a = read_again whole_good (p, (cost, nodes)) chunks (fits, tree_fits cost nodes small all_small) (whole_faces p cost nodes fits) both
      (spaced_both (plan_chunks p) (tree_chunks cost nodes) (plan_close p.entries (entries_end p.entries)) fine (plan_spaced p) (tree_spaced cost nodes)) in
      let is : a.value ≡ (p, (cost, nodes)) = sym (whole_bare a.value) ∙ a.same ∙ whole_bare (p, (cost, nodes)) in
      subst (λ (w : List ℕ). Accepts whole_rule (tokens_of w) (p, (cost, nodes))) (whole_is p cost nodes) (subst (λ (x : Plan × (ℕ × List Node)). Accepts whole_rule (tokens_of (text_of chunks)) x) is a.accepted)
    where
      whole_bare : (x : Plan × (ℕ × List Node)) → whole_rule.bare x ≡ x
      whole_bare x = let e = plan_bare x.0 in let f = tree_bare x.1 in rw (e, f) refl

  -- it stands for the plan up to the word `cost`, and from there on for the cost and the tree
  pub read_back : (byte : ℕ) × plans.IsRead (written p cost nodes) (Ok (p, byte)) × trees.IsRead (written p cost nodes) byte (Ok (cost, nodes))
  read_back =
      let k = split_spelled (tokens_of (written p cost nodes)) (plan_rule.spell p) (tree_rule.spell (cost, nodes)) accepted.spelled in
      from_parts k.0 k.1 k.2 k.3 k.4
    where
      text : List ℕ
      text = written p cost nodes

      from_parts : (front back : List Tok) → tokens_of text ≡ front ++ back → Spelled front (plan_rule.spell p) → Spelled back (tree_rule.spell (cost, nodes))
          → (byte : ℕ) × plans.IsRead text (Ok (p, byte)) × trees.IsRead text byte (Ok (cost, nodes))
      from_parts front [] e s t = absurd (no_tree cost nodes t)
      from_parts front (at ∷ rest) e s t = (
        at.start,
        record {
          front = front;
          at = at;
          rest = rest;
          cost = true;
          parts = e ∙ sym (append_assoc front (at ∷ []) rest);
          accepted = record { spelled = file_spelled p front at s (cost_first cost nodes at rest t); fits = file_fits p fits };
          starts = refl;
        },
        subst (λ (ts : List Tok). trees.StandsFor ts cost nodes) (sym (from_start text front at rest e)) (record { spelled = t; fits = tree_fits cost nodes small all_small }),
      )
