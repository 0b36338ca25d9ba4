-- The text of a tree as lexemes with the blanks after them, which are those that the grammar gives it.
use Rattle.std.proofs.Common.{◌≡◌, ℕ, ◌<◌, ◌≤◌, ◌^◌, List, [], ◌∷◌, ◌++◌, map, true, None, refl, sym, ap, ◌∙◌, append_assoc, arith, inl, inr}
use Rattle.std.specs.Prelude.{codes, nat_le}
use Rattle.std.specs.List.{AllByRecursion}
use Rattle.std.specs.Fmt.{decimal}
use Rattle.std.proofs.lemmas.Bool.Decides.{nat_tests}
use Rattle.std.proofs.lemmas.List.{map-append}
use Rattle.sn_text_rules.specs.Tokens.{Lexeme, word, number, symbol, finish, Mark, plain, mark_face, mark_faces}
use Rattle.sn_text_rules.specs.Rules.{kept, items_spelled, fit_from}
use Rattle.sn_text_rules.specs.Words.{in_range, never}
use Rattle.sn_text.proofs.Lexemes.{AllFine}
use Rattle.sn_text.proofs.Chunks.{Chunk, chunk, text_of, face_of, Spaced}
use Rattle.sn_tree_space.specs.declared.node.Node.{Node}
use Rattle.sn_tree_space.specs.declared.node.Node.TheVariants.{Expand, Bound, Broken, Chosen}
use Rattle.sn_plan_grammar.specs.TreeGrammar.{node_rule, nodes_rule, tree_rule}
use Rattle.sn_tree_text.specs.Printing.{node_text, nodes_text, tree_text, IsSmall}
use Rattle.sn_base.proofs.Tests.{at_most}

abbrev space : List ℕ
space = 32 ∷ []

abbrev line_end : List ℕ
line_end = 10 ∷ []

-- ---- the text

abbrev line_chunks : List ℕ → ℕ → List Chunk → List Chunk
line_chunks letter n later = chunk (word letter) space ∷ chunk (number n) line_end ∷ later

abbrev pub node_chunks : Node → List Chunk → List Chunk
node_chunks (Expand bound) later = line_chunks (codes "E") bound later
node_chunks (Bound bound) later = line_chunks (codes "B") bound later
node_chunks Broken later = chunk (word (codes "X")) line_end ∷ later
node_chunks (Chosen cost) later = line_chunks (codes "P") cost later

abbrev pub nodes_chunks : List Node → List Chunk → List Chunk
nodes_chunks [] later = later
nodes_chunks (n ∷ ns) later = node_chunks n (nodes_chunks ns later)

abbrev last : List Chunk
last = chunk (word (codes "done")) line_end ∷ []

abbrev pub tree_chunks : ℕ → List Node → List Chunk
tree_chunks cost ns = chunk (word (codes "cost")) space ∷ chunk (number cost) [] ∷ chunk (symbol 2) line_end ∷ chunk (word (codes "tree")) line_end ∷ nodes_chunks ns last

three : (a b c t : List ℕ) → (a ++ b ++ c) ++ t ≡ a ++ (b ++ (c ++ t))
three a b c t = append_assoc (a ++ b) c t ∙ append_assoc a b (c ++ t)

node_is : (n : Node) (later : List Chunk) → text_of (node_chunks n later) ≡ node_text n ++ text_of later
node_is (Expand b) later = sym (three (codes "E ") (decimal b) (codes "\n") (text_of later))
node_is (Bound b) later = sym (three (codes "B ") (decimal b) (codes "\n") (text_of later))
node_is Broken later = refl
node_is (Chosen b) later = sym (three (codes "P ") (decimal b) (codes "\n") (text_of later))

nodes_are : (ns : List Node) (later : List Chunk) → text_of (nodes_chunks ns later) ≡ nodes_text ns ++ text_of later
nodes_are [] later = refl
nodes_are (n ∷ ns) later = node_is n (nodes_chunks ns later) ∙ ap (λ (w : List ℕ). node_text n ++ w) (nodes_are ns later) ∙ sym (append_assoc (node_text n) (nodes_text ns) (text_of later))

pub tree_is : (cost : ℕ) (ns : List Node) → text_of (tree_chunks cost ns) ≡ tree_text cost (nodes_text ns)
tree_is cost ns =
    let front : List ℕ = codes "cost " in
    let middle : List ℕ = codes ";\ntree\n" in
    let end : List ℕ = codes "done\n" in
    ap (λ (w : List ℕ). front ++ (decimal cost ++ (middle ++ w))) (nodes_are ns last)
    ∙ sym (append_assoc ((front ++ decimal cost) ++ middle) (nodes_text ns) end ∙ three front (decimal cost) middle (nodes_text ns ++ end))

-- ---- blanks

nodes_spaced : (ns : List Node) (later : List Chunk) → Spaced later → Spaced (nodes_chunks ns later)
nodes_spaced [] later s = s
nodes_spaced (Expand b ∷ ns) later s = ((inl refl, tt), inl (refl, refl, refl), ((inr refl, tt), inl (refl, refl, refl), nodes_spaced ns later s))
nodes_spaced (Bound b ∷ ns) later s = ((inl refl, tt), inl (refl, refl, refl), ((inr refl, tt), inl (refl, refl, refl), nodes_spaced ns later s))
nodes_spaced (Broken ∷ ns) later s = ((inr refl, tt), inl (refl, refl, refl), nodes_spaced ns later s)
nodes_spaced (Chosen b ∷ ns) later s = ((inl refl, tt), inl (refl, refl, refl), ((inr refl, tt), inl (refl, refl, refl), nodes_spaced ns later s))

pub tree_spaced : (cost : ℕ) (ns : List Node) → Spaced (tree_chunks cost ns)
tree_spaced cost ns = (
  (inl refl, tt),
  inl (refl, refl, refl),
  (tt, inl (refl, refl, refl), ((inr refl, tt), inl (refl, refl, refl), ((inr refl, tt), inl (refl, refl, refl), nodes_spaced ns last ((inr refl, tt), inl (refl, refl, refl), tt)))),
)

-- ---- lexemes

nodes_fine : (ns : List Node) (later : List Chunk) → AllByRecursion IsSmall ns → AllFine (map face_of later) → AllFine (map face_of (nodes_chunks ns later))
nodes_fine [] later s f = f
nodes_fine (Expand b ∷ ns) later s f = ((refl, refl, (refl, tt)), (s.0, nodes_fine ns later s.1 f))
nodes_fine (Bound b ∷ ns) later s f = ((refl, refl, (refl, tt)), (s.0, nodes_fine ns later s.1 f))
nodes_fine (Broken ∷ ns) later s f = ((refl, refl, (refl, tt)), nodes_fine ns later s.1 f)
nodes_fine (Chosen b ∷ ns) later s f = ((refl, refl, (refl, tt)), (s.0, nodes_fine ns later s.1 f))

pub tree_fine : (cost : ℕ) (ns : List Node) → cost < 2 ^ 64 → AllByRecursion IsSmall ns → AllFine (map face_of (tree_chunks cost ns))
tree_fine cost ns c s = (
  (refl, refl, (refl, (refl, (refl, (refl, tt))))),
  (c, (omega arith, ((refl, refl, (refl, (refl, (refl, (refl, tt))))), nodes_fine ns last s ((refl, refl, (refl, (refl, (refl, (refl, tt))))), tt)))),
)

-- ---- what the grammar gives the tree

faces_append : (xs ys : List Mark) (zs : List Lexeme) → mark_faces (xs ++ ys) ++ zs ≡ mark_faces xs ++ (mark_faces ys ++ zs)
faces_append xs ys zs = ap (λ (l : List Lexeme). l ++ zs) (map-append mark_face xs ys) ∙ append_assoc (mark_faces xs) (mark_faces ys) zs

node_faces : (n : Node) (later : List Chunk) → mark_faces (node_rule.spell n) ++ map face_of later ≡ map face_of (node_chunks n later)
unfolding node_rule
node_faces (Expand b) later = refl
node_faces (Bound b) later = refl
node_faces Broken later = refl
node_faces (Chosen b) later = refl

items_faces : (ns : List Node) (later : List Chunk) → mark_faces (items_spelled node_rule.spell ns) ++ map face_of later ≡ map face_of (nodes_chunks ns later)
items_faces [] later = refl
items_faces (n ∷ ns) later =
    faces_append (node_rule.spell n) (items_spelled node_rule.spell ns) (map face_of later) ∙ ap (λ (l : List Lexeme). mark_faces (node_rule.spell n) ++ l) (items_faces ns later)
    ∙ node_faces n (nodes_chunks ns later)

abbrev closes : List Mark
closes = plain (word (codes "done")) ∷ []

abbrev stops : List Mark
stops = plain finish ∷ []

nodes_faces : (ns : List Node) → mark_faces ((nodes_rule.spell ns ++ closes) ++ stops) ≡ map face_of (nodes_chunks ns last) ++ finish ∷ []
unfolding nodes_rule
nodes_faces ns =
    map-append mark_face (items_spelled node_rule.spell ns ++ closes) stops
    ∙ ap (λ (l : List Lexeme). l ++ finish ∷ []) (map-append mark_face (items_spelled node_rule.spell ns) closes ∙ items_faces ns last)

pub tree_faces : (cost : ℕ) (ns : List Node) → mark_faces (tree_rule.spell (cost, ns)) ≡ map face_of (tree_chunks cost ns) ++ finish ∷ []
unfolding tree_rule
tree_faces cost ns = ap (λ (l : List Lexeme). word (codes "cost") ∷ number cost ∷ symbol 2 ∷ word (codes "tree") ∷ l) (nodes_faces ns)

-- ---- ranges

number_fits : (n : ℕ) → n < 2 ^ 64 → in_range 0 18446744073709551615 n ≡ None
number_fits n h = rw (at_most 0 n (omega arith), at_most n 18446744073709551615 (omega arith)) refl

node_fits : (n : Node) → IsSmall n → node_rule.fits kept n
unfolding node_rule
node_fits (Expand b) h = (tt, number_fits b h)
node_fits (Bound b) h = (tt, number_fits b h)
node_fits Broken h = tt
node_fits (Chosen b) h = (tt, number_fits b h)

nodes_fit : (seen ns : List Node) → AllByRecursion IsSmall ns → fit_from never (λ (s : List Node). node_rule) kept seen ns
nodes_fit seen [] h = tt
nodes_fit seen (n ∷ ns) h = (refl, node_fits n h.0, nodes_fit (seen ++ n ∷ []) ns h.1)

all_fit : (ns : List Node) → AllByRecursion IsSmall ns → nodes_rule.fits kept ns
unfolding nodes_rule
all_fit ns h = nodes_fit [] ns h

pub tree_fits : (cost : ℕ) (ns : List Node) → cost < 2 ^ 64 → AllByRecursion IsSmall ns → tree_rule.fits kept (cost, ns)
unfolding tree_rule
tree_fits cost ns c h = (tt, ((number_fits cost c, tt), (tt, ((all_fit ns h, tt), tt))))
