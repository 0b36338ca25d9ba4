-- What is printed stands for the same cost and tree.
use Rattle.std.proofs.Common.{◌≡◌, ℕ, ◌<◌, ◌^◌, List, [], ◌++◌, sym, ap, subst, ◌∙◌}
use Rattle.std.specs.List.{AllByRecursion}
use Rattle.sn_text_rules.specs.Rules.{Accepts}
use Rattle.sn_text.specs.Cutting.{tokens_of}
use Rattle.sn_text.proofs.Chunks.{text_of, read_again}
use Rattle.sn_tree_space.specs.declared.node.Node.{Node}
use Rattle.sn_plan_grammar.specs.TreeGrammar.{tree_rule}
use Rattle.sn_plan_grammar.proofs.TreeGoods.{tree_good, tree_bare}
use Rattle.sn_tree_text.specs.Texts.{StandsFor}
use Rattle.sn_tree_text.specs.Printing.{nodes_text, tree_text, IsSmall}
use Rattle.sn_tree_text.proofs.Chunks.{tree_chunks, tree_is, tree_spaced, tree_fine, tree_faces, tree_fits}

stands : (cost : ℕ) (ns : List Node) → cost < 2 ^ 64 → AllByRecursion IsSmall ns → StandsFor (tokens_of (tree_text cost (nodes_text ns))) cost ns
stands cost ns c s =
    let a = read_again tree_good (cost, ns) (tree_chunks cost ns) (tree_fits cost ns c s) (tree_faces cost ns) (tree_fine cost ns c s) (tree_spaced cost ns) in
    let is = sym (tree_bare a.value) ∙ a.same ∙ tree_bare (cost, ns) in
    let same = subst (λ (x : ℕ × List Node). Accepts tree_rule (tokens_of (text_of (tree_chunks cost ns))) x) is a.accepted in
    subst (λ (w : List ℕ). Accepts tree_rule (tokens_of w) (cost, ns)) (tree_is cost ns) same

stands_again : (ns : List Node) (lines : List ℕ) → lines ≡ nodes_text ns → AllByRecursion IsSmall ns → (cost : ℕ) → cost < 2 ^ 64 → StandsFor (tokens_of (tree_text cost lines)) cost ns
stands_again ns lines e s cost c = subst (λ (w : List ℕ). StandsFor (tokens_of (tree_text cost w)) cost ns) (sym e) (stands cost ns c s)

-- the same of what the code knows
pub again_so : (ns ms : List Node) (front out lines : List ℕ) → front ≡ [] → out ≡ front ++ nodes_text ms → ms ≡ ns → lines ≡ out → AllByRecursion IsSmall ms → (cost : ℕ) → cost < 2 ^ 64 → StandsFor (tokens_of (tree_text cost lines)) cost ns
again_so ns ms front out lines f o m l s =
    stands_again ns lines (l ∙ o ∙ ap (λ (w : List ℕ). w ++ nodes_text ms) f ∙ ap nodes_text m) (subst (λ (ks : List Node). AllByRecursion IsSmall ks) m s)
