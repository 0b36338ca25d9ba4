-- Spaces that are alike accept the same trees.
use Rattle.std.proofs.Common.{ℕ, ◌≤◌, List, [], ◌∷◌, refl, sym, ◌∙◌, subst, inl, inr}
use Rattle.sn_tree.specs.Alike.{AreAlike}
use Rattle.sn_tree.proofs.AlikePlans.{same_children}
use Rattle.sn_tree_space.specs.declared.node.Node.{Node}
use Rattle.sn_tree_space.specs.declared.node.Node.TheVariants.{Expand, Bound, Chosen}
use Rattle.sn_tree_space.specs.Space.{Space, IsOneOf, children, itself, IsPartial}
use Rattle.sn_tree_space.specs.Trees.{Covers, CoverAll, IsAccepted, broken, chosen, bound, expand, none, each}
use Rattle.sn_tree_space.proofs.Partials.{child_partial}

module _ (a b : Space) (alike : AreAlike a b) (p : List ℕ) (plan : IsPartial a p) where
  mutual
    covers_alike : (q : List ℕ) (nodes : List Node) → Covers a p q nodes → IsPartial a q → Covers b p q nodes
    covers_alike _ _ (broken q is) part = broken q (sym (alike.broken q part) ∙ is)
    covers_alike _ _ chosen part = subst (λ (n : ℕ). Covers b p p (Chosen n ∷ [])) (sym (alike.lower p plan)) chosen
    covers_alike _ _ (bound q h) part =
        let more : b.lower p ≤ b.lower q = subst (λ (n : ℕ). n ≤ b.lower q) (alike.lower p plan) (subst (λ (n : ℕ). a.lower p ≤ n) (alike.lower q part) h) in
        subst (λ (n : ℕ). Covers b p q (Bound n ∷ [])) (sym (alike.lower q part)) (bound q more)
    covers_alike _ _ (expand q first count nodes e all) part =
        let below = cover_all_alike (children a q) nodes all (λ child i. child_partial a q child part i) in
        subst (λ (n : ℕ). Covers b p q (Expand n ∷ nodes)) (sym (alike.lower q part))
        (expand q first count nodes (sym (alike.follow q part) ∙ e) (subst (λ qs. CoverAll b p qs nodes) (same_children a b alike q part) below))

    cover_all_alike : (qs : List (List ℕ)) (nodes : List Node) → CoverAll a p qs nodes → ((q : List ℕ) → IsOneOf q qs → IsPartial a q) → CoverAll b p qs nodes
    cover_all_alike _ _ none parts = none
    cover_all_alike _ _ (each q qs nodes more one all) parts =
        each q qs nodes more (covers_alike q nodes one (parts q (inl refl))) (cover_all_alike qs more all (λ r i. parts r (inr i)))

  pub accepted_alike : (nodes : List Node) → IsAccepted a p nodes → IsAccepted b p nodes
  accepted_alike nodes tree = record { covers = covers_alike [] nodes tree.covers (itself []); has_plan = tree.has_plan }
