-- In spaces that are alike a tree has the same first fault.
use Rattle.std.proofs.Common.{◌≡◌, ℕ, ◌+◌, List, [], ◌∷◌, ◌++◌, Bool, nat_lt, Option, Some, None, refl, ap, sym, ◌∙◌, subst, inl, inr}
use Rattle.std.specs.Prelude.{nat_eq, if◌then◌else◌}
use Rattle.std.specs.Cmp.Lexicographic.{pointwise}
use Rattle.sn_tree.specs.Alike.{AreAlike}
use Rattle.sn_tree.proofs.AlikeTrees.{same_below, below_partial}
use Rattle.sn_tree_space.specs.declared.follow.Follow.{Follow}
use Rattle.sn_tree_space.specs.declared.node.Node.{Node}
use Rattle.sn_tree_space.specs.declared.node.Node.TheVariants as nodes
use Rattle.sn_tree_space.specs.Space.{Space, IsOneOf, itself, IsPartial}
use Rattle.sn_tree_space.specs.Trees.{below}
use Rattle.sn_tree.specs.declared.fault.TreeFault.{TreeFault}
use Rattle.sn_tree.specs.declared.fault.TreeFault.TheVariants.{Shape, Bound, NotBroken}
use Rattle.sn_tree.specs.Faults.{or_else, failing, bound_fault, expand_fault, node_fault, nodes_fault, cost_fault, plan_fault, tree_fault}

one_of_both : {A : Type 0} (P : A → Type 0) (xs ys : List A) → ((x : A) → IsOneOf x xs → P x) → ((y : A) → IsOneOf y ys → P y) → (z : A) → IsOneOf z (xs ++ ys) → P z
one_of_both P [] ys f g z i = g z i
one_of_both P (x ∷ xs) ys f g z (inl e) = f z (inl e)
one_of_both P (x ∷ xs) ys f g z (inr i) = one_of_both P xs ys (λ y j. f y (inr j)) g z i

module _ (a b : Space) (alike : AreAlike a b) (p : List ℕ) (plan : IsPartial a p) where
  same_fault : (q : List ℕ) (i : ℕ) (node : Node) → IsPartial a q → node_fault a p q i node ≡ node_fault b p q i node
  same_fault q i (nodes.Expand n) part =
      ap (λ (f : Follow). or_else (expand_fault i f) (bound_fault i (a.lower q) n)) (alike.follow q part)
      ∙ ap (λ (m : ℕ). or_else (expand_fault i (b.follow q)) (bound_fault i m n)) (alike.lower q part)
  same_fault q i (nodes.Bound n) part =
      ap (λ (m : ℕ). or_else (bound_fault i m n) (failing (nat_lt n (a.lower p)) (Bound i (a.lower p) n))) (alike.lower q part)
      ∙ ap (λ (m : ℕ). or_else (bound_fault i (b.lower q) n) (failing (nat_lt n m) (Bound i m n))) (alike.lower p plan)
  same_fault q i nodes.Broken part = ap (λ (t : Bool). if t then None else Some (NotBroken i 0 0)) (alike.broken q part)
  same_fault q i (nodes.Chosen n) part = ap (λ (m : ℕ). if pointwise nat_eq q p then bound_fault i m n else Some (Shape i 0 0)) (alike.lower q part)

  same_faults : (qs : List (List ℕ)) (i : ℕ) (ns : List Node) → ((q : List ℕ) → IsOneOf q qs → IsPartial a q) → nodes_fault a p qs i ns ≡ nodes_fault b p qs i ns
  same_faults [] i [] parts = refl
  same_faults (q ∷ qs) i [] parts = refl
  same_faults [] i (n ∷ ns) parts = refl
  same_faults (q ∷ qs) i (n ∷ ns) parts =
      let part = parts q (inl refl) in
      let rest = same_faults (below a n q ++ qs) (i + 1) ns (one_of_both (IsPartial a) (below a n q) qs (λ r j. below_partial a b alike p plan q r n part j) (λ r j. parts r (inr j))) in
      ap (λ (f : Option TreeFault). or_else f (nodes_fault a p (below a n q ++ qs) (i + 1) ns)) (same_fault q i n part)
      ∙ ap (or_else (node_fault b p q i n)) rest
      ∙ ap (λ ts. or_else (node_fault b p q i n) (nodes_fault b p (ts ++ qs) (i + 1) ns)) (same_below a b alike p plan q n part)

  only_start : (q : List ℕ) → IsOneOf q ([] ∷ []) → IsPartial a q
  only_start q (inl e) = subst (IsPartial a) (sym e) (itself [])
  only_start q (inr i) = absurd i

  pub fault_alike : (cost : ℕ) (ns : List Node) → tree_fault a p cost ns ≡ tree_fault b p cost ns
  fault_alike cost ns =
      ap (λ (m : ℕ). or_else (cost_fault m cost) (or_else (nodes_fault a p ([] ∷ []) 0 ns) (plan_fault ns))) (alike.lower p plan)
      ∙ ap (λ (f : Option TreeFault). or_else (cost_fault (b.lower p) cost) (or_else f (plan_fault ns))) (same_faults ([] ∷ []) 0 ns only_start)
