-- Spaces that are alike give a plan the same tree.
use Rattle.std.proofs.Common.{◌≡◌, ℕ, zero, suc, ◌-◌, ◌≤◌, ◌<◌, List, [], ◌∷◌, ◌++◌, length, Bool, nat_lt, refl, ap, ◌∙◌, subst, inl, inr}
use Rattle.std.specs.Prelude.{◌||◌, ◌&&◌, ◌==◌, nat_eq, nat_le, if◌then◌else◌}
use Rattle.std.specs.Cmp.Lexicographic.{pointwise}
use Rattle.std.specs.List.{flat_map}
use Rattle.sn_tree.specs.Alike.{AreAlike}
use Rattle.sn_tree.proofs.AlikePlans.{same_children, turned_alike, first_least_alike, plan_alike}
use Rattle.sn_tree_space.specs.declared.follow.Follow.{Follow}
use Rattle.sn_tree_space.specs.declared.follow.Follow.TheVariants.{Complete, Choices}
use Rattle.sn_tree_space.specs.declared.node.Node.{Node}
use Rattle.sn_tree_space.specs.declared.node.Node.TheVariants.{Expand, Bound, Broken, Chosen}
use Rattle.sn_tree_space.specs.Space.{Space, IsOneOf, itself, IsPartial, IsFirstLeast, stands_before, taken_before}
use Rattle.sn_tree_space.specs.Trees.{open_node, node_at, below, tree_from, tree_of, count_expands}
use Rattle.sn_tree_space.specs.Searches.{any_bound, IsBudgetBound}
use Rattle.sn_tree_space.proofs.Partials.{child_partial}

trees_each : {A B : Type 0} (f g : A → List B) (xs : List A) → ((x : A) → IsOneOf x xs → f x ≡ g x) → flat_map f xs ≡ flat_map g xs
trees_each f g [] h = refl
trees_each f g (x ∷ xs) h = ap (λ ys. ys ++ flat_map f xs) (h x (inl refl)) ∙ ap (λ ys. g x ++ ys) (trees_each f g xs (λ y i. h y (inr i)))

module _ (a b : Space) (alike : AreAlike a b) (p : List ℕ) (plan : IsPartial a p) where
  same_turn : (q : List ℕ) → IsPartial a q → taken_before a q p ≡ taken_before b q p
  same_turn q part =
      ap (λ (n : ℕ). nat_lt n (a.lower p) || ((n == a.lower p) && stands_before q p)) (alike.lower q part)
      ∙ ap (λ (n : ℕ). nat_lt (b.lower q) n || ((b.lower q == n) && stands_before q p)) (alike.lower p plan)

  same_open : (q : List ℕ) (f : Follow) → IsPartial a q → open_node a p q f ≡ open_node b p q f
  same_open q Complete part = ap Bound (alike.lower q part)
  same_open q (Choices first count) part =
      ap (λ (t : Bool). if t then Expand (a.lower q) else Bound (a.lower q)) (same_turn q part)
      ∙ ap (λ (n : ℕ). if taken_before b q p then Expand n else Bound n) (alike.lower q part)

  same_node : (q : List ℕ) → IsPartial a q → node_at a p q ≡ node_at b p q
  same_node q part =
      ap (λ (t : Bool). if t then Broken else if pointwise nat_eq q p then Chosen (a.lower p) else open_node a p q (a.follow q)) (alike.broken q part)
      ∙ ap (λ (n : ℕ). if b.broken q then Broken else if pointwise nat_eq q p then Chosen n else open_node a p q (a.follow q)) (alike.lower p plan)
      ∙ ap (λ (n : Node). if b.broken q then Broken else if pointwise nat_eq q p then Chosen (b.lower p) else n)
      (ap (open_node a p q) (alike.follow q part) ∙ same_open q (b.follow q) part)

  pub same_below : (q : List ℕ) (node : Node) → IsPartial a q → below a node q ≡ below b node q
  same_below q (Expand n) part = same_children a b alike q part
  same_below q (Bound n) part = refl
  same_below q Broken part = refl
  same_below q (Chosen n) part = refl

  pub below_partial : (q r : List ℕ) (node : Node) → IsPartial a q → IsOneOf r (below a node q) → IsPartial a r
  below_partial q r (Expand n) part i = child_partial a q r part i
  below_partial q r (Bound n) part i = absurd i
  below_partial q r Broken part i = absurd i
  below_partial q r (Chosen n) part i = absurd i

  same_from : (n : ℕ) (q : List ℕ) → IsPartial a q → tree_from a p n q ≡ tree_from b p n q
  same_from zero q part = ap (λ (x : Node). x ∷ []) (same_node q part)
  same_from (suc n) q part =
      ap (λ (x : Node). x ∷ flat_map (tree_from a p n) (below a (node_at a p q) q)) (same_node q part)
      ∙ ap (λ (x : Node). node_at b p q ∷ flat_map (tree_from a p n) (below a x q)) (same_node q part)
      ∙ ap (λ ns. node_at b p q ∷ ns) (trees_each (tree_from a p n) (tree_from b p n) (below a (node_at b p q) q) (λ r i. same_from n r (below_partial q r (node_at b p q) part i)))
      ∙ ap (λ qs. node_at b p q ∷ flat_map (tree_from b p n) qs) (same_below q (node_at b p q) part)

  pub tree_alike : tree_of a p ≡ tree_of b p
  tree_alike = let start : List ℕ = [] in ap (λ (n : ℕ). tree_from a p (n - length start) []) alike.depth ∙ same_from (b.depth - length start) [] (itself [])

-- how many E it has
pub expands_alike : (a b : Space) → AreAlike a b → (p : List ℕ) → IsPartial a p → (test : ℕ → Bool) → count_expands test (tree_of a p) ≡ count_expands test (tree_of b p)
expands_alike a b alike p plan test = ap (count_expands test) (tree_alike a b alike p plan)

-- the number that a budget of nodes names
pub budget_alike : (a b : Space) → AreAlike a b → (nodes bound : ℕ) → IsBudgetBound a nodes bound → IsBudgetBound b nodes bound
budget_alike a b alike nodes bound budget = record {
  past = λ p best. let other = back p best in subst (λ (n : ℕ). nodes < n) (expands_alike a b alike p other.plan.partial any_bound) (budget.past p other);
  few = λ p best. let other = back p best in subst (λ (n : ℕ). n ≤ nodes) (expands_alike a b alike p other.plan.partial (λ n. nat_lt n bound)) (budget.few p other);
  many = λ p best. let other = back p best in subst (λ (n : ℕ). nodes < n) (expands_alike a b alike p other.plan.partial (λ n. nat_le n bound)) (budget.many p other);
  no_less = λ r plan. let other = plan_alike b a (turned_alike a b alike) r plan in subst (λ (n : ℕ). bound ≤ n) (alike.lower r other.partial) (budget.no_less r other);
}
  where
    back : (p : List ℕ) → IsFirstLeast b p → IsFirstLeast a p
    back p best = first_least_alike b a (turned_alike a b alike) p best
