-- The tree of the first least plan, node by node, and that it is accepted.
use Rattle.std.proofs.Common.{◌≡◌, ◌≢◌, ℕ, zero, suc, ◌+◌, ◌-◌, ◌≤◌, List, [], ◌∷◌, ◌++◌, map, length, Bool, true, false, refl, ap, sym, ◌∙◌, arith, length-append}
use Rattle.std.specs.Prelude.{nat_eq, if◌then◌else◌}
use Rattle.std.specs.Cmp.Lexicographic.{pointwise}
use Rattle.std.specs.List.{flat_map}
use Rattle.sn_tree_space.specs.declared.follow.Follow.{Follow}
use Rattle.sn_tree_space.specs.declared.follow.Follow.TheVariants.{Complete, Choices}
use Rattle.sn_tree_space.specs.declared.node.Node.{Node}
use Rattle.sn_tree_space.specs.declared.node.Node.TheVariants.{Expand, Bound, Broken, Chosen}
use Rattle.sn_tree_space.specs.Space.{Space, SpaceLaws, with_choice, choices_in, children, IsPartial, IsFirstLeast, taken_before}
use Rattle.sn_tree_space.specs.Trees.{open_node, node_at, below, tree_from, tree_below}
use Rattle.sn_tree_space.proofs.Partials.{children_complete}
use Rattle.sn_tree_space.proofs.Order.{same_list, list_itself, taken_later}

-- ---- a node and the trees that follow it

below_none : (s : Space) (n : Node) (q : List ℕ) → children s q ≡ [] → below s n q ≡ []
below_none s (Expand b) q e = e
below_none s (Bound b) q e = refl
below_none s Broken q e = refl
below_none s (Chosen b) q e = refl

module _ (s : Space) (p : List ℕ) where
  trees_of_children : (q : List ℕ) (n : ℕ) → s.depth - length q ≡ suc n → (xs : List ℕ)
      → flat_map (tree_from s p n) (map (with_choice q) xs) ≡ flat_map (tree_below s p) (map (with_choice q) xs)
  trees_of_children q n e [] = refl
  trees_of_children q n e (x ∷ xs) =
      let rest = trees_of_children q n e xs in
      let long : length (q ++ x ∷ []) ≡ length q + 1 = length-append q (x ∷ []) in
      let left : n ≡ s.depth - length (q ++ x ∷ []) = omega arith in
      ap (λ k. tree_from s p k (q ++ x ∷ []) ++ flat_map (tree_from s p n) (map (with_choice q) xs)) left ∙ ap (λ l. tree_below s p (q ++ x ∷ []) ++ l) rest

  trees_below : (q : List ℕ) (n : ℕ) → s.depth - length q ≡ suc n → (node : Node) → flat_map (tree_from s p n) (below s node q) ≡ flat_map (tree_below s p) (below s node q)
  trees_below q n e (Expand b) = trees_of_children q n e (choices_in (s.follow q))
  trees_below q n e (Bound b) = refl
  trees_below q n e Broken = refl
  trees_below q n e (Chosen b) = refl

  step_at : (q : List ℕ) (d : ℕ) → s.depth - length q ≡ d → (d ≡ 0 → s.follow q ≡ Complete)
      → tree_from s p d q ≡ node_at s p q ∷ flat_map (tree_below s p) (below s (node_at s p q) q)
  step_at q zero e c = ap (λ l. node_at s p q ∷ flat_map (tree_below s p) l) (sym (below_none s (node_at s p q) q (children_complete s q (c refl))))
  step_at q (suc n) e c = ap (λ l. node_at s p q ∷ l) (trees_below q n e (node_at s p q))

  -- the tree of the plan below a list is its node, and after it the trees of the children of an E
  pub tree_step : SpaceLaws s → (q : List ℕ) → IsPartial s q → tree_below s p q ≡ node_at s p q ∷ flat_map (tree_below s p) (below s (node_at s p q) q)
  tree_step L q part = step_at q (s.depth - length q) refl (λ e. L.ends q part (omega arith))

  -- ---- which node a list has

  pub node_broken : (q : List ℕ) → s.broken q ≡ true → node_at s p q ≡ Broken
  node_broken q b = ap (λ t. if t then Broken else if pointwise nat_eq q p then Chosen (s.lower p) else open_node s p q (s.follow q)) b

  pub node_whole : (q : List ℕ) → s.broken q ≡ false → node_at s p q ≡ (if pointwise nat_eq q p then Chosen (s.lower p) else open_node s p q (s.follow q))
  node_whole q b = ap (λ t. if t then Broken else if pointwise nat_eq q p then Chosen (s.lower p) else open_node s p q (s.follow q)) b

  pub node_plan : s.broken p ≡ false → node_at s p p ≡ Chosen (s.lower p)
  node_plan b = node_whole p b ∙ ap (λ t. if t then Chosen (s.lower p) else open_node s p p (s.follow p)) (list_itself p)

  differs : (q : List ℕ) (t : Bool) → pointwise nat_eq q p ≡ t → q ≢ p → t ≡ false
  differs q true e n = absurd (n (same_list q p e))
  differs q false e n = refl

  pub node_other : (q : List ℕ) → s.broken q ≡ false → q ≢ p → node_at s p q ≡ open_node s p q (s.follow q)
  node_other q b n = node_whole q b ∙ ap (λ t. if t then Chosen (s.lower p) else open_node s p q (s.follow q)) (differs q (pointwise nat_eq q p) refl n)

  open_at : (q : List ℕ) (first count : ℕ) (t : Bool) → taken_before s q p ≡ t → open_node s p q (Choices first count) ≡ (if t then Expand (s.lower q) else Bound (s.lower q))
  open_at q first count t e = ap (λ u. if u then Expand (s.lower q) else Bound (s.lower q)) e

  other_than : (q : List ℕ) (first count : ℕ) → s.follow q ≡ Choices first count → s.follow p ≡ Complete → q ≢ p
  other_than q first count e c same = let k = ap s.follow same in cc

  -- an incomplete list that is taken before the plan has an E
  pub node_expand : (q : List ℕ) (first count : ℕ) → s.broken q ≡ false → s.follow q ≡ Choices first count → s.follow p ≡ Complete → taken_before s q p ≡ true
      → node_at s p q ≡ Expand (s.lower q)
  node_expand q first count b e c t =
      node_other q b (other_than q first count e c) ∙ ap (λ f. open_node s p q f) e ∙ open_at q first count true t

  -- any other has none
  pub node_closed : (q : List ℕ) (first count : ℕ) → s.broken q ≡ false → s.follow q ≡ Choices first count → s.follow p ≡ Complete → taken_before s q p ≡ false
      → node_at s p q ≡ Bound (s.lower q)
  node_closed q first count b e c t =
      node_other q b (other_than q first count e c) ∙ ap (λ f. open_node s p q f) e ∙ open_at q first count false t

-- what a node of the tree says of its list
pub data NodeCase (s : Space) (p q : List ℕ) (node : Node) : Type 0 where
  is_broken : s.broken q ≡ true → node ≡ Broken → NodeCase s p q node
  is_plan : q ≡ p → node ≡ Chosen (s.lower p) → NodeCase s p q node
  is_bound : s.lower p ≤ s.lower q → node ≡ Bound (s.lower q) → NodeCase s p q node
  is_expand : (first count : ℕ) → s.follow q ≡ Choices first count → taken_before s q p ≡ true → node ≡ Expand (s.lower q) → NodeCase s p q node

module _ (s : Space) (p : List ℕ) (L : SpaceLaws s) (F : IsFirstLeast s p) where
  case_open : (q : List ℕ) (first count : ℕ) (t : Bool) → s.broken q ≡ false → s.follow q ≡ Choices first count → taken_before s q p ≡ t → NodeCase s p q (node_at s p q)
  case_open q first count true b e t = is_expand first count e t (node_expand s p q first count b e F.plan.complete t)
  case_open q first count false b e t = is_bound (taken_later s q p t).0 (node_closed s p q first count b e F.plan.complete t)

  case_other : (q : List ℕ) (f : Follow) → IsPartial s q → s.broken q ≡ false → q ≢ p → s.follow q ≡ f → NodeCase s p q (node_at s p q)
  case_other q Complete part b n e =
      is_bound (F.least q (record { partial = part; complete = e; unbroken = b })) (node_other s p q b n ∙ ap (λ f. open_node s p q f) e)
  case_other q (Choices first count) part b n e = case_open q first count (taken_before s q p) b e refl

  case_same : (q : List ℕ) (t : Bool) → IsPartial s q → s.broken q ≡ false → pointwise nat_eq q p ≡ t → NodeCase s p q (node_at s p q)
  case_same q true part b e = is_plan (same_list q p e) (node_whole s p q b ∙ ap (λ t. if t then Chosen (s.lower p) else open_node s p q (s.follow q)) e)
  case_same q false part b e =
      case_other q (s.follow q) part b (λ same. let k = list_itself p in let m = ap (λ l. pointwise nat_eq l p) same in cc) refl

  case_at : (q : List ℕ) (t : Bool) → IsPartial s q → s.broken q ≡ t → NodeCase s p q (node_at s p q)
  case_at q true part b = is_broken b (node_broken s p q b)
  case_at q false part b = case_same q (pointwise nat_eq q p) part b refl

  pub node_case : (q : List ℕ) → IsPartial s q → NodeCase s p q (node_at s p q)
  node_case q part = case_at q (s.broken q) part refl
