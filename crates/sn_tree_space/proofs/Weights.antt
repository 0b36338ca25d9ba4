-- How many nodes of the tree of a plan are expanded below a list.
use Rattle.std.proofs.Common.{◌≡◌, ℕ, zero, suc, ◌+◌, ◌≤◌, List, [], ◌∷◌, map, length, Bool, true, false, cond, refl, ap, sym, ◌∙◌, arith, inl, inr, length-append}
use Rattle.std.specs.Prelude.{not, nat_lt}
use Rattle.std.specs.List.{flat_map, sum_by, filter}
use Rattle.std.proofs.lemmas.List.Sums.{sum_by-cons, sum_by-append}
use Rattle.std.proofs.lemmas.Bool.Decides.{nat_tests}
use Rattle.sn_tree_space.specs.declared.node.Node.{Node}
use Rattle.sn_tree_space.specs.declared.node.Node.TheVariants.{Expand, Bound, Broken, Chosen}
use Rattle.sn_tree_space.specs.Space.{Space, SpaceLaws, IsOneOf, with_choice, choices_in, children, IsPartial, IsPlan, IsFirstLeast, taken_before}
use Rattle.sn_tree_space.specs.Trees.{node_at, below, tree_below, expands, count_expands}
use Rattle.sn_tree_space.specs.Searches.{weight, whole_children}
use Rattle.sn_tree_space.proofs.Partials.{child_partial, children_complete}
use Rattle.sn_tree_space.proofs.PlanTree.{tree_step, node_broken, node_plan, node_case, NodeCase, is_broken, is_plan, is_bound, is_expand}

sum_of_trees : {A B : Type 0} (f : B → ℕ) (g : A → List B) (xs : List A) → sum_by f (flat_map g xs) ≡ sum_by (λ x. sum_by f (g x)) xs
sum_of_trees f g [] = refl
sum_of_trees f g (x ∷ xs) =
    sum_by-append f (g x) (flat_map g xs) ∙ ap (λ n. sum_by f (g x) + n) (sum_of_trees f g xs) ∙ sym (sum_by-cons (λ y. sum_by f (g y)) x xs)

-- what a node counts by itself
abbrev own : (ℕ → Bool) → Node → ℕ
own test n = cond (expands test n) 1 0

module _ (s : Space) (p : List ℕ) (L : SpaceLaws s) (test : ℕ → Bool) where
  -- a list's weight is what its node counts, and the weights below it
  pub weight_is : (q : List ℕ) (node : Node) → node_at s p q ≡ node → IsPartial s q → weight s p test q ≡ own test node + sum_by (weight s p test) (below s node q)
  weight_is q node e part =
      ap (count_expands test) (tree_step s p L q part)
      ∙ sum_by-cons (λ n. own test n) (node_at s p q) (flat_map (tree_below s p) (below s (node_at s p q) q))
      ∙ ap (λ n. own test (node_at s p q) + n) (sum_of_trees (λ n. own test n) (tree_below s p) (below s (node_at s p q) q))
      ∙ ap (λ m. own test m + sum_by (weight s p test) (below s m q)) e

  pub weight_broken : (q : List ℕ) → s.broken q ≡ true → IsPartial s q → weight s p test q ≡ 0
  weight_broken q b part = weight_is q Broken (node_broken s p q b) part

  pub weight_expand : (q : List ℕ) → node_at s p q ≡ Expand (s.lower q) → IsPartial s q
      → weight s p test q ≡ cond (test (s.lower q)) 1 0 + sum_by (weight s p test) (children s q)
  weight_expand q e part = weight_is q (Expand (s.lower q)) e part

  pub weight_plan : IsPlan s p → weight s p test p ≡ 0
  weight_plan plan = weight_is p (Chosen (s.lower p)) (node_plan s p plan.unbroken) plan.partial

  -- the broken children count nothing
  kept_first : (q : List ℕ) (xs kept : List (List ℕ)) (b : Bool) → s.broken q ≡ b → IsPartial s q → sum_by (weight s p test) kept ≡ sum_by (weight s p test) xs
      → sum_by (weight s p test) (cond (not (s.broken q)) (q ∷ kept) kept) ≡ sum_by (weight s p test) (q ∷ xs)
  kept_first q xs kept true e part rest =
      ap (λ b. sum_by (weight s p test) (cond (not b) (q ∷ kept) kept)) e
      ∙ (let none = weight_broken q e part in let all = sum_by-cons (weight s p test) q xs in let same : sum_by (weight s p test) kept ≡ sum_by (weight s p test) (q ∷ xs) = omega arith in same)
  kept_first q xs kept false e part rest =
      ap (λ b. sum_by (weight s p test) (cond (not b) (q ∷ kept) kept)) e
      ∙ sum_by-cons (weight s p test) q kept ∙ ap (λ n. weight s p test q + n) rest ∙ sym (sum_by-cons (weight s p test) q xs)

  kept_weight : (xs : List (List ℕ)) → ((q : List ℕ) → IsOneOf q xs → IsPartial s q) → sum_by (weight s p test) (filter (λ l. not (s.broken l)) xs) ≡ sum_by (weight s p test) xs
  kept_weight [] parts = refl
  kept_weight (q ∷ xs) parts =
      kept_first q xs (filter (λ l. not (s.broken l)) xs) (s.broken q) refl (parts q (inl refl)) (kept_weight xs (λ l i. parts l (inr i)))

  pub whole_weight : (q : List ℕ) → IsPartial s q → sum_by (weight s p test) (whole_children s q) ≡ sum_by (weight s p test) (children s q)
  whole_weight q part = kept_weight (children s q) (λ child i. child_partial s q child part i)

  -- a sum of no weights
  pub no_weight : (qs : List (List ℕ)) → ((q : List ℕ) → IsOneOf q qs → weight s p test q ≡ 0) → sum_by (weight s p test) qs ≡ 0
  no_weight [] h = refl
  no_weight (q ∷ qs) h =
      let one = h q (inl refl) in
      let rest = no_weight qs (λ l i. h l (inr i)) in
      sum_by-cons (weight s p test) q qs ∙ omega arith

  module _ (F : IsFirstLeast s p) where
    weight_case : (q : List ℕ) (node : Node) → node_at s p q ≡ node → NodeCase s p q node → IsPartial s q → weight s p test q ≤ cond (test (s.lower q)) 1 0 + sum_by (weight s p test) (children s q)
    weight_case q node e (is_broken b k) part = let w = weight_is q Broken (e ∙ k) part in omega arith
    weight_case q node e (is_plan b k) part = let w = weight_is q (Chosen (s.lower p)) (e ∙ k) part in omega arith
    weight_case q node e (is_bound b k) part = let w = weight_is q (Bound (s.lower q)) (e ∙ k) part in omega arith
    weight_case q node e (is_expand first count f t k) part = let w = weight_is q (Expand (s.lower q)) (e ∙ k) part in omega arith

    -- whatever the node of a list is, it counts at most one more than the weights of its children
    pub weight_most : (q : List ℕ) → IsPartial s q → weight s p test q ≤ cond (test (s.lower q)) 1 0 + sum_by (weight s p test) (children s q)
    weight_most q part = weight_case q (node_at s p q) refl (node_case s p L F q part) part

    -- a list that isn't taken before the plan counts nothing
    pub weight_later : (q : List ℕ) → IsPartial s q → taken_before s q p ≡ false → weight s p test q ≡ 0
    weight_later q part later = by_case (node_at s p q) refl (node_case s p L F q part)
      where
        by_case : (node : Node) → node_at s p q ≡ node → NodeCase s p q node → weight s p test q ≡ 0
        by_case node e (is_broken b k) = weight_is q Broken (e ∙ k) part
        by_case node e (is_plan b k) = weight_is q (Chosen (s.lower p)) (e ∙ k) part
        by_case node e (is_bound b k) = weight_is q (Bound (s.lower q)) (e ∙ k) part
        by_case node e (is_expand first count f t k) = cc

-- a list whose lower bound isn't below b has no E with one below b
module _ (s : Space) (p : List ℕ) (L : SpaceLaws s) (F : IsFirstLeast s p) (b : ℕ) where
  high_case : (q : List ℕ) → IsPartial s q → b ≤ s.lower q → sum_by (weight s p (λ n. nat_lt n b)) (children s q) ≡ 0 → weight s p (λ n. nat_lt n b) q ≡ 0
  high_case q part h rest =
      let w = weight_most s p L (λ n. nat_lt n b) F q part in
      let no : nat_lt (s.lower q) b ≡ false = grind (arith, nat_tests) in
      let none : cond {A = ℕ} (nat_lt (s.lower q) b) 1 0 ≡ 0 = ap (λ t. cond {A = ℕ} t 1 0) no in omega arith

  one_longer : (q child : List ℕ) (xs : List ℕ) → IsOneOf child (map (with_choice q) xs) → length child ≡ length q + 1
  one_longer q child [] i = absurd i
  one_longer q child (x ∷ xs) (inl e) = ap length e ∙ length-append q (x ∷ [])
  one_longer q child (x ∷ xs) (inr i) = one_longer q child xs i

  high_from : (n : ℕ) (q : List ℕ) → s.depth ≤ n + length q → IsPartial s q → b ≤ s.lower q → weight s p (λ n. nat_lt n b) q ≡ 0
  high_from zero q d part h = high_case q part h (ap (sum_by (weight s p (λ n. nat_lt n b))) (children_complete s q (L.ends q part (omega arith))))
  high_from (suc n) q d part h =
      high_case q part h (no_weight s p L (λ n. nat_lt n b) (children s q)
      (λ child i. let long = one_longer q child (choices_in (s.follow q)) i in let up = L.rises q child part i in high_from n child (omega arith) (child_partial s q child part i) (omega arith)))

  pub weight_high : (q : List ℕ) → IsPartial s q → b ≤ s.lower q → weight s p (λ n. nat_lt n b) q ≡ 0
  weight_high q part h = high_from s.depth q (omega arith) part h
