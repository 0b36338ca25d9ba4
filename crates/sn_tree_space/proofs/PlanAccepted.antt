-- The tree of the first least plan is accepted.
use Rattle.std.proofs.Common.{◌≡◌, ◌≢◌, ℕ, zero, suc, ◌+◌, ◌≤◌, List, [], ◌∷◌, ◌++◌, map, length, Bool, true, false, refl, ap, sym, ◌∙◌, subst, arith, inl, inr, length-append}
use Rattle.std.specs.Prelude.{◌||◌}
use Rattle.std.specs.Ordering.{is_gt, nat_cmp}
use Rattle.std.specs.Cmp.Lexicographic.{slice_cmp}
use Rattle.std.specs.List.{flat_map, list_any}
use Rattle.sn_tree_space.specs.declared.follow.Follow.{Follow}
use Rattle.sn_tree_space.specs.declared.follow.Follow.TheVariants.{Complete, Choices}
use Rattle.sn_tree_space.specs.declared.node.Node.{Node}
use Rattle.sn_tree_space.specs.declared.node.Node.TheVariants.{Chosen}
use Rattle.sn_tree_space.specs.Space.{Space, SpaceLaws, IsOneOf, with_choice, choices_in, children, GoesOnTo, itself, through, IsPartial, IsFirstLeast, taken_before}
use Rattle.sn_tree_space.specs.Trees.{Covers, CoverAll, IsAccepted, is_chosen, broken, chosen, bound, expand, none, each, node_at, below, tree_below, tree_of}
use Rattle.sn_tree_space.proofs.Partials.{child_partial, lower_along, broken_along, begins, none_among, children_complete}
use Rattle.sn_tree_space.proofs.Order.{front_first, stands_first, taken_first}
use Rattle.sn_tree_space.proofs.PlanTree.{tree_step, node_plan, node_expand, node_case, NodeCase, is_broken, is_plan, is_bound, is_expand}

pub one_of_front : {A : Type 0} (x : A) (xs ys : List A) → IsOneOf x xs → IsOneOf x (xs ++ ys)
one_of_front x [] ys i = absurd i
one_of_front x (z ∷ xs) ys (inl e) = inl e
one_of_front x (z ∷ xs) ys (inr i) = inr (one_of_front x xs ys i)

pub one_of_back : {A : Type 0} (x : A) (xs ys : List A) → IsOneOf x ys → IsOneOf x (xs ++ ys)
one_of_back x [] ys i = i
one_of_back x (z ∷ xs) ys i = inr (one_of_back x xs ys i)

one_of_trees : {A B : Type 0} (f : A → List B) (x : B) (a : A) (qs : List A) → IsOneOf a qs → IsOneOf x (f a) → IsOneOf x (flat_map f qs)
one_of_trees f x a [] i h = absurd i
one_of_trees f x a (q ∷ qs) (inl e) h = one_of_front x (f q) (flat_map f qs) (subst (λ l. IsOneOf x (f l)) e h)
one_of_trees f x a (q ∷ qs) (inr i) h = one_of_back x (f q) (flat_map f qs) (one_of_trees f x a qs i h)

or_true : (b : Bool) → (b || true) ≡ true
or_true true = refl
or_true false = refl

plan_is_chosen : (b : ℕ) (nodes : List Node) → IsOneOf (Chosen b) nodes → list_any is_chosen nodes ≡ true
plan_is_chosen b [] i = absurd i
plan_is_chosen b (n ∷ nodes) (inl e) = ap (λ m. is_chosen m || list_any is_chosen nodes) (sym e)
plan_is_chosen b (n ∷ nodes) (inr i) = ap (λ t. is_chosen n || t) (plan_is_chosen b nodes i) ∙ or_true (is_chosen n)

module _ (s : Space) (p : List ℕ) (L : SpaceLaws s) where
  cover_each : (qs : List (List ℕ)) → ((q : List ℕ) → IsOneOf q qs → Covers s p q (tree_below s p q)) → CoverAll s p qs (flat_map (tree_below s p) qs)
  cover_each [] h = none
  cover_each (q ∷ qs) h = each q qs (tree_below s p q) (flat_map (tree_below s p) qs) (h q (inl refl)) (cover_each qs (λ l i. h l (inr i)))

  module _ (F : IsFirstLeast s p) where
    cover_case : (q : List ℕ) (node : Node) → NodeCase s p q node → ((child : List ℕ) → IsOneOf child (children s q) → Covers s p child (tree_below s p child))
        → Covers s p q (node ∷ flat_map (tree_below s p) (below s node q))
    cover_case q node (is_broken b e) h = subst (λ n. Covers s p q (n ∷ flat_map (tree_below s p) (below s n q))) (sym e) (broken q b)
    cover_case q node (is_plan same e) h =
        subst (λ n. Covers s p q (n ∷ flat_map (tree_below s p) (below s n q))) (sym e) (subst (λ l. Covers s p l (Chosen (s.lower p) ∷ [])) (sym same) chosen)
    cover_case q node (is_bound b e) h = subst (λ n. Covers s p q (n ∷ flat_map (tree_below s p) (below s n q))) (sym e) (bound q b)
    cover_case q node (is_expand first count f t e) h =
        subst (λ n. Covers s p q (n ∷ flat_map (tree_below s p) (below s n q))) (sym e)
        (expand q first count (flat_map (tree_below s p) (children s q)) f (cover_each (children s q) h))

    -- there are at most this many choices still to come
    covers_from : (n : ℕ) (q : List ℕ) → IsPartial s q → s.depth ≤ n + length q → Covers s p q (tree_below s p q)
    covers_from zero q part h =
        subst (Covers s p q) (sym (tree_step s p L q part))
        (cover_case q (node_at s p q) (node_case s p L F q part) (λ child i. absurd (none_among child (children s q) (children_complete s q (L.ends q part (omega arith))) i)))
    covers_from (suc n) q part h =
        subst (Covers s p q) (sym (tree_step s p L q part))
        (cover_case q (node_at s p q) (node_case s p L F q part) (λ child i. covers_from n child (child_partial s q child part i) (longer n q child h i)))
      where
        longer : (n : ℕ) (q child : List ℕ) → s.depth ≤ suc n + length q → IsOneOf child (children s q) → s.depth ≤ n + length child
        longer n q child h i =
            let more = one_more q child (choices_in (s.follow q)) i in omega arith
          where
            one_more : (q child : List ℕ) (xs : List ℕ) → IsOneOf child (map (with_choice q) xs) → length child ≡ length q + 1
            one_more q child [] i = absurd i
            one_more q child (x ∷ xs) (inl e) = ap length e ∙ length-append q (x ∷ [])
            one_more q child (x ∷ xs) (inr i) = one_more q child xs i

    -- ---- the tree has the plan

    -- a list that goes on to the plan, and isn't the plan, is taken before it
    pub before_plan : (q : List ℕ) → IsPartial s q → q ≢ p → GoesOnTo s q p → taken_before s q p ≡ true
    before_plan q part n g =
        let more = begins s q p g in
        taken_first s q p (lower_along s L q p g part) (λ _. stands_first q p n (ap (λ l. is_gt (slice_cmp nat_cmp q l)) more.1 ∙ front_first q more.0))

    incomplete : (q child : List ℕ) (f : Follow) → s.follow q ≡ f → IsOneOf child (children s q) → (first : ℕ) × (count : ℕ) × (s.follow q ≡ Choices first count)
    incomplete q child Complete e i = absurd (none_among child (children s q) (children_complete s q e) i)
    incomplete q child (Choices first count) e i = (first, count, e)

    unbroken : (q : List ℕ) (b : Bool) → s.broken q ≡ b → IsPartial s q → GoesOnTo s q p → s.broken q ≡ false
    unbroken q true e part g = let k = broken_along s L q p g part e in let n = F.plan.unbroken in cc
    unbroken q false e part g = e

    plan_below : (q r : List ℕ) → GoesOnTo s q r → r ≡ p → IsPartial s q → IsOneOf (Chosen (s.lower p)) (tree_below s p q)
    plan_below _ _ (itself q) same part =
        subst (IsOneOf (Chosen (s.lower p))) (sym (tree_step s p L q part)) (inl (sym (ap (node_at s p) same ∙ node_plan s p F.plan.unbroken)))
    plan_below _ _ (through q child r i g) same part =
        let goes : GoesOnTo s q p = subst (GoesOnTo s q) same (through q child r i g) in
        let f = incomplete q child (s.follow q) refl i in
        let n : q ≢ p = λ e. let k = ap s.follow e in let c = F.plan.complete in let d = f.2 in cc in
        let node = node_expand s p q f.0 f.1 (unbroken q (s.broken q) refl part goes) f.2 F.plan.complete (before_plan q part n goes) in
        let rest = one_of_trees (tree_below s p) (Chosen (s.lower p)) child (children s q) i (plan_below child r g same (child_partial s q child part i)) in
        subst (IsOneOf (Chosen (s.lower p))) (sym (tree_step s p L q part)) (subst (λ m. IsOneOf (Chosen (s.lower p)) (m ∷ flat_map (tree_below s p) (below s m q))) (sym node) (inr rest))

    pub plan_tree_accepted : IsAccepted s p (tree_of s p)
    plan_tree_accepted = record { covers = covers_from s.depth [] (itself []) (omega arith); has_plan = plan_is_chosen (s.lower p) (tree_of s p) (plan_below [] p F.plan.partial refl (itself [])) }
