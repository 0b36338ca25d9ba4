-- to be believed
-- Trees of bounds, as lists of nodes in preorder.
use Rattle.std.specs.Prelude.{◌≡◌, ℕ, zero, suc, ◌-◌, ◌≤◌, List, [], ◌∷◌, ◌++◌, length, Bool, true, false, nat_eq, if◌then◌else◌}
use Rattle.std.specs.Cmp.Lexicographic.{pointwise}
use Rattle.std.specs.List.{flat_map, count_by, list_any}
use Rattle.sn_tree_space.specs.declared.follow.Follow.{Follow}
use Rattle.sn_tree_space.specs.declared.follow.Follow.TheVariants.{Complete, Choices}
use Rattle.sn_tree_space.specs.declared.node.Node.{Node}
use Rattle.sn_tree_space.specs.declared.node.Node.TheVariants.{Expand, Bound, Broken, Chosen}
use Rattle.sn_tree_space.specs.Space.{Space, children, taken_before}

-- ---- which trees are accepted

-- A tree covers a partial plan, for the plan p: by a node X where the list is broken, by P with the plan's cost where it's the plan, by B with its
-- lower bound where that isn't below the plan's cost, and by E with its lower bound where it isn't complete and the trees that
-- follow cover its children, one each, in order.
mutual
  pub data Covers (s : Space) (p : List ℕ) : List ℕ → List Node → Type 0 where
    broken : (q : List ℕ) → s.broken q ≡ true → Covers s p q (Broken ∷ [])
    chosen : Covers s p p (Chosen (s.lower p) ∷ [])
    bound : (q : List ℕ) → s.lower p ≤ s.lower q → Covers s p q (Bound (s.lower q) ∷ [])
    expand : (q : List ℕ) (first count : ℕ) (nodes : List Node) → s.follow q ≡ Choices first count → CoverAll s p (children s q) nodes
        → Covers s p q (Expand (s.lower q) ∷ nodes)

  -- trees one after another, one for each list
  pub data CoverAll (s : Space) (p : List ℕ) : List (List ℕ) → List Node → Type 0 where
    none : CoverAll s p [] []
    each : (q : List ℕ) (qs : List (List ℕ)) (nodes more : List Node) → Covers s p q nodes → CoverAll s p qs more → CoverAll s p (q ∷ qs) (nodes ++ more)

abbrev pub is_chosen : Node → Bool
is_chosen (Expand b) = false
is_chosen (Bound b) = false
is_chosen Broken = false
is_chosen (Chosen b) = true

-- a tree is accepted for a plan where it covers the empty list and has a P
pub record IsAccepted (s : Space) (p : List ℕ) (nodes : List Node) : Type 0 where
  pub covers : Covers s p [] nodes
  pub has_plan : list_any is_chosen nodes ≡ true

-- ---- the tree of a plan

module _ (s : Space) (p : List ℕ) where
  -- the node of a list that is neither broken nor the plan: E where it isn't complete and is taken before the plan, and else B
  abbrev pub open_node : List ℕ → Follow → Node
  open_node q Complete = Bound (s.lower q)
  open_node q (Choices first count) = if taken_before s q p then Expand (s.lower q) else Bound (s.lower q)

  abbrev pub node_at : List ℕ → Node
  node_at q = if s.broken q then Broken else if pointwise nat_eq q p then Chosen (s.lower p) else open_node q (s.follow q)

-- the lists whose trees follow a node
abbrev pub below : Space → Node → List ℕ → List (List ℕ)
below s (Expand b) q = children s q
below s (Bound b) q = []
below s Broken q = []
below s (Chosen b) q = []

module _ (s : Space) (p : List ℕ) where
  -- the tree of the plan below a list that has at most this many choices still to come
  abbrev pub tree_from : ℕ → List ℕ → List Node
  tree_from zero q = node_at s p q ∷ []
  tree_from (suc n) q = node_at s p q ∷ flat_map (tree_from n) (below s (node_at s p q) q)

  abbrev pub tree_below : List ℕ → List Node
  tree_below q = tree_from (s.depth - length q) q

  -- the tree of the plan
  abbrev pub tree_of : List Node
  tree_of = tree_below []

-- ---- how many nodes are expanded

-- whether a node is an E whose bound passes a test
abbrev pub expands : (ℕ → Bool) → Node → Bool
expands test (Expand b) = test b
expands test (Bound b) = false
expands test Broken = false
expands test (Chosen b) = false

abbrev pub count_expands : (ℕ → Bool) → List Node → ℕ
count_expands test nodes = count_by (expands test) nodes
