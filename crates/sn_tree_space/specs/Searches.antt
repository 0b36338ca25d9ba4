-- to be believed
-- How far a search has come that takes partial plans by their lower bound and then by their order.
use Rattle.std.specs.Prelude.{◌≡◌, ℕ, ◌+◌, ◌<◌, ◌≤◌, List, [], Bool, true, false, not, nat_lt, nat_le}
use Rattle.std.specs.List.{All, filter, sum_by}
use Rattle.sn_tree_space.specs.Space.{Space, IsOneOf, children, GoesOnTo, IsPartial, IsPlan, IsFirstLeast}
use Rattle.sn_tree_space.specs.Trees.{tree_of, tree_below, count_expands}

-- any bound
abbrev pub any_bound : ℕ → Bool
any_bound n = true

-- The number b that a budget of this many nodes names. The tree of the first least plan has more E than that. At most that many of them have a lower
-- bound below b, and more than that many have one of at most b. No plan costs less than b.
pub record IsBudgetBound (s : Space) (nodes b : ℕ) : Type 0 where
  pub past : (p : List ℕ) → IsFirstLeast s p → nodes < count_expands any_bound (tree_of s p)
  pub few : (p : List ℕ) → IsFirstLeast s p → count_expands (λ n. nat_lt n b) (tree_of s p) ≤ nodes
  pub many : (p : List ℕ) → IsFirstLeast s p → nodes < count_expands (λ n. nat_le n b) (tree_of s p)
  pub no_less : (r : List ℕ) → IsPlan s r → b ≤ s.lower r

-- the children that aren't broken
abbrev pub whole_children : Space → List ℕ → List (List ℕ)
whole_children s q = filter (λ l. not (s.broken l)) (children s q)

-- how many E with a bound that passes the test the tree of a plan has below a list
abbrev pub weight : Space → List ℕ → (ℕ → Bool) → List ℕ → ℕ
weight s p test q = count_expands test (tree_below s p q)

-- a list that waits to be taken, after one with this bound
pub record Waits (s : Space) (last : ℕ) (q : List ℕ) : Type 0 where
  pub partial : IsPartial s q
  pub unbroken : s.broken q ≡ false
  pub later : last ≤ s.lower q

-- The lists that wait: every plan is after one of them.
pub record Frontier (s : Space) (last : ℕ) (waiting : List (List ℕ)) : Type 0 where
  pub each : All (Waits s last) waiting
  pub reach : (r : List ℕ) → IsPlan s r → (q : List ℕ) × IsOneOf q waiting × GoesOnTo s q r

-- What was expanded so far, of the tree of p, and what is left below the lists that wait: this many E were expanded, with bounds of at most `last`.
pub record Explored (s : Space) (p : List ℕ) (count last : ℕ) (waiting : List (List ℕ)) : Type 0 where
  pub upto : (test : ℕ → Bool) → ((n : ℕ) → n ≤ last → test n ≡ true) → count + sum_by (weight s p test) waiting ≡ weight s p test []
  pub within : (test : ℕ → Bool) → weight s p test [] ≤ count + sum_by (weight s p test) waiting
