-- serves proofs
-- Spaces that say the same of their partial plans.
use Rattle.std.specs.Prelude.{◌≡◌, ℕ, List}
use Rattle.sn_tree_space.specs.Space.{Space, IsPartial}

-- Two spaces are alike where their lists have at most as many choices, and of each partial plan they say the same: what may follow it, whether it is
-- broken, and its lower bound.
pub record AreAlike (a b : Space) : Type 0 where
  pub depth : a.depth ≡ b.depth
  pub follow : (q : List ℕ) → IsPartial a q → a.follow q ≡ b.follow q
  pub broken : (q : List ℕ) → IsPartial a q → a.broken q ≡ b.broken q
  pub lower : (q : List ℕ) → IsPartial a q → a.lower q ≡ b.lower q
