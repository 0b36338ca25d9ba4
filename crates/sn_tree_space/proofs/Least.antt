-- An accepted tree leaves no plan that costs less.
use Rattle.std.proofs.Common.{◌≡◌, ℕ, ◌≤◌, List, [], refl, subst, arith, inl, inr}
use Rattle.sn_tree_space.specs.declared.follow.Follow.TheVariants.{Complete, Choices}
use Rattle.sn_tree_space.specs.declared.node.Node.{Node}
use Rattle.sn_tree_space.specs.Space.{Space, SpaceLaws, IsOneOf, children, GoesOnTo, itself, through, IsPartial, IsPlan}
use Rattle.sn_tree_space.specs.Trees.{Covers, CoverAll, broken, chosen, bound, expand, none, each}
use Rattle.sn_tree_space.proofs.Partials.{child_partial, lower_along, broken_along, complete_stays}

module _ (s : Space) (p : List ℕ) (L : SpaceLaws s) (plan : IsPlan s p) where
  -- an incomplete list goes on to a plan through one of its children
  through_child : (q r : List ℕ) (first count : ℕ) → GoesOnTo s q r → s.follow q ≡ Choices first count → s.follow r ≡ Complete
      → (child : List ℕ) × IsOneOf child (children s q) × GoesOnTo s child r
  through_child _ _ first count (itself q) e f = cc
  through_child _ _ first count (through q child r i g) e f = (child, i, g)

  mutual
    least_below : (q : List ℕ) (nodes : List Node) → Covers s p q nodes → (r : List ℕ) → IsPartial s q → IsPlan s r → GoesOnTo s q r → s.lower p ≤ s.lower r
    least_below _ _ (broken q b) r part other g = let k = broken_along s L q r g part b in let n = other.unbroken in cc
    least_below _ _ chosen r part other g = subst (λ (l : List ℕ). s.lower p ≤ s.lower l) (complete_stays s p r g plan.complete) (omega arith)
    least_below _ _ (bound q h) r part other g = let k : s.lower q ≤ s.lower r = lower_along s L q r g part in omega arith
    least_below _ _ (expand q first count nodes e all) r part other g =
        let c = through_child q r first count g e other.complete in least_among (children s q) nodes all (λ child i. child_partial s q child part i) r other c.0 c.1 c.2

    least_among : (qs : List (List ℕ)) (nodes : List Node) → CoverAll s p qs nodes → ((q : List ℕ) → IsOneOf q qs → IsPartial s q) → (r : List ℕ) → IsPlan s r
        → (q : List ℕ) → IsOneOf q qs → GoesOnTo s q r → s.lower p ≤ s.lower r
    least_among _ _ none parts r other q i g = absurd i
    least_among _ _ (each q qs nodes more one all) parts r other t (inl e) g = least_below q nodes one r (parts q (inl refl)) other (subst (λ (l : List ℕ). GoesOnTo s l r) e g)
    least_among _ _ (each q qs nodes more one all) parts r other t (inr i) g = least_among qs more all (λ l j. parts l (inr j)) r other t i g

  pub least_by_cover : (nodes : List Node) → Covers s p [] nodes → (r : List ℕ) → IsPlan s r → s.lower p ≤ s.lower r
  least_by_cover nodes cover r other = least_below [] nodes cover r (itself []) other other.partial
