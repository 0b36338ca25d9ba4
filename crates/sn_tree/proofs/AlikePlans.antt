-- Spaces that are alike have the same partial plans and the same plans.
use Rattle.std.proofs.Common.{◌≡◌, ℕ, ◌≤◌, List, [], map, ap, sym, ◌∙◌, subst}
use Rattle.sn_tree.specs.Alike.{AreAlike}
use Rattle.sn_tree_space.specs.Space.{Space, IsOneOf, with_choice, choices_in, children, GoesOnTo, itself, through, IsPartial, IsPlan, IsFirstLeast}
use Rattle.sn_tree_space.proofs.Partials.{child_partial}

-- ---- partial plans

module _ (a b : Space) (alike : AreAlike a b) where
  pub same_children : (q : List ℕ) → IsPartial a q → children a q ≡ children b q
  same_children q part = ap (λ f. map (with_choice q) (choices_in f)) (alike.follow q part)

  same_way : (q r : List ℕ) → GoesOnTo a q r → IsPartial a q → GoesOnTo b q r
  same_way _ _ (itself q) part = itself q
  same_way _ _ (through q child r i g) part =
      through q child r (subst (λ l. IsOneOf child l) (same_children q part) i) (same_way child r g (child_partial a q child part i))

  same_partial : (q : List ℕ) → IsPartial a q → IsPartial b q
  same_partial q part = same_way [] q part (itself [])

  way_back : (q r : List ℕ) → GoesOnTo b q r → IsPartial a q → GoesOnTo a q r
  way_back _ _ (itself q) part = itself q
  way_back _ _ (through q child r i g) part =
      let here : IsOneOf child (children a q) = subst (λ l. IsOneOf child l) (sym (same_children q part)) i in
      through q child r here (way_back child r g (child_partial a q child part here))

  partial_back : (q : List ℕ) → IsPartial b q → IsPartial a q
  partial_back q part = way_back [] q part (itself [])

  -- the other way round they are alike too
  pub turned_alike : AreAlike b a
  turned_alike = record {
    depth = sym alike.depth;
    follow = λ q part. sym (alike.follow q (partial_back q part));
    broken = λ q part. sym (alike.broken q (partial_back q part));
    lower = λ q part. sym (alike.lower q (partial_back q part));
  }

pub partial_alike : (a b : Space) → AreAlike a b → (q : List ℕ) → IsPartial a q → IsPartial b q
partial_alike a b alike q part = same_partial a b alike q part

-- ---- plans

pub plan_alike : (a b : Space) → AreAlike a b → (r : List ℕ) → IsPlan a r → IsPlan b r
plan_alike a b alike r plan = record {
  partial = same_partial a b alike r plan.partial;
  complete = sym (alike.follow r plan.partial) ∙ plan.complete;
  unbroken = sym (alike.broken r plan.partial) ∙ plan.unbroken;
}

plan_back : (a b : Space) → AreAlike a b → (r : List ℕ) → IsPlan b r → IsPlan a r
plan_back a b alike r plan = plan_alike b a (turned_alike a b alike) r plan

-- the cost of a plan
pub cost_alike : (a b : Space) → AreAlike a b → (r : List ℕ) → IsPlan a r → a.lower r ≡ b.lower r
cost_alike a b alike r plan = alike.lower r plan.partial

pub first_least_alike : (a b : Space) → AreAlike a b → (p : List ℕ) → IsFirstLeast a p → IsFirstLeast b p
first_least_alike a b alike p best = record {
  plan = plan_alike a b alike p best.plan;
  least = λ r plan. let other = plan_back a b alike r plan in
      subst (λ (n : ℕ). n ≤ b.lower r) (alike.lower p best.plan.partial) (subst (λ (n : ℕ). a.lower p ≤ n) (alike.lower r other.partial) (best.least r other));
  first = λ r plan e. let other = plan_back a b alike r plan in
      best.first r other (alike.lower r other.partial ∙ e ∙ sym (alike.lower p best.plan.partial));
}
