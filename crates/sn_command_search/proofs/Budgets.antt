-- A space has one first least plan, and each budget that is too small has one bound.
use Rattle.std.proofs.Common.{◌≡◌, ℕ, zero, suc, ◌+◌, ◌≤◌, ◌<◌, List, [], ◌∷◌, map, length, Bool, true, false, cond, refl, ap, sym, ◌∙◌, subst, arith, inl, inr, length-append, Ordering, Less, Equal, Greater}
use Rattle.std.specs.Prelude.{◌||◌, ◌&&◌, ◌==◌, nat_lt, nat_le}
use Rattle.std.specs.List.{sum_by}
use Rattle.std.specs.Ordering.{is_lt, is_gt, nat_cmp}
use Rattle.std.specs.Cmp.Lexicographic.{slice_cmp}
use Rattle.std.proofs.lemmas.List.Sums.{sum_by-cons}
use Rattle.std.proofs.lemmas.Bool.{ltb-true, ltb-false}
use Rattle.std.proofs.lemmas.Bool.Decides.{nat_tests}
use Rattle.std.proofs.lemmas.Map.Lookups.{exact_bytes}
use Rattle.sn_tree_space.specs.declared.node.Node.{Node}
use Rattle.sn_tree_space.specs.declared.node.Node.TheVariants.{Expand, Bound, Broken, Chosen}
use Rattle.sn_base.proofs.Lists.{by_test}
use Rattle.sn_tree_space.specs.Space.{Space, SpaceLaws, IsOneOf, with_choice, choices_in, children, itself, IsPartial, IsFirstLeast, stands_before}
use Rattle.sn_tree_space.specs.Trees.{node_at, tree_of, expands, count_expands}
use Rattle.sn_tree_space.specs.Searches.{IsBudgetBound, any_bound, weight}
use Rattle.sn_tree_space.proofs.Existence.{some_first_least}
use Rattle.sn_tree_space.proofs.Order.{not_after}
use Rattle.sn_tree_space.proofs.Partials.{child_partial, children_complete}
use Rattle.sn_tree_space.proofs.PlanTree.{node_case, NodeCase, is_broken, is_plan, is_bound, is_expand}
use Rattle.sn_tree_space.proofs.Weights.{weight_is}

-- ---- the first least plan

neither : (q p : List ℕ) (o : Ordering) → slice_cmp nat_cmp q p ≡ o → is_lt o ≡ false → is_gt o ≡ false → q ≡ p
neither q p Less e l g = cc
neither q p Equal e l g = exact_bytes q p e
neither q p Greater e l g = cc

pub first_once : (s : Space) (p q : List ℕ) → IsFirstLeast s p → IsFirstLeast s q → p ≡ q
first_once s p q P Q =
    let up = P.least q Q.plan in
    let down = Q.least p P.plan in
    let level : s.lower q ≡ s.lower p = omega arith in
    sym (neither q p (slice_cmp nat_cmp q p) refl (P.first q Q.plan level) (not_after q p (Q.first p P.plan (sym level))))

-- ---- counts by two tests

own_upto : (t u : ℕ → Bool) → ((n : ℕ) → t n ≡ true → u n ≡ true) → (n : Node) → cond {A = ℕ} (expands t n) 1 0 ≤ cond {A = ℕ} (expands u n) 1 0
own_upto t u h (Expand b) = by_test (t b) (λ is. rw (is, h b is) (omega arith)) (λ isnt. rw isnt (omega arith))
own_upto t u h (Bound b) = omega arith
own_upto t u h Broken = omega arith
own_upto t u h (Chosen b) = omega arith

-- a test that passes more counts no fewer
pub count_upto : (t u : ℕ → Bool) → ((n : ℕ) → t n ≡ true → u n ≡ true) → (nodes : List Node) → count_expands t nodes ≤ count_expands u nodes
count_upto t u h [] = omega arith
count_upto t u h (n ∷ nodes) =
    let one = own_upto t u h n in
    let rest = count_upto t u h nodes in
    let left = sum_by-cons (λ m. cond {A = ℕ} (expands t m) 1 0) n nodes in
    let right = sum_by-cons (λ m. cond {A = ℕ} (expands u m) 1 0) n nodes in omega arith

-- no bound is below 0
pub none_below_zero : (nodes : List Node) → count_expands (λ n. nat_lt n 0) nodes ≡ 0
none_below_zero [] = refl
none_below_zero (n ∷ nodes) =
    let one = own_none n in
    let rest = none_below_zero nodes in
    sum_by-cons (λ m. cond {A = ℕ} (expands (λ k. nat_lt k 0) m) 1 0) n nodes ∙ omega arith
  where
    own_none : (m : Node) → cond {A = ℕ} (expands (λ k. nat_lt k 0) m) 1 0 ≡ 0
    own_none (Expand b) = let no : nat_lt b 0 ≡ false = grind (arith, nat_tests) in ap (λ v. cond {A = ℕ} v 1 0) no
    own_none (Bound b) = refl
    own_none Broken = refl
    own_none (Chosen b) = refl

sums_same : {A : Type 0} (f g : A → ℕ) (xs : List A) → ((x : A) → IsOneOf x xs → f x ≡ g x) → sum_by f xs ≡ sum_by g xs
sums_same f g [] h = refl
sums_same f g (x ∷ xs) h =
    let one = h x (inl refl) in
    let rest = sums_same f g xs (λ y i. h y (inr i)) in
    let left = sum_by-cons f x xs in
    let right = sum_by-cons g x xs in omega arith

one_longer : (q child xs : List ℕ) → IsOneOf child (map (with_choice q) xs) → length child ≡ length q + 1
one_longer q child [] i = absurd i
one_longer q child (x ∷ xs) (inl e) = ap length e ∙ length-append q (x ∷ [])
one_longer q child (x ∷ xs) (inr i) = one_longer q child xs i

low_of : (a b : ℕ) (t : Bool) → (nat_lt a b || ((a == b) && t)) ≡ true → a ≤ b
low_of a b t h = grind (arith, nat_tests)

-- no E of the tree of the first least plan has a bound above that plan's cost
module _ (s : Space) (p : List ℕ) (L : SpaceLaws s) (F : IsFirstLeast s p) (t u : ℕ → Bool) (same : (n : ℕ) → n ≤ s.lower p → t n ≡ u n) where
  same_case : (q : List ℕ) (node : Node) → node_at s p q ≡ node → NodeCase s p q node → IsPartial s q → sum_by (weight s p t) (children s q) ≡ sum_by (weight s p u) (children s q) → weight s p t q ≡ weight s p u q
  same_case q node e (is_broken b k) part rest = weight_is s p L t q Broken (e ∙ k) part ∙ sym (weight_is s p L u q Broken (e ∙ k) part)
  same_case q node e (is_plan b k) part rest = weight_is s p L t q (Chosen (s.lower p)) (e ∙ k) part ∙ sym (weight_is s p L u q (Chosen (s.lower p)) (e ∙ k) part)
  same_case q node e (is_bound b k) part rest = weight_is s p L t q (Bound (s.lower q)) (e ∙ k) part ∙ sym (weight_is s p L u q (Bound (s.lower q)) (e ∙ k) part)
  same_case q node e (is_expand first count f ahead k) part rest =
      let low : s.lower q ≤ s.lower p = low_of (s.lower q) (s.lower p) (stands_before q p) ahead in
      weight_is s p L t q (Expand (s.lower q)) (e ∙ k) part
      ∙ ap (λ v. cond {A = ℕ} v 1 0 + sum_by (weight s p t) (children s q)) (same (s.lower q) low)
      ∙ ap (λ n. cond {A = ℕ} (u (s.lower q)) 1 0 + n) rest
      ∙ sym (weight_is s p L u q (Expand (s.lower q)) (e ∙ k) part)

  same_from : (n : ℕ) (q : List ℕ) → s.depth ≤ n + length q → IsPartial s q → weight s p t q ≡ weight s p u q
  same_from zero q d part =
      let none = children_complete s q (L.ends q part (omega arith)) in
      same_case q (node_at s p q) refl (node_case s p L F q part) part (ap (sum_by (weight s p t)) none ∙ sym (ap (sum_by (weight s p u)) none))
  same_from (suc n) q d part =
      same_case q (node_at s p q) refl (node_case s p L F q part) part
      (sums_same (weight s p t) (weight s p u) (children s q)
      (λ child i. let long = one_longer q child (choices_in (s.follow q)) i in same_from n child (omega arith) (child_partial s q child part i)))

  pub same_count : count_expands t (tree_of s p) ≡ count_expands u (tree_of s p)
  same_count = same_from s.depth [] (omega arith) (itself [])

-- ---- the bound of a budget

-- the least number that more bounds than this many don't pass
pub record IsPast (s : Space) (p : List ℕ) (nodes b : ℕ) : Type 0 where
  pub few : count_expands (λ n. nat_lt n b) (tree_of s p) ≤ nodes
  pub many : nodes < count_expands (λ n. nat_le n b) (tree_of s p)
  pub low : b ≤ s.lower p

module _ (s : Space) (L : SpaceLaws s) (nodes : ℕ) where
  module _ (p : List ℕ) (F : IsFirstLeast s p) (past : nodes < count_expands any_bound (tree_of s p)) where
    passes : (m : ℕ) → m ≤ s.lower p → nat_le m (s.lower p) ≡ true
    passes m h = grind (arith, nat_tests)

    at_most : (b m : ℕ) → nat_lt m (b + 1) ≡ true → nat_le m b ≡ true
    at_most b m h = grind (arith, nat_tests)

    at_end : (b : ℕ) → b ≡ s.lower p → nodes < count_expands (λ m. nat_le m b) (tree_of s p)
    at_end b e =
        let all : count_expands (λ m. nat_le m (s.lower p)) (tree_of s p) ≡ count_expands any_bound (tree_of s p) = same_count s p L F (λ m. nat_le m (s.lower p)) any_bound passes in
        rw e (omega arith)

    look : (n b : ℕ) → b + n ≡ s.lower p → count_expands (λ m. nat_lt m b) (tree_of s p) ≤ nodes → (c : ℕ) × IsPast s p nodes c
    look zero b e few = (b, record { few = few; many = at_end b (omega arith); low = omega arith })
    look (suc n) b e few =
        by_test (nat_lt nodes (count_expands (λ m. nat_le m b) (tree_of s p)))
        (λ is. (b, record { few = few; many = ltb-true nodes (count_expands (λ m. nat_le m b) (tree_of s p)) is; low = omega arith }))
        (λ isnt.
        let no = ltb-false nodes (count_expands (λ m. nat_le m b) (tree_of s p)) isnt in
        let more = count_upto (λ m. nat_lt m (b + 1)) (λ m. nat_le m b) (at_most b) (tree_of s p) in
        look n (b + 1) (omega arith) (omega arith))

    pub some_past : (b : ℕ) × IsPast s p nodes b
    some_past = look (s.lower p) 0 (omega arith) (let none = none_below_zero (tree_of s p) in omega arith)

    pub past_bound : (b : ℕ) → IsPast s p nodes b → IsBudgetBound s nodes b
    past_bound b h = record {
      past = λ q G. subst (λ (l : List ℕ). nodes < count_expands any_bound (tree_of s l)) (first_once s p q F G) past;
      few = λ q G. subst (λ (l : List ℕ). count_expands (λ n. nat_lt n b) (tree_of s l) ≤ nodes) (first_once s p q F G) h.few;
      many = λ q G. subst (λ (l : List ℕ). nodes < count_expands (λ n. nat_le n b) (tree_of s l)) (first_once s p q F G) h.many;
      no_less = λ r plan. let low = h.low in let least = F.least r plan in omega arith;
    }

  -- one of two bounds isn't below the other
  not_below : (p : List ℕ) (b c : ℕ) → IsFirstLeast s p → IsBudgetBound s nodes b → IsBudgetBound s nodes c → c ≤ b
  not_below p b c F B C = by_test (nat_lt b c) (λ is. absurd (apart (ltb-true b c is))) (λ isnt. let h = ltb-false b c isnt in omega arith)
    where
      apart : b < c → ⊥
      apart below =
          let many = B.many p F in
          let few = C.few p F in
          let upto = count_upto (λ n. nat_le n b) (λ n. nat_lt n c) (λ n h. grind (arith, nat_tests)) (tree_of s p) in omega arith

  pub bound_once : (b c : ℕ) → IsBudgetBound s nodes b → IsBudgetBound s nodes c → b ≡ c
  bound_once b c B C =
      let first = some_first_least s L in
      let up = not_below first.0 b c first.1 B C in
      let down = not_below first.0 c b first.1 C B in omega arith
