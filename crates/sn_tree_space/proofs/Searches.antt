-- A search that takes the lists that wait by their lower bound and then by their order.
use Rattle.std.proofs.Common.{◌≡◌, ◌≢◌, ℕ, ◌+◌, ◌≤◌, ◌<◌, List, [], ◌∷◌, ◌++◌, Bool, true, false, cond, refl, ap, sym, ◌∙◌, subst, arith, inl, inr}
use Rattle.std.specs.Prelude.{◌⊎◌, not, nat_lt, nat_le}
use Rattle.std.specs.List.{sum_by, filter, All}
use Rattle.std.proofs.lemmas.List.Sums.{sum_by-cons, sum_by-append}
use Rattle.std.proofs.lemmas.List.Elements.{All-nil, All-cons, All-head, All-tail}
use Rattle.std.proofs.lemmas.Bool.Decides.{nat_tests}
use Rattle.std.specs.Ordering.{is_gt, nat_cmp}
use Rattle.std.specs.Cmp.Lexicographic.{slice_cmp}
use Rattle.sn_tree_space.specs.declared.follow.Follow.TheVariants.{Complete, Choices}
use Rattle.sn_tree_space.specs.Space.{Space, SpaceLaws, IsOneOf, children, GoesOnTo, itself, through, IsPartial, IsPlan, IsFirstLeast, taken_before}
use Rattle.sn_tree_space.specs.Trees.{tree_of, count_expands}
use Rattle.sn_tree_space.specs.Searches.{any_bound, IsBudgetBound, weight, whole_children, Waits, Frontier, Explored}
use Rattle.sn_tree_space.proofs.Partials.{child_partial, lower_along, broken_along, begins}
use Rattle.sn_tree_space.proofs.Order.{front_first, stands_first, not_before, not_after, not_after_along, taken_later, taken_first}
use Rattle.sn_tree_space.proofs.PlanTree.{node_expand}
use Rattle.sn_tree_space.proofs.PlanAccepted.{one_of_front, one_of_back}
use Rattle.sn_tree_space.proofs.Weights.{weight_expand, weight_plan, whole_weight, no_weight, weight_later, weight_high}

-- ---- lists

pub at_each : {A : Type 0} (P : A → Type 0) (xs : List A) → All P xs → (x : A) → IsOneOf x xs → P x
at_each P [] h x i = absurd i
at_each P (y ∷ xs) h x (inl e) = subst P (sym e) (All-head P y xs h)
at_each P (y ∷ xs) h x (inr i) = at_each P xs (All-tail P y xs h) x i

pub all_from : {A : Type 0} (P : A → Type 0) (xs : List A) → ((x : A) → IsOneOf x xs → P x) → All P xs
all_from P [] h = All-nil P
all_from P (y ∷ xs) h = All-cons P y xs (h y (inl refl)) (all_from P xs (λ x i. h x (inr i)))

kept_from : {A : Type 0} (f : A → Bool) (y : A) (ys : List A) (b : Bool) → f y ≡ b → (x : A) → IsOneOf x (cond (f y) (y ∷ ys) ys) → ((x ≡ y) × (f y ≡ true)) ⊎ IsOneOf x ys
kept_from f y ys true e x i = elim (let k = subst (λ t. IsOneOf x (cond t (y ∷ ys) ys)) e i in k) [ inl h ↦ inl (h, e) | inr h ↦ inr h ]
kept_from f y ys false e x i = inr (subst (λ t. IsOneOf x (cond t (y ∷ ys) ys)) e i)

pub of_filter : {A : Type 0} (f : A → Bool) (xs : List A) (x : A) → IsOneOf x (filter f xs) → IsOneOf x xs × (f x ≡ true)
of_filter f [] x i = absurd i
of_filter f (y ∷ xs) x i = by_kept (λ j. of_filter f xs x j) (kept_from f y (filter f xs) (f y) refl x i)
  where
    by_kept : (IsOneOf x (filter f xs) → IsOneOf x xs × (f x ≡ true)) → ((x ≡ y) × (f y ≡ true)) ⊎ IsOneOf x (filter f xs) → IsOneOf x (y ∷ xs) × (f x ≡ true)
    by_kept rest (inl h) = (inl h.0, ap f h.0 ∙ h.1)
    by_kept rest (inr h) = (inr (rest h).0, (rest h).1)

kept_first : {A : Type 0} (f : A → Bool) (y : A) (ys : List A) → f y ≡ true → IsOneOf y (cond (f y) (y ∷ ys) ys)
kept_first f y ys e = subst (λ t. IsOneOf y (cond t (y ∷ ys) ys)) (sym e) (inl refl)

kept_later : {A : Type 0} (f : A → Bool) (y : A) (ys : List A) (b : Bool) → f y ≡ b → (x : A) → IsOneOf x ys → IsOneOf x (cond (f y) (y ∷ ys) ys)
kept_later f y ys true e x i = subst (λ t. IsOneOf x (cond t (y ∷ ys) ys)) (sym e) (inr i)
kept_later f y ys false e x i = subst (λ t. IsOneOf x (cond t (y ∷ ys) ys)) (sym e) i

pub in_filter : {A : Type 0} (f : A → Bool) (xs : List A) (x : A) → IsOneOf x xs → f x ≡ true → IsOneOf x (filter f xs)
in_filter f [] x i e = absurd i
in_filter f (y ∷ xs) x (inl h) e = subst (λ l. IsOneOf l (cond (f y) (y ∷ filter f xs) (filter f xs))) (sym h) (kept_first f y (filter f xs) (sym (ap f h) ∙ e))
in_filter f (y ∷ xs) x (inr i) e = kept_later f y (filter f xs) (f y) refl x (in_filter f xs x i e)

-- ---- what holds of the lists that wait

module _ (s : Space) (L : SpaceLaws s) where
  -- a list before a plan isn't broken
  unbroken_before : (q r : List ℕ) (b : Bool) → s.broken q ≡ b → IsPartial s q → IsPlan s r → GoesOnTo s q r → s.broken q ≡ false
  unbroken_before q r true e part plan g = let k = broken_along s L q r g part e in let n = plan.unbroken in cc
  unbroken_before q r false e part plan g = e

  pub frontier_first : Frontier s 0 ([] ∷ [])
  frontier_first =
      let plan = L.some_plan in record {
        each = All-cons (Waits s 0) [] [] (record { partial = itself []; unbroken = unbroken_before [] plan.0 (s.broken []) refl (itself []) plan.1 plan.1.partial; later = omega arith }) (All-nil (Waits s 0));
        reach = λ r other. ([], inl refl, other.partial);
      }

  module _ (q : List ℕ) (rest : List (List ℕ)) (first : (r : List ℕ) → IsOneOf r rest → taken_before s r q ≡ false) where
    -- no list that waits has a bound below that of the first
    least_waits : (r : List ℕ) → IsOneOf r (q ∷ rest) → s.lower q ≤ s.lower r
    least_waits r (inl e) = subst (λ (l : List ℕ). s.lower q ≤ s.lower l) (sym e) (omega arith)
    least_waits r (inr i) = (taken_later s r q (first r i)).0

    through_other : (r : List ℕ) (first count : ℕ) → GoesOnTo s q r → s.follow q ≡ Choices first count → s.follow r ≡ Complete
        → (child : List ℕ) × IsOneOf child (children s q) × GoesOnTo s child r
    through_other _ first count g e f = by_way q _ g e f
      where
        by_way : (q r : List ℕ) → GoesOnTo s q r → s.follow q ≡ Choices first count → s.follow r ≡ Complete → (child : List ℕ) × IsOneOf child (children s q) × GoesOnTo s child r
        by_way _ _ (itself q) e f = cc
        by_way _ _ (through q child r i g) e f = (child, i, g)

    module _ (last : ℕ) (W : Frontier s last (q ∷ rest)) where
      here : Waits s last q
      here = All-head (Waits s last) q rest W.each

      -- no plan costs less than the first that waits
      pub least_of_all : (r : List ℕ) → IsPlan s r → s.lower q ≤ s.lower r
      least_of_all r plan =
          let following = W.reach r plan in
          let part = (at_each (Waits s last) (q ∷ rest) W.each following.0 following.1).partial in
          let up = lower_along s L following.0 r following.2 part in
          let low = least_waits following.0 following.1 in omega arith

      not_negated : (b : Bool) → not b ≡ true → b ≡ false
      not_negated true h = cc
      not_negated false h = refl

      next_each : (r : List ℕ) → IsOneOf r (whole_children s q) ⊎ IsOneOf r rest → Waits s (s.lower q) r
      next_each r (inl i) =
          let k = of_filter (λ l. not (s.broken l)) (children s q) r i in
          record { partial = child_partial s q r here.partial k.0; unbroken = not_negated (s.broken r) k.1; later = L.rises q r here.partial k.0 }
      next_each r (inr i) =
          let w = at_each (Waits s last) (q ∷ rest) W.each r (inr i) in record { partial = w.partial; unbroken = w.unbroken; later = least_waits r (inr i) }

      split : (r : List ℕ) (xs ys : List (List ℕ)) → IsOneOf r (xs ++ ys) → IsOneOf r xs ⊎ IsOneOf r ys
      split r [] ys i = inr i
      split r (x ∷ xs) ys (inl e) = inl (inl e)
      split r (x ∷ xs) ys (inr i) = elim (split r xs ys i) [ inl k ↦ inl (inr k) | inr k ↦ inr k ]

      next_reach : (f count : ℕ) → s.follow q ≡ Choices f count → (r : List ℕ) → IsPlan s r → (t : List ℕ) → IsOneOf t (q ∷ rest) → GoesOnTo s t r
          → (u : List ℕ) × IsOneOf u (whole_children s q ++ rest) × GoesOnTo s u r
      next_reach f count e r plan t (inl same) g =
          let c = through_other r f count (subst (λ l. GoesOnTo s l r) same g) e plan.complete in
          let part = child_partial s q c.0 here.partial c.1 in
          let b = unbroken_before c.0 r (s.broken c.0) refl part plan c.2 in
          (c.0, one_of_front c.0 (whole_children s q) rest (in_filter (λ l. not (s.broken l)) (children s q) c.0 c.1 (ap not b)), c.2)
      next_reach f count e r plan t (inr i) g = (t, one_of_back t (whole_children s q) rest i, g)

      -- the first list that waits is expanded
      pub frontier_next : (f count : ℕ) → s.follow q ≡ Choices f count → Frontier s (s.lower q) (whole_children s q ++ rest)
      frontier_next f count e = record {
        each = all_from (Waits s (s.lower q)) (whole_children s q ++ rest) (λ r i. next_each r (split r (whole_children s q) rest i));
        reach = λ r plan. let following = W.reach r plan in next_reach f count e r plan following.0 following.1 following.2;
      }

      -- a complete list that is taken first is the first least plan
      pub first_is_least : s.follow q ≡ Complete → IsFirstLeast s q
      first_is_least e = record {
        plan = record { partial = here.partial; complete = e; unbroken = here.unbroken };
        least = least_of_all;
        first = λ r plan same. let following = W.reach r plan in not_before q r (not_earlier r same following.0 following.1 following.2);
      }
        where
          not_earlier : (r : List ℕ) → s.lower r ≡ s.lower q → (t : List ℕ) → IsOneOf t (q ∷ rest) → GoesOnTo s t r → is_gt (slice_cmp nat_cmp q r) ≡ false
          not_earlier r same t (inl k) g =
              let more = begins s t r g in
              ap (λ l. is_gt (slice_cmp nat_cmp q l)) (more.1 ∙ ap (λ l. l ++ more.0) k) ∙ front_first q more.0
          not_earlier r same t (inr i) g =
              let part = (at_each (Waits s last) (q ∷ rest) W.each t (inr i)).partial in
              let up = lower_along s L t r g part in
              let low = taken_later s t q (first t i) in
              let level : s.lower t ≡ s.lower q = omega arith in
              let more = begins s t r g in
              not_after_along q t r (not_after q t (low.1 level)) (ap (λ l. is_gt (slice_cmp nat_cmp t l)) more.1 ∙ front_first t more.0)

      -- ---- of the tree of the first least plan

      module _ (p : List ℕ) (F : IsFirstLeast s p) where
        -- an incomplete list that is taken first is taken before the plan
        taken_ahead : q ≢ p → taken_before s q p ≡ true
        taken_ahead n =
            let following = W.reach p F.plan in
            taken_first s q p (least_of_all p F.plan) (λ level. stands_first q p n (ahead level following.0 following.1 following.2))
          where
            ahead : s.lower q ≡ s.lower p → (t : List ℕ) → IsOneOf t (q ∷ rest) → GoesOnTo s t p → is_gt (slice_cmp nat_cmp q p) ≡ false
            ahead level t (inl k) g = let more = begins s t p g in ap (λ l. is_gt (slice_cmp nat_cmp q l)) (more.1 ∙ ap (λ l. l ++ more.0) k) ∙ front_first q more.0
            ahead level t (inr i) g =
                let part = (at_each (Waits s last) (q ∷ rest) W.each t (inr i)).partial in
                let up = lower_along s L t p g part in
                let low = taken_later s t q (first t i) in
                let same : s.lower t ≡ s.lower q = omega arith in
                let more = begins s t p g in
                not_after_along q t p (not_after q t (low.1 same)) (ap (λ l. is_gt (slice_cmp nat_cmp t l)) more.1 ∙ front_first t more.0)

        module _ (f count : ℕ) (e : s.follow q ≡ Choices f count) where
          incomplete : q ≢ p
          incomplete same = let k = ap s.follow same in let c = F.plan.complete in cc

          weight_here : (test : ℕ → Bool) → weight s p test q ≡ cond (test (s.lower q)) 1 0 + sum_by (weight s p test) (children s q)
          weight_here test = weight_expand s p L test q (node_expand s p q f count here.unbroken e F.plan.complete (taken_ahead incomplete)) here.partial

          next_sum : (test : ℕ → Bool) → sum_by (weight s p test) (whole_children s q ++ rest) ≡ sum_by (weight s p test) (children s q) + sum_by (weight s p test) rest
          next_sum test =
              sum_by-append (weight s p test) (whole_children s q) rest ∙ ap (λ n. n + sum_by (weight s p test) rest) (whole_weight s p L test q here.partial)

          pub explored_next : (expanded : ℕ) → Explored s p expanded last (q ∷ rest) → Explored s p (expanded + 1) (s.lower q) (whole_children s q ++ rest)
          explored_next expanded X = record { upto = upto_next; within = within_next }
            where
              upto_next : (test : ℕ → Bool) → ((n : ℕ) → n ≤ s.lower q → test n ≡ true) → expanded + 1 + sum_by (weight s p test) (whole_children s q ++ rest) ≡ weight s p test []
              upto_next test passes =
                  let old = X.upto test (λ n h. passes n (let up = here.later in omega arith)) in
                  let own : cond {A = ℕ} (test (s.lower q)) 1 0 ≡ 1 = ap (λ t. cond {A = ℕ} t 1 0) (passes (s.lower q) (omega arith)) in
                  let all = sum_by-cons (weight s p test) q rest in
                  let mine = weight_here test in
                  let next = next_sum test in omega arith

              within_next : (test : ℕ → Bool) → weight s p test [] ≤ expanded + 1 + sum_by (weight s p test) (whole_children s q ++ rest)
              within_next test =
                  let old = X.within test in
                  let own : cond {A = ℕ} (test (s.lower q)) 1 0 ≤ 1 = at_most_one (test (s.lower q)) in
                  let all = sum_by-cons (weight s p test) q rest in
                  let mine = weight_here test in
                  let next = next_sum test in omega arith
                where
                  at_most_one : (b : Bool) → cond {A = ℕ} b 1 0 ≤ 1
                  at_most_one true = omega arith
                  at_most_one false = omega arith

          least_weight : (test : ℕ → Bool) → test (s.lower q) ≡ true → 1 ≤ sum_by (weight s p test) (q ∷ rest)
          least_weight test passes =
              let own : cond {A = ℕ} (test (s.lower q)) 1 0 ≡ 1 = ap (λ t. cond {A = ℕ} t 1 0) passes in
              let all = sum_by-cons (weight s p test) q rest in
              let mine = weight_here test in omega arith

          -- with one E more than were expanded, whose bounds pass the test
          one_more : (test : ℕ → Bool) → ((n : ℕ) → n ≤ s.lower q → test n ≡ true) → (expanded : ℕ) → Explored s p expanded last (q ∷ rest) → expanded < weight s p test []
          one_more test passes expanded X =
              let all = X.upto test (λ n h. passes n (let up = here.later in omega arith)) in
              let one = least_weight test (passes (s.lower q) (omega arith)) in omega arith

          none_below : sum_by (weight s p (λ n. nat_lt n (s.lower q))) (q ∷ rest) ≡ 0
          none_below =
              no_weight s p L (λ n. nat_lt n (s.lower q)) (q ∷ rest)
              (λ r i. weight_high s p L F (s.lower q) r (at_each (Waits s last) (q ∷ rest) W.each r i).partial (least_waits r i))

          few_below : (expanded : ℕ) → Explored s p expanded last (q ∷ rest) → weight s p (λ n. nat_lt n (s.lower q)) [] ≤ expanded
          few_below expanded X = let all = X.within (λ n. nat_lt n (s.lower q)) in let none = none_below in omega arith

          at_most : (n : ℕ) → n ≤ s.lower q → nat_le n (s.lower q) ≡ true
          at_most n h = grind (arith, nat_tests)

      -- the bound of the first list that waits is that of the budget
      pub budget_bound : (f count : ℕ) → s.follow q ≡ Choices f count → (expanded : ℕ) → ((p : List ℕ) → IsFirstLeast s p → Explored s p expanded last (q ∷ rest))
          → IsBudgetBound s expanded (s.lower q)
      budget_bound f count e expanded X = record {
        past = λ p F. one_more p F f count e any_bound (λ n h. refl) expanded (X p F);
        few = λ p F. few_below p F f count e expanded (X p F);
        many = λ p F. one_more p F f count e (λ n. nat_le n (s.lower q)) (at_most p F f count e) expanded (X p F);
        no_less = least_of_all;
      }

      -- a complete list that is taken first has as many E in its tree as were expanded
      pub all_expanded : s.follow q ≡ Complete → (expanded : ℕ) → Explored s q expanded last (q ∷ rest) → count_expands any_bound (tree_of s q) ≡ expanded
      all_expanded e expanded X =
          let F = first_is_least e in
          let all = X.upto any_bound (λ n h. refl) in
          let none : sum_by (weight s q any_bound) (q ∷ rest) ≡ 0 = no_weight s q L any_bound (q ∷ rest) (λ r i. nothing F r i) in omega arith
        where
          nothing : IsFirstLeast s q → (r : List ℕ) → IsOneOf r (q ∷ rest) → weight s q any_bound r ≡ 0
          nothing F r (inl same) = ap (weight s q any_bound) same ∙ weight_plan s q L any_bound F.plan
          nothing F r (inr i) = weight_later s q L any_bound F r (at_each (Waits s last) (q ∷ rest) W.each r (inr i)).partial (first r i)

pub explored_first : (s : Space) (p : List ℕ) → Explored s p 0 0 ([] ∷ [])
explored_first s p = record { upto = λ test passes. one test; within = λ test. let k = one test in omega arith }
  where
    one : (test : ℕ → Bool) → 0 + sum_by (weight s p test) ([] ∷ []) ≡ weight s p test []
    one test = let k = sum_by-cons (weight s p test) [] [] in omega arith
