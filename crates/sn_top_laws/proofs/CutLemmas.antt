-- The greatest cut of a branch is the greatest number of operators at its front that may stand in a switch.
use Rattle.std.proofs.Common.{◌≡◌, ℕ, zero, suc, ◌<◌, ◌≤◌, List, [], ◌∷◌, ◌++◌, filter, length, take, Bool, true, false, refl, ap, sym, subst, arith}
use Rattle.std.specs.List.{AllByRecursion}
use Rattle.std.proofs.Math.Bridge.{le_prop}
use Rattle.std.proofs.Math.Logic.{∥∥₁_elim}
use Rattle.sn_top_laws.specs.Cuts.{FiltersAfter, IsFilter, IsGreatestCut, MayStand, are_few}
use Rattle.sn_types.specs.declared.typed_op.TOp.{TOp}
use Rattle.sn_types.specs.declared.typed_op.TOp.TheVariants.{Filter, Map, Distinct, Reduce as Reduced}
use Rattle.sn_types.specs.declared.typed_op.TReduce.{TReduce}
use Rattle.sn_types.specs.declared.typed_query.TypedBranch.{TypedBranch}
use Rattle.sn_types.specs.declared.typed_query.TypedQuery.{TypedQuery}
use Rattle.sn_types.specs.Cuts.{cut_after_distinct, filters_ahead, greatest_cut, is_stateful}
use Rattle.sn_types.specs.Typed.{IsTyped, branch_at, query_at}
use Rattle.sn_types.proofs.Facts.{branch_source_of}
use Rattle.sn_engine_split.proofs.Typed.{cut_of}
use Rattle.sn_pipe.proofs.Fronts.{cut_short}

-- ---- the same, read from the front: after a reduce, after a distinct, and from the start

filters_alone : List TOp → Bool
filters_alone [] = true
filters_alone (Filter conds ∷ ops) = filters_alone ops
filters_alone (Map exprs ∷ ops) = false
filters_alone (Distinct ∷ ops) = false
filters_alone (Reduced r ∷ ops) = false

reduce_at_most : List TOp → Bool
reduce_at_most [] = true
reduce_at_most (Filter conds ∷ ops) = reduce_at_most ops
reduce_at_most (Map exprs ∷ ops) = reduce_at_most ops
reduce_at_most (Distinct ∷ ops) = false
reduce_at_most (Reduced r ∷ ops) = filters_alone ops

may_stand : List TOp → Bool
may_stand [] = true
may_stand (Filter conds ∷ ops) = may_stand ops
may_stand (Map exprs ∷ ops) = may_stand ops
may_stand (Distinct ∷ ops) = reduce_at_most ops
may_stand (Reduced r ∷ ops) = filters_alone ops

-- ---- this many are the greatest

Decides : (List TOp → Bool) → List TOp → ℕ → ℕ → Type 0
Decides test ops most n = (test (take n ops) ≡ true → n ≤ most) × (n ≤ most → test (take n ops) ≡ true)

first : (test : List TOp → Bool) (ops : List TOp) (most : ℕ) → test [] ≡ true → Decides test ops most 0
unfolding Decides
first test ops most e = (λ h. omega arith, λ h. e)

alone_decides : (ops : List TOp) (n : ℕ) → n ≤ length ops → Decides filters_alone ops (filters_ahead ops) n
unfolding Decides filters_alone
alone_decides ops zero le = (λ e. omega arith, λ h. refl)
alone_decides [] (suc n) le = absurd (omega (arith, le))
alone_decides (Filter conds ∷ ops) (suc n) le = let h = alone_decides ops n (omega (arith, le)) in (λ e. let k = h.0 e in omega (arith, k), λ k. h.1 (omega (arith, k)))
alone_decides (Map exprs ∷ ops) (suc n) le = (λ e. cc, λ k. absurd (omega (arith, k)))
alone_decides (Distinct ∷ ops) (suc n) le = (λ e. cc, λ k. absurd (omega (arith, k)))
alone_decides (Reduced r ∷ ops) (suc n) le = (λ e. cc, λ k. absurd (omega (arith, k)))

after_decides : (ops : List TOp) (n : ℕ) → n ≤ length ops → Decides reduce_at_most ops (cut_after_distinct ops) n
unfolding Decides reduce_at_most
after_decides ops zero le = (λ e. omega arith, λ h. refl)
after_decides [] (suc n) le = absurd (omega (arith, le))
after_decides (Filter conds ∷ ops) (suc n) le = let h = after_decides ops n (omega (arith, le)) in (λ e. let k = h.0 e in omega (arith, k), λ k. h.1 (omega (arith, k)))
after_decides (Map exprs ∷ ops) (suc n) le = let h = after_decides ops n (omega (arith, le)) in (λ e. let k = h.0 e in omega (arith, k), λ k. h.1 (omega (arith, k)))
after_decides (Distinct ∷ ops) (suc n) le = (λ e. cc, λ k. absurd (omega (arith, k)))
after_decides (Reduced r ∷ ops) (suc n) le = let h = alone_decides ops n (omega (arith, le)) in (λ e. let k = h.0 e in omega (arith, k), λ k. h.1 (omega (arith, k)))

front_decides : (ops : List TOp) (n : ℕ) → n ≤ length ops → Decides may_stand ops (greatest_cut ops) n
unfolding Decides may_stand
front_decides ops zero le = (λ e. omega arith, λ h. refl)
front_decides [] (suc n) le = absurd (omega (arith, le))
front_decides (Filter conds ∷ ops) (suc n) le = let h = front_decides ops n (omega (arith, le)) in (λ e. let k = h.0 e in omega (arith, k), λ k. h.1 (omega (arith, k)))
front_decides (Map exprs ∷ ops) (suc n) le = let h = front_decides ops n (omega (arith, le)) in (λ e. let k = h.0 e in omega (arith, k), λ k. h.1 (omega (arith, k)))
front_decides (Distinct ∷ ops) (suc n) le = let h = after_decides ops n (omega (arith, le)) in (λ e. let k = h.0 e in omega (arith, k), λ k. h.1 (omega (arith, k)))
front_decides (Reduced r ∷ ops) (suc n) le = let h = alone_decides ops n (omega (arith, le)) in (λ e. let k = h.0 e in omega (arith, k), λ k. h.1 (omega (arith, k)))

-- ---- from the sentence to the reading

later : (op : TOp) (ops : List TOp) → FiltersAfter (op ∷ ops) → FiltersAfter ops
later op ops h before following r e = h (op ∷ before) following r (ap (λ (xs : List TOp). op ∷ xs) e)

to_alone : (ops : List TOp) → AllByRecursion IsFilter ops → filters_alone ops ≡ true
unfolding filters_alone
to_alone [] h = refl
to_alone (Filter conds ∷ ops) h = to_alone ops h.1
to_alone (Map exprs ∷ ops) h = absurd h.0
to_alone (Distinct ∷ ops) h = absurd h.0
to_alone (Reduced r ∷ ops) h = absurd h.0

-- none or a reduce
is_one : List TOp → Bool
is_one [] = true
is_one (Reduced r ∷ []) = true
is_one ops = false

one_of_few : (ops : List TOp) → are_few (Distinct ∷ ops) ≡ true → is_one ops ≡ true
unfolding is_one
one_of_few [] e = refl
one_of_few (Reduced r ∷ []) e = refl
one_of_few (Reduced r ∷ op ∷ ops) e = cc
one_of_few (Filter conds ∷ ops) e = cc
one_of_few (Map exprs ∷ ops) e = cc
one_of_few (Distinct ∷ ops) e = cc

few_of_one : (ops : List TOp) → is_one ops ≡ true → are_few (Distinct ∷ ops) ≡ true
unfolding is_one
few_of_one [] e = refl
few_of_one (Reduced r ∷ []) e = refl
few_of_one (Reduced r ∷ op ∷ ops) e = cc
few_of_one (Filter conds ∷ ops) e = cc
few_of_one (Map exprs ∷ ops) e = cc
few_of_one (Distinct ∷ ops) e = cc

to_reduce : (ops : List TOp) → is_one (filter is_stateful ops) ≡ true → FiltersAfter ops → reduce_at_most ops ≡ true
unfolding reduce_at_most is_one
to_reduce [] e h = refl
to_reduce (Filter conds ∷ ops) e h = to_reduce ops e (later (Filter conds) ops h)
to_reduce (Map exprs ∷ ops) e h = to_reduce ops e (later (Map exprs) ops h)
to_reduce (Distinct ∷ ops) e h = cc
to_reduce (Reduced r ∷ ops) e h = to_alone ops (h [] ops r refl)

to_front : (ops : List TOp) → are_few (filter is_stateful ops) ≡ true → FiltersAfter ops → may_stand ops ≡ true
unfolding may_stand
to_front [] e h = refl
to_front (Filter conds ∷ ops) e h = to_front ops e (later (Filter conds) ops h)
to_front (Map exprs ∷ ops) e h = to_front ops e (later (Map exprs) ops h)
to_front (Distinct ∷ ops) e h = to_reduce ops (one_of_few (filter is_stateful ops) e) (later Distinct ops h)
to_front (Reduced r ∷ ops) e h = to_alone ops (h [] ops r refl)

-- ---- and back

rest_of : List TOp → List TOp
rest_of [] = []
rest_of (op ∷ ops) = ops

is_reduce_ahead : List TOp → Bool
is_reduce_ahead [] = false
is_reduce_ahead (Filter conds ∷ ops) = false
is_reduce_ahead (Map exprs ∷ ops) = false
is_reduce_ahead (Distinct ∷ ops) = false
is_reduce_ahead (Reduced r ∷ ops) = true

-- in front of what has only filters after its reduce stands another operator
ahead : (op : TOp) (ops : List TOp) → is_reduce_ahead (op ∷ ops) ≡ false → FiltersAfter ops → FiltersAfter (op ∷ ops)
unfolding is_reduce_ahead rest_of
ahead op ops not_one h [] following r e = let is_one_there = ap is_reduce_ahead e in cc
ahead op ops not_one h (other ∷ before) following r e = h before following r (ap rest_of e)

no_reduce : (before following : List TOp) (r : TReduce) → AllByRecursion IsFilter (before ++ Reduced r ∷ following) → ⊥
no_reduce [] following r h = h.0
no_reduce (op ∷ before) following r h = no_reduce before following r h.1

all_filters : (ops : List TOp) → filters_alone ops ≡ true → AllByRecursion IsFilter ops
unfolding filters_alone
all_filters [] e = tt
all_filters (Filter conds ∷ ops) e = (tt, all_filters ops e)
all_filters (Map exprs ∷ ops) e = cc
all_filters (Distinct ∷ ops) e = cc
all_filters (Reduced r ∷ ops) e = cc

none_stateful : (ops : List TOp) → filters_alone ops ≡ true → filter is_stateful ops ≡ []
unfolding filters_alone
none_stateful [] e = refl
none_stateful (Filter conds ∷ ops) e = none_stateful ops e
none_stateful (Map exprs ∷ ops) e = cc
none_stateful (Distinct ∷ ops) e = cc
none_stateful (Reduced r ∷ ops) e = cc

after_reduce : (r : TReduce) (ops : List TOp) → filters_alone ops ≡ true → FiltersAfter (Reduced r ∷ ops)
unfolding rest_of
after_reduce r ops e [] following other same = subst (AllByRecursion IsFilter) (ap rest_of same) (all_filters ops e)
after_reduce r ops e (op ∷ before) following other same = absurd (no_reduce before following other (subst (AllByRecursion IsFilter) (ap rest_of same) (all_filters ops e)))

none_before : (before following : List TOp) (r : TReduce) → [] ≡ before ++ Reduced r ∷ following → AllByRecursion IsFilter following
unfolding is_reduce_ahead
none_before [] following r same = let other = ap is_reduce_ahead same in cc
none_before (op ∷ before) following r same = cc

reduce_filters : (ops : List TOp) → reduce_at_most ops ≡ true → FiltersAfter ops
unfolding reduce_at_most is_reduce_ahead
reduce_filters [] e = none_before
reduce_filters (Filter conds ∷ ops) e = ahead (Filter conds) ops refl (reduce_filters ops e)
reduce_filters (Map exprs ∷ ops) e = ahead (Map exprs) ops refl (reduce_filters ops e)
reduce_filters (Distinct ∷ ops) e = cc
reduce_filters (Reduced r ∷ ops) e = after_reduce r ops e

reduce_one : (ops : List TOp) → reduce_at_most ops ≡ true → is_one (filter is_stateful ops) ≡ true
unfolding reduce_at_most is_one
reduce_one [] e = refl
reduce_one (Filter conds ∷ ops) e = reduce_one ops e
reduce_one (Map exprs ∷ ops) e = reduce_one ops e
reduce_one (Distinct ∷ ops) e = cc
reduce_one (Reduced r ∷ ops) e = ap (λ (xs : List TOp). is_one (Reduced r ∷ xs)) (none_stateful ops e)

stands : (ops : List TOp) → may_stand ops ≡ true → MayStand ops
unfolding may_stand is_reduce_ahead
stands [] e = record { few = refl; filters = none_before }
stands (Filter conds ∷ ops) e = let h = stands ops e in record { few = h.few; filters = ahead (Filter conds) ops refl h.filters }
stands (Map exprs ∷ ops) e = let h = stands ops e in record { few = h.few; filters = ahead (Map exprs) ops refl h.filters }
stands (Distinct ∷ ops) e = record { few = few_of_one (filter is_stateful ops) (reduce_one ops e); filters = ahead Distinct ops refl (reduce_filters ops e) }
stands (Reduced r ∷ ops) e = record { few = ap (λ (xs : List TOp). are_few (Reduced r ∷ xs)) (none_stateful ops e); filters = after_reduce r ops e }

-- ---- the greatest cut

greatest : (ops : List TOp) → IsGreatestCut ops (greatest_cut ops)
unfolding Decides
greatest ops = record {
  within = cut_short ops;
  stands = stands (take (greatest_cut ops) ops) ((front_decides ops (greatest_cut ops) (cut_short ops)).1 (omega arith));
  greatest = λ more le h. (front_decides ops more le).0 (to_front (take more ops) h.few h.filters);
}

pub greatest_of_branch : (window q b : ℕ) (queries : List TypedQuery) → ∥ IsTyped window queries ∥₁ → q < length queries → b < length (query_at queries q).branches
    → IsGreatestCut (branch_at queries q b).ops (branch_at queries q b).max_cut
greatest_of_branch window q b queries t lt within =
    let branch : TypedBranch = branch_at queries q b in
    let below = cut_of window queries q b branch.max_cut t lt within (omega arith) in
    let above : greatest_cut branch.ops ≤ branch.max_cut =
    ∥∥₁_elim t le_prop (λ t. let s = branch_source_of window queries q b t lt within in subst (λ (x : TypedBranch). greatest_cut x.ops ≤ x.max_cut) (sym s.is) (omega arith)) in
    let same : greatest_cut branch.ops ≡ branch.max_cut = omega (arith, below, above) in
    subst (IsGreatestCut branch.ops) same (greatest branch.ops)
