-- The counts of a window, front by front.
use Rattle.std.proofs.Common.{◌≡◌, ℕ, zero, suc, ◌+◌, ◌-◌, ◌*◌, ◌≤◌, ◌<◌, ◌^◌, List, [], ◌∷◌, ◌++◌, length, length-append, slice_get, slice_index, unwrap_or, nat_eq, nat_lt, true, Option, Some, refl, ap, sym, subst, ◌∙◌, arith}
use Rattle.std.proofs.Math.Pow.{pow_mono}
use Rattle.std.proofs.lemmas.Bool.{lt-ltb, ltb-true}
use Rattle.std.specs.FinSet as set
use Rattle.sn_base.proofs.Lists.{all_append, by_test}
use Rattle.sn_base.proofs.Tests.{by_order, nat_below}
use Rattle.sn_switch.specs.declared.switch.Switch.{Switch}
use Rattle.sn_types.specs.declared.typed_query.TypedQuery.{TypedQuery}
use Rattle.sn_plan_choices.specs.declared.costs.CostTable.{CostTable}
use Rattle.sn_plan_choices.specs.Costs.{HasPlaces}
use Rattle.sn_refine.specs.Refined.{Windows}
use Rattle.sn_refine.specs.Steps.{Set}
use Rattle.sn_cost.specs.Adding.{of_branches, where_so}
use Rattle.sn_cost.specs.Entries.{front_of}
use Rattle.sn_cost.specs.Training.{AddsFront, AddsFronts, HasFrontRoom, HaveAtMost, IsNext, Knows, answered_by, at_front, of_window, window_counts}
use Rattle.sn_cost.proofs.Bits.{front_none, some_level}
use Rattle.sn_cost.proofs.Growing.{adds_none, adds_then, both_where, next_where, place_on, zeros}
use Rattle.sn_windows.specs.Blocks.{most_records}

module _ (s : Switch) (q : ℕ) (query : TypedQuery) (last : Option ℕ) (sets : List Set) (w : ℕ) (tuples : List (List ℕ)) where
  -- ---- entries

  at_none : (windows : Windows) (prefix b option : ℕ) → prefix < 1 → at_front s query windows w prefix b option ≡ 0
  at_none windows prefix b option lt =
      let counted : ℕ = where_so (nat_lt b (length query.branches)) (slice_index (window_counts s query windows (front_of prefix query.levels) b w) option) in
      let e : prefix ≡ 0 = omega (arith, lt) in
      ap (λ n. where_so (nat_lt 0 n) counted) (ap (λ m. length (front_of m query.levels)) e ∙ ap length (front_none query.levels))

  pub no_fronts : (table : CostTable) → AddsFronts s q query 1 last sets w tuples table table
  no_fronts table = record {
    others = λ prefix b option le p. refl;
    places = λ queries has. has;
    adds = λ windows next. adds_none table (of_window s q query windows w 1) (λ q' prefix b option.
        zeros (nat_eq q q') true true (where_so (nat_lt prefix 1) (at_front s query windows w prefix b option))
        (by_test (nat_lt prefix 1) (λ is. ap (λ c. where_so c (at_front s query windows w prefix b option)) is ∙ at_none windows prefix b option (ltb-true prefix 1 is)) (λ isnt. ap (λ c. where_so c (at_front s query windows w prefix b option)) isnt)));
    small = λ windows next most few prefix b option lt. let e = at_none windows prefix b option lt in omega (arith, e);
  }

  -- what a front adds is what a window adds at it
  same_front : (n : ℕ) (old new : CostTable) (windows : Windows) (b option : ℕ) → 0 < n → n < 2 ^ length query.levels → (more : AddsFront s q query n last sets w tuples old new) → IsNext query windows last sets w tuples
      → where_so (nat_lt b (length query.branches)) (slice_index (more.counts b) option) ≡ at_front s query windows w n b option
  same_front n old new windows b option some lt more next =
      let counted : ℕ = where_so (nat_lt b (length query.branches)) (slice_index (window_counts s query windows (front_of n query.levels) b w) option) in
      ap (λ xs. where_so (nat_lt b (length query.branches)) (slice_index xs option)) (more.exact windows next b)
      ∙ sym (ap (λ c. where_so c counted) (lt-ltb 0 (length (front_of n query.levels)) (some_level n query.levels some lt)))

  pub next_front : (old table new : CostTable) (n : ℕ) → 0 < n → n < 2 ^ length query.levels → AddsFronts s q query n last sets w tuples old table → AddsFront s q query n last sets w tuples table new → AddsFronts s q query (n + 1) last sets w tuples old new
  next_front old table new n some lt so_far more = record {
    others = λ prefix b option le p.
        let grown = more.adds.grown q prefix b option (place_on old table q prefix b option so_far.places p) in
        let counted : ℕ = where_so (nat_lt b (length query.branches)) (slice_index (more.counts b) option) in
        let z = zeros (nat_eq q q) true true (where_so (nat_eq n prefix) counted) (ap (λ c. where_so c counted) (nat_below n prefix (omega (arith, le)))) in
        let same = so_far.others prefix b option (omega (arith, le)) p in
        omega (arith, grown, z, same);
    places = λ queries has. more.adds.places queries (so_far.places queries has);
    adds = λ windows next.
        adds_then old table new (of_window s q query windows w n) (of_branches q n (length query.branches) more.counts) (of_window s q query windows w (n + 1)) (so_far.adds windows next) more.adds
        (λ q' prefix b option.
        let counted : ℕ = where_so (nat_lt b (length query.branches)) (slice_index (more.counts b) option) in
        let all : ℕ → ℕ = λ m. at_front s query windows w m b option in
        both_where (nat_eq q q') (where_so (nat_lt prefix n) (all prefix)) (where_so (nat_eq n prefix) counted)
        ∙ ap (where_so (nat_eq q q')) (ap (λ m. where_so (nat_lt prefix n) (all prefix) + where_so (nat_eq n prefix) m) (same_front n table new windows b option some lt more next) ∙ next_where all prefix n));
    small = λ windows next most few prefix b option less.
        by_order prefix n (λ below. so_far.small windows next most few prefix b option below)
        (λ ge.
        let e : n ≡ prefix = omega (arith, less, ge) in
        subst (λ m. at_front s query windows w m b option ≤ 13 * most_records + s.weight * most) e
        (by_test (nat_lt b (length query.branches))
        (λ is.
        let same = same_front n table new windows b option some lt more next in
        let here = more.small most few b option (ltb-true b (length query.branches) is) in
        let whole = ap (λ c. where_so c (slice_index (more.counts b) option)) is in
        omega (arith, same, here, whole))
        (λ isnt.
        let same = same_front n table new windows b option some lt more next in
        let none = ap (λ c. where_so c (slice_index (more.counts b) option)) isnt in
        omega (arith, same, none))));
  }

  -- the next front has the room that it had
  pub room_left : (old table : CostTable) (n : ℕ) → HasPlaces old (q + 1) → n < 16 → AddsFronts s q query n last sets w tuples old table → HasFrontRoom old q n s.weight sets → HasFrontRoom table q n s.weight sets
  room_left old table n has of_prefix so_far room = λ at b of_branch option below.
      let same = so_far.others n b option (omega arith) (record { of_query = has; of_prefix = of_prefix; of_branch = of_branch; of_option = below }) in
      let r = room at b of_branch option below in
      omega (arith, same, r)

  -- ---- answers

  get_before : (xs : List Set) (x : Set) (i : ℕ) → i < length xs → unwrap_or (slice_get (xs ++ x ∷ []) i) set.empty ≡ unwrap_or (slice_get xs i) set.empty
  get_before [] x i lt = absurd (omega (arith, lt))
  get_before (y ∷ xs) x zero lt = refl
  get_before (y ∷ xs) x (suc i) lt = get_before xs x i (omega (arith, lt))

  get_end : (xs : List Set) (x : Set) → unwrap_or (slice_get (xs ++ x ∷ []) (length xs)) set.empty ≡ x
  get_end [] x = refl
  get_end (y ∷ xs) x = get_end xs x

  -- these sets are what the fronts below a number answer, whichever windows there are
  pub record Answer (n : ℕ) (found : List Set) : Type 0 where
    pub long : length found ≡ n
    pub few : HaveAtMost (length tuples) found
    pub exact : (windows : Windows) → IsNext query windows last sets w tuples → (m : ℕ) → 0 < m → m < n → m < 2 ^ (length query.levels - 1) → unwrap_or (slice_get found m) set.empty ≡ answered_by query windows m w

  pub none_answer : (x : Set) → set.len x ≤ length tuples → Answer 1 (x ∷ [])
  none_answer x few = record { long = refl; few = (few, tt); exact = λ windows next m some lt coarse. absurd (omega (arith, some, lt)) }

  pub next_answer : (n : ℕ) (found : List Set) (x : Set) → Answer n found → set.len x ≤ length tuples → ((windows : Windows) → IsNext query windows last sets w tuples → n < 2 ^ (length query.levels - 1) → x ≡ answered_by query windows n w) → Answer (n + 1) (found ++ x ∷ [])
  next_answer n found x so_far few is = record {
    long = let e = length-append found (x ∷ []) in let l = so_far.long in omega (arith, e, l);
    few = all_append (λ (y : Set). set.len y ≤ length tuples) found (x ∷ []) so_far.few (few, tt);
    exact = λ windows next m some lt coarse.
        by_order m n
        (λ below. get_before found x m (let l = so_far.long in omega (arith, below, l)) ∙ so_far.exact windows next m some below coarse)
        (λ ge.
        let e : n ≡ m = omega (arith, lt, ge) in
        let here : length found ≡ m = so_far.long ∙ e in
        ap (λ i. unwrap_or (slice_get (found ++ x ∷ []) i) set.empty) (sym here) ∙ get_end found x ∙ is windows next (omega (arith, e, coarse)) ∙ ap (λ i. answered_by query windows i w) e);
  }

  pub all_answer : (n : ℕ) (found : List Set) → 2 ^ length query.levels ≤ n → Answer n found → (windows : Windows) → IsNext query windows last sets w tuples → Knows query windows (Some w) found
  all_answer n found le so_far windows next m some coarse =
      let fewer : length query.levels - 1 ≤ length query.levels = omega arith in
      let most : 2 ^ (length query.levels - 1) ≤ 2 ^ length query.levels = pow_mono fewer in
      so_far.exact windows next m some (omega (arith, coarse, most, le)) coarse
