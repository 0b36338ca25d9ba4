-- The items of a prefix bring each fold what it has.
use Rattle.std.proofs.Common.{◌≡◌, ℕ, suc, ◌<◌, ◌≤◌, List, [], ◌∷◌, ◌++◌, map, filter, take, drop, length, Bool, true, false, ◌||◌, not, cond, refl, sym, ◌∙◌, subst, arith}
use Rattle.std.specs.List.{AllByRecursion}
use Rattle.std.proofs.lemmas.List.{length_push, take-append-drop}
use Rattle.sn_base.specs.AnyFold.{any_has}
use Rattle.sn_base.specs.Bags.{SameBag}
use Rattle.sn_base.specs.Groups.{Row, once, same_row}
use Rattle.sn_base.specs.Operators.{Grouping, Op, Had, row_for, key_of, pair_of, parted, through}
use Rattle.sn_base.specs.Operators.Op.{Filter, Map, Distinct, Reduce}
use Rattle.sn_report.specs.Items.{Item}
use Rattle.sn_report.specs.declared.frame.Tag.TheVariants.{At, Partial}
use Rattle.sn_base.proofs.Lists.{all_filter, all_map, nat_self as at_self}
use Rattle.sn_base.proofs.BagLemmas.{bag_then, bag_back}
use Rattle.sn_base.proofs.OnceLemmas.{all_once}
use Rattle.sn_base.proofs.GroupLemmas.{total, total_had, parted_row, key_long}
use Rattle.sn_base.proofs.OperatorLemmas.{AllOf, pairs_had, keys_had, had_rows_for, had_after}
use Rattle.sn_chain.specs.Homes.{homes_by_place}
use Rattle.sn_chain.proofs.HomeLemmas.{homes_known}
use Rattle.sn_pipe_items.specs.Items.{tagged, held}
use Rattle.sn_pipe_items.specs.Value.{is_at, is_partial, rows_with, value}
use Rattle.sn_pipe_items.proofs.Bagged.{some_row, resides, over_distinct, over_reduce, items_from, bagged}
use Rattle.sn_pipe_items.proofs.Cuts.{IsCut}
use Rattle.sn_pipe_items.proofs.Homes.{member, all_members}
use Rattle.sn_pipe_items.proofs.ItemLemmas.{rows_all, rows_none, rows_after, rows_front, no_at, no_partial}
use Rattle.sn_pipe_items.proofs.ValueBag.{IsHeld, PartialHad, ItemsHad, value_bag}
use Rattle.sn_pipe_items.proofs.SplitLaw as law
use Rattle.sn_base.proofs.Tests.{nat_apart as at_other}

no_rows : (op : Op) (ops : List Op) (rows : List Row) → rows ≡ [] → PartialHad op ops rows
no_rows (Filter t) ops rows none = tt
no_rows (Map f) ops rows none = tt
no_rows Distinct ops rows none = tt
no_rows (Reduce g) ops rows none = subst (AllByRecursion (IsHeld g ops)) (sym none) tt

-- items that no operator from i on takes
pub had_none : (i : ℕ) (ops : List Op) (xs : List Item) → ((j : ℕ) → i ≤ j → rows_with (is_partial j) xs ≡ []) → ((j : ℕ) → i < j → rows_with (is_at j) xs ≡ []) → ItemsHad i ops xs
had_none i [] xs none_partial none = tt
had_none i (op ∷ ops) xs none_partial none = (
  no_rows op ops (rows_with (is_partial i) xs) (none_partial i (omega arith)),
  subst (AllByRecursion (Had ops)) (sym (none (suc i) (omega arith))) tt,
  had_none (suc i) ops xs (λ j le. none_partial j (omega arith)) (λ j lt. none j (omega arith)),
)

had_following : (i d : ℕ) → d ≤ i → (ops : List Op) (rows : List Row) (xs : List Item) → ItemsHad i ops xs → ItemsHad i ops (tagged (At d) rows ++ xs)
had_following i d le [] rows xs h = tt
had_following i d le (op ∷ ops) rows xs h = (
  subst (PartialHad op ops) (sym (rows_after (is_partial i) (At d) refl rows xs)) h.0,
  subst (AllByRecursion (Had ops)) (sym (rows_after (is_at (suc i)) (At d) (at_other (suc i) d (λ e. omega arith)) rows xs)) h.1,
  had_following (suc i) d (omega arith) ops rows xs h.2,
)

module _ (depth : ℕ) (size : ℕ → ℕ) where
  abbrev homes : ℕ → List Row → List Row
  homes i keys = homes_by_place depth (size i) keys

  onward_keys : (i : ℕ) (g : Grouping) (ops : List Op) (flow : List Row) → AllOf (Reduce g ∷ ops) flow → AllByRecursion (λ k. (a : ℕ) → any_has g.by a → Had ops (k ++ a ∷ [])) (homes i (map (key_of g) flow))
  onward_keys i g ops flow had =
      let P : Row → Type 0 = λ k. (a : ℕ) → any_has g.by a → Had ops (k ++ a ∷ []) in
      all_members P (homes i (map (key_of g) flow)) (λ k is. member P k (map (key_of g) flow) (keys_had g ops flow had) (homes_known depth (size i) (map (key_of g) flow) k is))

  held_all : (i : ℕ) (g : Grouping) (ops : List Op) (flow : List Row) → AllOf (Reduce g ∷ ops) flow → AllOf ops (held depth size i g flow)
  held_all i g ops flow had = had_rows_for g ops (map (pair_of g) flow) (pairs_had g ops flow had) (homes i (map (key_of g) flow)) (onward_keys i g ops flow had)

  -- held rows are rows of the reduce
  held_are : (i : ℕ) (g : Grouping) (ops : List Op) (flow : List Row) → AllOf (Reduce g ∷ ops) flow → AllByRecursion (IsHeld g ops) (held depth size i g flow)
  held_are i g ops flow had =
      let P : Row → Type 0 = λ k. (a : ℕ) → any_has g.by a → Had ops (k ++ a ∷ []) in
      let hs = homes i (map (key_of g) flow) in
      let pairs = map (pair_of g) flow in
      all_map (IsHeld g ops) (row_for g pairs) hs (all_members (λ k. IsHeld g ops (row_for g pairs k)) hs (λ k is.
      let long : length k ≡ length g.places = key_long g k flow (homes_known depth (size i) (map (key_of g) flow) k is) in
      let parts : parted g (row_for g pairs k) ≡ (k, total g pairs k) = parted_row g pairs k long in
      record {
        long = let pushed = length_push k (total g pairs k) in omega (arith, pushed, long);
        number = subst (λ (p : Row × ℕ). any_has g.by p.1) (sym parts) (total_had g pairs k (pairs_had g ops flow had));
        onward = subst (λ (p : Row × ℕ). P p.0) (sym parts) (member P k hs (onward_keys i g ops flow had) is);
      }))

  none_in_rest : (i : ℕ) (sp : Bool) (ops : List Op) (kept : List Row) → rows_with (is_at i) (cond sp (tagged (Partial i) kept) (items_from depth size (suc i) sp ops kept)) ≡ []
  none_in_rest i true ops kept = rows_none (is_at i) (Partial i) refl kept
  none_in_rest i false ops kept = no_at depth size i (suc i) (omega arith) false ops kept

  at_had : (i : ℕ) (sp : Bool) (front back : List Op) (flow : List Row) → AllOf (front ++ back) flow → AllOf (front ++ back) (rows_with (is_at i) (items_from depth size i sp front flow))
  at_had i sp [] back flow had = subst (AllByRecursion (Had back)) (sym (rows_all (is_at i) (At i) (at_self i) flow)) had
  at_had i sp (Filter t ∷ front) back flow had = subst (AllByRecursion (Had (Filter t ∷ (front ++ back)))) (sym (no_at depth size i (suc i) (omega arith) sp front (filter t flow))) tt
  at_had i sp (Map f ∷ front) back flow had = subst (AllByRecursion (Had (Map f ∷ (front ++ back)))) (sym (no_at depth size i (suc i) (omega arith) sp front (map f flow))) tt
  at_had i sp (Distinct ∷ front) back flow had =
      let over = over_distinct depth size i flow in
      let b = sp || some_row over in
      let stay = once same_row (filter (resides depth size i flow) flow) in
      subst (AllByRecursion (Had (Distinct ∷ (front ++ back)))) (sym (rows_front (is_at i) (At i) (at_self i) over (items_from depth size (suc i) b front stay) (no_at depth size i (suc i) (omega arith) b front stay)))
      (all_filter (Had (Distinct ∷ (front ++ back))) (λ row. not (resides depth size i flow row)) flow had)
  at_had i sp (Reduce g ∷ front) back flow had =
      let over = over_reduce depth size i g flow in
      let kept = held depth size i g flow in
      subst (AllByRecursion (Had (Reduce g ∷ (front ++ back)))) (sym (rows_front (is_at i) (At i) (at_self i) over (cond sp (tagged (Partial i) kept) (items_from depth size (suc i) sp front kept)) (none_in_rest i sp front kept)))
      (all_filter (Had (Reduce g ∷ (front ++ back))) (λ row. not (resides depth size i (map (key_of g) flow) (key_of g row))) flow had)

  -- the items of a pipe bring the engine's folds numbers that they have
  items_had : (i : ℕ) (sp : Bool) (front back : List Op) (flow : List Row) → AllOf (front ++ back) flow → ItemsHad i (front ++ back) (items_from depth size i sp front flow)
  items_had i sp [] back flow had =
      had_none i back (tagged (At i) flow) (λ j le. rows_none (is_partial j) (At i) refl flow) (λ j lt. rows_none (is_at j) (At i) (at_other j i (λ e. omega arith)) flow)
  items_had i sp (Filter t ∷ front) back flow had =
      let next = had_after (Filter t) (front ++ back) flow had in
      (tt, at_had (suc i) sp front back (filter t flow) next, items_had (suc i) sp front back (filter t flow) next)
  items_had i sp (Map f ∷ front) back flow had =
      let next = had_after (Map f) (front ++ back) flow had in
      (tt, at_had (suc i) sp front back (map f flow) next, items_had (suc i) sp front back (map f flow) next)
  items_had i sp (Distinct ∷ front) back flow had =
      let ops = front ++ back in
      let over = over_distinct depth size i flow in
      let b = sp || some_row over in
      let stay = once same_row (filter (resides depth size i flow) flow) in
      let rest = items_from depth size (suc i) b front stay in
      let next = all_once same_row (Had ops) (filter (resides depth size i flow) flow) (all_filter (Had ops) (resides depth size i flow) flow had) in (
        tt,
        subst (AllByRecursion (Had ops)) (sym (rows_after (is_at (suc i)) (At i) (at_other (suc i) i (λ e. omega arith)) over rest)) (at_had (suc i) b front back stay next),
        had_following (suc i) i (omega arith) ops over rest (items_had (suc i) b front back stay next),
      )
  items_had i true (Reduce g ∷ front) back flow had =
      let ops = front ++ back in
      let over = over_reduce depth size i g flow in
      let kept = held depth size i g flow in
      let rest = tagged (Partial i) kept in (
        subst (AllByRecursion (IsHeld g ops)) (sym (rows_after (is_partial i) (At i) refl over rest ∙ rows_all (is_partial i) (Partial i) (at_self i) kept)) (held_are i g ops flow had),
        subst (AllByRecursion (Had ops)) (sym (rows_after (is_at (suc i)) (At i) (at_other (suc i) i (λ e. omega arith)) over rest ∙ rows_none (is_at (suc i)) (Partial i) refl kept)) tt,
        had_following (suc i) i (omega arith) ops over rest
            (had_none (suc i) ops rest (λ j le. rows_none (is_partial j) (Partial i) (at_other j i (λ e. omega arith)) kept) (λ j lt. rows_none (is_at j) (Partial i) refl kept)),
      )
  items_had i false (Reduce g ∷ front) back flow had =
      let ops = front ++ back in
      let over = over_reduce depth size i g flow in
      let kept = held depth size i g flow in
      let rest = items_from depth size (suc i) false front kept in
      let next = held_all i g ops flow had in (
        subst (AllByRecursion (IsHeld g ops)) (sym (rows_after (is_partial i) (At i) refl over rest ∙ no_partial depth size i (suc i) (omega arith) false front kept)) tt,
        subst (AllByRecursion (Had ops)) (sym (rows_after (is_at (suc i)) (At i) (at_other (suc i) i (λ e. omega arith)) over rest)) (at_had (suc i) false front back kept next),
        had_following (suc i) i (omega arith) ops over rest (items_had (suc i) false front back kept next),
      )

  pub items_had_all : (ops : List Op) (cut : ℕ) (rows : List Row) → AllOf ops rows → ItemsHad 0 ops (bagged depth size cut ops rows)
  items_had_all ops cut rows had =
      let front = take cut ops in
      subst (λ (os : List Op). ItemsHad 0 os (items_from depth size 0 false front rows)) (take-append-drop cut ops)
      (items_had 0 false front (drop cut ops) rows (subst (λ (os : List Op). AllOf os rows) (sym (take-append-drop cut ops)) had))

  pub first_had : (ops : List Op) (cut : ℕ) (rows : List Row) → AllOf ops rows → AllOf ops (rows_with (is_at 0) (bagged depth size cut ops rows))
  first_had ops cut rows had =
      let front = take cut ops in
      subst (λ (os : List Op). AllOf os (rows_with (is_at 0) (items_from depth size 0 false front rows))) (take-append-drop cut ops)
      (at_had 0 false front (drop cut ops) rows (subst (λ (os : List Op). AllOf os rows) (sym (take-append-drop cut ops)) had))

  -- in whatever order the items come
  pub split_any : (ops : List Op) (cut : ℕ) (rows : List Row) (found : List Item) → IsCut (take cut ops) → AllOf ops rows → SameBag (bagged depth size cut ops rows) found → SameBag (value ops found) (through ops rows)
  split_any ops cut rows found c had b =
      bag_then (bag_back (value ops (bagged depth size cut ops rows)) (value ops found) (value_bag ops (bagged depth size cut ops rows) found b (first_had ops cut rows had) (items_had_all ops cut rows had)))
      (law.split depth size ops cut rows c had)
