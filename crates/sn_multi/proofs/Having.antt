-- The items of several switches are had by the engine's operators, so their order is free.
use Rattle.std.proofs.Common.{◌≡◌, ℕ, suc, List, [], ◌∷◌, ◌++◌, map, filter, take, drop, length, Bool, not, refl, ap, sym, ◌∙◌, subst, arith}
use Rattle.std.specs.List.{AllByRecursion}
use Rattle.std.proofs.lemmas.List.{length-append, take-append-drop}
use Rattle.sn_base.specs.AnyFold.{any_has}
use Rattle.sn_base.specs.Bags.{SameBag}
use Rattle.sn_base.specs.Groups.{Row, same_row}
use Rattle.sn_base.specs.Operators.{Grouping, Op, Had, key_of, pair_of, parted, row_for, through}
use Rattle.sn_base.specs.Operators.Op.{Filter, Map, Distinct, Reduce}
use Rattle.sn_base.proofs.Lists.{all_append, all_filter, all_front, all_map, all_rest, nat_self}
use Rattle.sn_base.proofs.Tests.{nat_apart}
use Rattle.sn_base.proofs.BagLemmas.{bag_back, bag_then}
use Rattle.sn_base.proofs.OnceLemmas.{all_once}
use Rattle.sn_base.proofs.GroupLemmas.{key_long, parted_row, total, total_had}
use Rattle.sn_base.proofs.OperatorLemmas.{AllOf, had_after, keys_had, pairs_had}
use Rattle.sn_chain.specs.Chain.{has_home}
use Rattle.sn_chain.specs.Homes.{homes_by_place}
use Rattle.sn_chain.proofs.HomeLemmas.{homes_known}
use Rattle.sn_pipe_items.specs.Items.{held, tagged}
use Rattle.sn_pipe_items.specs.Value.{is_at, is_partial, rows_with, value}
use Rattle.sn_pipe_items.proofs.Homes.{all_members, member}
use Rattle.sn_pipe_items.proofs.ItemLemmas.{rows_all, rows_after, rows_none}
use Rattle.sn_pipe_items.proofs.ItemsHadLemmas.{had_none}
use Rattle.sn_pipe_items.proofs.LeftLaw.{items_had_bag}
use Rattle.sn_pipe_items.proofs.ValueBag.{IsHeld, ItemsHad, PartialHad, value_bag}
use Rattle.sn_report.specs.Items.{Item}
use Rattle.sn_report.specs.declared.frame.Tag.TheVariants.{At, Partial}
use Rattle.sn_multi.specs.Switches.{all_items, beyond, beyond_keys, firsts, switch_items}
use Rattle.sn_multi.proofs.Merging.{from, merged, none_one, rows_both, rows_in}

-- ---- items in two parts

partial_both : (op : Op) (ops : List Op) (xs ys : List Row) → PartialHad op ops xs → PartialHad op ops ys → PartialHad op ops (xs ++ ys)
partial_both (Filter t) ops xs ys h k = tt
partial_both (Map f) ops xs ys h k = tt
partial_both Distinct ops xs ys h k = tt
partial_both (Reduce g) ops xs ys h k = all_append (IsHeld g ops) xs ys h k

had_both : (i : ℕ) (ops : List Op) (xs ys : List Item) → ItemsHad i ops xs → ItemsHad i ops ys → ItemsHad i ops (xs ++ ys)
had_both i [] xs ys h k = tt
had_both i (op ∷ ops) xs ys h k = (
  subst (PartialHad op ops) (sym (rows_both (is_partial i) xs ys)) (partial_both op ops (rows_with (is_partial i) xs) (rows_with (is_partial i) ys) h.0 k.0),
  subst (AllByRecursion (Had ops)) (sym (rows_both (is_at (suc i)) xs ys)) (all_append (Had ops) (rows_with (is_at (suc i)) xs) (rows_with (is_at (suc i)) ys) h.1 k.1),
  had_both (suc i) ops xs ys h.2 k.2,
)

module _ (depth : ℕ) (size : ℕ → ℕ) where
  -- held rows are rows of the reduce
  held_are : (i : ℕ) (g : Grouping) (ops : List Op) (flow : List Row) → AllOf (Reduce g ∷ ops) flow → AllByRecursion (IsHeld g ops) (held depth size i g flow)
  held_are i g ops flow had =
      let P : Row → Type 0 = λ k. (a : ℕ) → any_has g.by a → Had ops (k ++ a ∷ []) in
      let hs = homes_by_place depth (size i) (map (key_of g) flow) in
      let pairs = map (pair_of g) flow in
      all_map (IsHeld g ops) (row_for g pairs) hs (all_members (λ k. IsHeld g ops (row_for g pairs k)) hs (λ k is.
      let among = homes_known depth (size i) (map (key_of g) flow) k is in
      let long : length k ≡ length g.places = key_long g k flow among in
      let parts : parted g (row_for g pairs k) ≡ (k, total g pairs k) = parted_row g pairs k long in
      record {
        long = let pushed = length-append k (total g pairs k ∷ []) in omega (arith, pushed, long);
        number = subst (λ (p : Row × ℕ). any_has g.by p.1) (sym parts) (total_had g pairs k (pairs_had g ops flow had));
        onward = subst (λ (p : Row × ℕ). P p.0) (sym parts) (member P k (map (key_of g) flow) (keys_had g ops flow had) among);
      }))

  -- what one switch sends
  record OneHad (i : ℕ) (ops : List Op) (found : List Item) : Type 0 where
    rows : AllOf ops (rows_with (is_at i) found)
    items : ItemsHad i ops found

  one_had : (i : ℕ) (front back : List Op) (flow : List Row) → AllOf (front ++ back) flow → OneHad i (front ++ back) (switch_items depth size i front flow)
  one_had i [] back flow had = record {
    rows = subst (AllByRecursion (Had back)) (sym (rows_all (is_at i) (At i) (nat_self i) flow)) had;
    items = had_none i back (tagged (At i) flow) (λ j le. rows_none (is_partial j) (At i) refl flow) (λ j lt. rows_none (is_at j) (At i) (nat_apart j i (λ e. omega arith)) flow);
  }
  one_had i (Filter t ∷ front) back flow had =
      let next = one_had (suc i) front back (filter t flow) (had_after (Filter t) (front ++ back) flow had) in
      record { rows = subst (AllByRecursion (Had (Filter t ∷ (front ++ back)))) (sym (none_one depth size i front (filter t flow))) tt; items = (tt, next.rows, next.items) }
  one_had i (Map f ∷ front) back flow had =
      let next = one_had (suc i) front back (map f flow) (had_after (Map f) (front ++ back) flow had) in
      record { rows = subst (AllByRecursion (Had (Map f ∷ (front ++ back)))) (sym (none_one depth size i front (map f flow))) tt; items = (tt, next.rows, next.items) }
  one_had i (Distinct ∷ front) back flow had =
      let ops = front ++ back in
      let rows = beyond depth size i flow ++ firsts depth size i flow in
      let t : Row → Bool = λ row. has_home depth (size i) flow row in
      record {
        rows = subst (AllByRecursion (Had (Distinct ∷ ops))) (sym (rows_all (is_at i) (At i) (nat_self i) rows))
            (all_append (Had (Distinct ∷ ops)) (beyond depth size i flow) (firsts depth size i flow) (all_filter (Had (Distinct ∷ ops)) (λ row. not (t row)) flow had) (all_once same_row (Had (Distinct ∷ ops)) (filter t flow) (all_filter (Had (Distinct ∷ ops)) t flow had)));
        items = (
          tt,
          subst (AllByRecursion (Had ops)) (sym (rows_none (is_at (suc i)) (At i) (nat_apart (suc i) i (λ e. omega arith)) rows)) tt,
          had_none (suc i) ops (tagged (At i) rows) (λ j le. rows_none (is_partial j) (At i) refl rows) (λ j lt. rows_none (is_at j) (At i) (nat_apart j i (λ e. omega arith)) rows),
        );
      }
  one_had i (Reduce g ∷ front) back flow had =
      let ops = front ++ back in
      let over = beyond_keys depth size i g flow in
      let kept = held depth size i g flow in
      let rest = tagged (Partial i) kept in
      record {
        rows = subst (AllByRecursion (Had (Reduce g ∷ ops))) (sym (rows_both (is_at i) (tagged (At i) over) rest ∙ ap (λ xs. xs ++ rows_with (is_at i) rest) (rows_all (is_at i) (At i) (nat_self i) over) ∙ ap (λ xs. over ++ xs) (rows_none (is_at i) (Partial i) refl kept)))
            (all_append (Had (Reduce g ∷ ops)) over [] (all_filter (Had (Reduce g ∷ ops)) (λ row. not (has_home depth (size i) (map (key_of g) flow) (key_of g row))) flow had) tt);
        items = (
          subst (AllByRecursion (IsHeld g ops)) (sym (rows_after (is_partial i) (At i) refl over rest ∙ rows_all (is_partial i) (Partial i) (nat_self i) kept)) (held_are i g ops flow had),
          subst (AllByRecursion (Had ops)) (sym (rows_after (is_at (suc i)) (At i) (nat_apart (suc i) i (λ e. omega arith)) over rest ∙ rows_none (is_at (suc i)) (Partial i) refl kept)) tt,
          had_none (suc i) ops (tagged (At i) over ++ rest)
              (λ j le. rows_after (is_partial j) (At i) refl over rest ∙ rows_none (is_partial j) (Partial i) (nat_apart j i (λ e. omega arith)) kept)
              (λ j lt. rows_after (is_at j) (At i) (nat_apart j i (λ e. omega arith)) over rest ∙ rows_none (is_at j) (Partial i) refl kept),
        );
      }

  -- what all send
  all_had : (front back : List Op) (flows : List (List Row)) → AllOf (front ++ back) (rows_in flows) → OneHad 0 (front ++ back) (from depth size 0 front flows)
  all_had front back [] had = record { rows = tt; items = had_none 0 (front ++ back) [] (λ j le. refl) (λ j lt. refl) }
  all_had front back (flow ∷ flows) had =
      let ops = front ++ back in
      let own = one_had 0 front back flow (all_front (Had ops) flow (rows_in flows) had) in
      let rest = all_had front back flows (all_rest (Had ops) flow (rows_in flows) had) in
      let one = switch_items depth size 0 front flow in
      let others = from depth size 0 front flows in
      record {
        rows = subst (AllByRecursion (Had ops)) (sym (rows_both (is_at 0) one others)) (all_append (Had ops) (rows_with (is_at 0) one) (rows_with (is_at 0) others) own.rows rest.rows);
        items = had_both 0 ops one others own.items rest.items;
      }

  sent_had : (cut : ℕ) (ops : List Op) (flows : List (List Row)) → AllOf ops (rows_in flows) → OneHad 0 ops (all_items depth size cut ops flows)
  sent_had cut ops flows had =
      let whole : take cut ops ++ drop cut ops ≡ ops = take-append-drop cut ops in
      subst (λ (os : List Op). OneHad 0 os (all_items depth size cut ops flows)) whole
      (all_had (take cut ops) (drop cut ops) flows (subst (λ (os : List Op). AllOf os (rows_in flows)) (sym whole) had))

  -- what all send is had, in whatever order the items come
  pub any_had : (cut : ℕ) (ops : List Op) (flows : List (List Row)) (found : List Item) → AllOf ops (rows_in flows) → SameBag (all_items depth size cut ops flows) found → ItemsHad 0 ops found
  any_had cut ops flows found had bag = items_had_bag 0 ops (all_items depth size cut ops flows) found bag (sent_had cut ops flows had).items

  -- in whatever order the items come
  pub merged_any : (cut : ℕ) (ops : List Op) (flows : List (List Row)) (found : List Item) → AllOf ops (rows_in flows) → SameBag (all_items depth size cut ops flows) found → SameBag (value ops found) (through ops (rows_in flows))
  merged_any cut ops flows found had bag =
      let sent = all_items depth size cut ops flows in
      let all = sent_had cut ops flows had in
      bag_then (bag_back (value ops sent) (value ops found) (value_bag ops sent found bag all.rows all.items)) (merged depth size cut ops flows had)
