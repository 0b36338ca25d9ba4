-- A pipe that ends right after its first stateful operator sends what a switch of several sends, but for the tags.
use Rattle.std.proofs.Common.{◌≡◌, ℕ, suc, List, [], ◌∷◌, ◌++◌, map, filter, take, false, cond, refl, ap, sym, ◌∙◌, subst, arith}
use Rattle.std.proofs.lemmas.List.{map-append}
use Rattle.sn_base.proofs.BagLemmas.{bag_back, bag_map, bag_same, bag_then}
use Rattle.sn_base.specs.Bags.{SameBag}
use Rattle.sn_base.specs.Groups.{Row}
use Rattle.sn_base.specs.Operators.{Op}
use Rattle.sn_base.specs.Operators.Op.{Filter, Map, Distinct, Reduce}
use Rattle.sn_pipe_items.specs.Items.{held, items, tagged}
use Rattle.sn_pipe_items.specs.Retagged.{retagged}
use Rattle.sn_pipe_items.specs.Value.{is_at}
use Rattle.sn_pipe_items.proofs.Bagged.{bagged, items_from, over_distinct, over_reduce}
use Rattle.sn_pipe_items.proofs.Cuts.{IsCut}
use Rattle.sn_base.proofs.Lists.{nat_self}
use Rattle.sn_base.proofs.Tests.{nat_apart}
use Rattle.sn_pipe_items.proofs.OrderLemmas.{items_bag}
use Rattle.sn_report.specs.Items.{Item}
use Rattle.sn_report.specs.declared.frame.Tag.{Tag}
use Rattle.sn_report.specs.declared.frame.Tag.TheVariants.{At, Partial}
use Rattle.sn_multi.specs.Switches.{beyond, firsts, switch_items}
use Rattle.sn_multi.specs.Turned.{short, turned}
use Rattle.sn_multi.proofs.Merging.{tagged_append}

abbrev item_of : Tag → Row → Item
item_of tag row = record { tag = tag; row = row }

kept_tags : (i : ℕ) (new tag : Tag) → is_at (suc i) tag ≡ false → (rows : List Row) → map (retagged i new) (tagged tag rows) ≡ tagged tag rows
kept_tags i new tag other [] = refl
kept_tags i new tag other (row ∷ rows) =
    ap (λ b. cond b (item_of new row) (item_of tag row) ∷ map (retagged i new) (tagged tag rows)) other ∙ ap (λ xs. item_of tag row ∷ xs) (kept_tags i new tag other rows)

new_tags : (i : ℕ) (new : Tag) (rows : List Row) → map (retagged i new) (tagged (At (suc i)) rows) ≡ tagged new rows
new_tags i new [] = refl
new_tags i new (row ∷ rows) =
    ap (λ b. cond b (item_of new row) (item_of (At (suc i)) row) ∷ map (retagged i new) (tagged (At (suc i)) rows)) (nat_self (suc i)) ∙ ap (λ xs. item_of new row ∷ xs) (new_tags i new rows)

module _ (depth : ℕ) (size : ℕ → ℕ) where
  at_stateful : (i : ℕ) (new : Tag) (over kept : List Row) → map (retagged i new) (tagged (At i) over ++ tagged (At (suc i)) kept) ≡ tagged (At i) over ++ tagged new kept
  at_stateful i new over kept =
      map-append (retagged i new) (tagged (At i) over) (tagged (At (suc i)) kept)
      ∙ ap (λ xs. xs ++ map (retagged i new) (tagged (At (suc i)) kept)) (kept_tags i new (At i) (nat_apart (suc i) i (λ e. omega arith)) over)
      ∙ ap (λ xs. tagged (At i) over ++ xs) (new_tags i new kept)

  turned_items : (i : ℕ) (ops : List Op) (flow : List Row) → map (turned i ops) (items_from depth size i false (short ops) flow) ≡ switch_items depth size i ops flow
  turned_items i [] flow = same (tagged (At i) flow)
    where
      same : (xs : List Item) → map (λ x. x) xs ≡ xs
      same [] = refl
      same (x ∷ xs) = ap (λ ys. x ∷ ys) (same xs)
  turned_items i (Filter t ∷ ops) flow = turned_items (suc i) ops (filter t flow)
  turned_items i (Map f ∷ ops) flow = turned_items (suc i) ops (map f flow)
  turned_items i (Distinct ∷ ops) flow =
      at_stateful i (At i) (over_distinct depth size i flow) (firsts depth size i flow) ∙ sym (tagged_append (At i) (beyond depth size i flow) (firsts depth size i flow))
  turned_items i (Reduce g ∷ ops) flow = at_stateful i (Partial i) (over_reduce depth size i g flow) (held depth size i g flow)

  short_cut : (ops : List Op) → IsCut (short ops)
  short_cut [] = tt
  short_cut (Filter t ∷ ops) = short_cut ops
  short_cut (Map f ∷ ops) = short_cut ops
  short_cut (Distinct ∷ ops) = tt
  short_cut (Reduce g ∷ ops) = tt

  -- as bags, whatever the prefix
  pub pipe_turned : (cut : ℕ) (ops : List Op) (rows : List Row) → take cut ops ≡ short (take cut ops) → SameBag (map (turned 0 (take cut ops)) (items depth size cut ops rows)) (switch_items depth size 0 (take cut ops) rows)
  pipe_turned cut ops rows ends =
      let front = take cut ops in
      let change = turned 0 front in
      bag_then (bag_back (map change (bagged depth size cut ops rows)) (map change (items depth size cut ops rows))
      (bag_map change (bagged depth size cut ops rows) (items depth size cut ops rows) (items_bag depth size cut ops rows (cut_is front ends))))
      (bag_same (ap (λ (os : List Op). map change (items_from depth size 0 false os rows)) ends ∙ turned_items 0 front rows))
    where
      cut_is : (front : List Op) → front ≡ short front → IsCut front
      cut_is front e = subst IsCut (sym e) (short_cut front)
