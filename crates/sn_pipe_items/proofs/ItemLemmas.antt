-- Rows by their tags, and what the engine makes of items that don't reach an operator.
use Rattle.std.proofs.Common.{◌≡◌, ℕ, suc, ◌<◌, ◌≤◌, List, [], ◌∷◌, ◌++◌, map, filter, Bool, true, false, ◌||◌, cond, nat_eq, refl, ap, sym, ◌∙◌, append-nil, arith, eq-eqb}
use Rattle.std.proofs.lemmas.Bool.{ne_eqb}
use Rattle.std.proofs.lemmas.List.{map-append}
use Rattle.std.proofs.lemmas.List.Elements.{filter-append}
use Rattle.sn_base.specs.Groups.{Row, once, same_row}
use Rattle.sn_base.specs.Operators.{Op, grouped, pair_of, apply, through}
use Rattle.sn_base.specs.Operators.Op.{Filter, Map, Distinct, Reduce}
use Rattle.sn_report.specs.Items.{Item}
use Rattle.sn_report.specs.declared.frame.Tag.{Tag}
use Rattle.sn_report.specs.declared.frame.Tag.TheVariants.{At, Partial}
use Rattle.sn_pipe_items.specs.Items.{tagged, held}
use Rattle.sn_pipe_items.specs.Value.{is_at, is_partial, rows_with, taken, finish}
use Rattle.sn_pipe_items.proofs.Bagged.{resides, over_distinct, over_reduce, items_from, some_row}
use Rattle.sn_base.proofs.Tests.{nat_apart}

abbrev tag_row : Tag → Row → Item
tag_row tag row = record { tag = tag; row = row }

-- ---- rows by their tags

rows_append : (t : Tag → Bool) (xs ys : List Item) → rows_with t (xs ++ ys) ≡ rows_with t xs ++ rows_with t ys
rows_append t xs ys = ap (map (λ (x : Item). x.row)) (filter-append (λ (x : Item). t x.tag) xs ys) ∙ map-append (λ (x : Item). x.row) (filter (λ x. t x.tag) xs) (filter (λ (x : Item). t x.tag) ys)

pub rows_all : (t : Tag → Bool) (tag : Tag) → t tag ≡ true → (rows : List Row) → rows_with t (tagged tag rows) ≡ rows
rows_all t tag is [] = refl
rows_all t tag is (row ∷ rows) =
    ap (λ b. map (λ (x : Item). x.row) (cond b (tag_row tag row ∷ filter (λ (x : Item). t x.tag) (tagged tag rows)) (filter (λ (x : Item). t x.tag) (tagged tag rows)))) is
    ∙ ap (λ xs. row ∷ xs) (rows_all t tag is rows)

pub rows_none : (t : Tag → Bool) (tag : Tag) → t tag ≡ false → (rows : List Row) → rows_with t (tagged tag rows) ≡ []
rows_none t tag isnt [] = refl
rows_none t tag isnt (row ∷ rows) =
    ap (λ b. map (λ (x : Item). x.row) (cond b (tag_row tag row ∷ filter (λ (x : Item). t x.tag) (tagged tag rows)) (filter (λ (x : Item). t x.tag) (tagged tag rows)))) isnt
    ∙ rows_none t tag isnt rows

-- after rows of another tag
pub rows_after : (t : Tag → Bool) (tag : Tag) → t tag ≡ false → (rows : List Row) (xs : List Item) → rows_with t (tagged tag rows ++ xs) ≡ rows_with t xs
rows_after t tag isnt rows xs = rows_append t (tagged tag rows) xs ∙ ap (λ ys. ys ++ rows_with t xs) (rows_none t tag isnt rows)

-- before rows of another tag
pub rows_front : (t : Tag → Bool) (tag : Tag) → t tag ≡ true → (rows : List Row) (xs : List Item) → rows_with t xs ≡ [] → rows_with t (tagged tag rows ++ xs) ≡ rows
rows_front t tag is rows xs none = rows_append t (tagged tag rows) xs ∙ ap (λ ys. ys ++ rows_with t xs) (rows_all t tag is rows) ∙ ap (λ ys. rows ++ ys) none ∙ append-nil rows

-- ---- the engine

-- rows tagged At an operator that was passed don't count
pub finish_past : (i d : ℕ) → d ≤ i → (ops : List Op) (rows : List Row) (xs : List Item) (into : List Row) → finish i ops (tagged (At d) rows ++ xs) into ≡ finish i ops xs into
finish_past i d le [] rows xs into = refl
finish_past i d le (op ∷ ops) rows xs into =
    ap (λ ps. finish (suc i) ops (tagged (At d) rows ++ xs) (taken op into ps ++ rows_with (is_at (suc i)) (tagged (At d) rows ++ xs))) (rows_after (is_partial i) (At d) refl rows xs)
    ∙ ap (λ ys. finish (suc i) ops (tagged (At d) rows ++ xs) (taken op into (rows_with (is_partial i) xs) ++ ys)) (rows_after (is_at (suc i)) (At d) (nat_apart (suc i) d (λ e. omega arith)) rows xs)
    ∙ finish_past (suc i) d (omega arith) ops rows xs (taken op into (rows_with (is_partial i) xs) ++ rows_with (is_at (suc i)) xs)

pub finish_past_partial : (i d : ℕ) → d < i → (ops : List Op) (rows : List Row) (xs : List Item) (into : List Row) → finish i ops (tagged (Partial d) rows ++ xs) into ≡ finish i ops xs into
finish_past_partial i d lt [] rows xs into = refl
finish_past_partial i d lt (op ∷ ops) rows xs into =
    ap (λ ps. finish (suc i) ops (tagged (Partial d) rows ++ xs) (taken op into ps ++ rows_with (is_at (suc i)) (tagged (Partial d) rows ++ xs))) (rows_after (is_partial i) (Partial d) (nat_apart i d (λ e. omega arith)) rows xs)
    ∙ ap (λ ys. finish (suc i) ops (tagged (Partial d) rows ++ xs) (taken op into (rows_with (is_partial i) xs) ++ ys)) (rows_after (is_at (suc i)) (Partial d) refl rows xs)
    ∙ finish_past_partial (suc i) d (omega arith) ops rows xs (taken op into (rows_with (is_partial i) xs) ++ rows_with (is_at (suc i)) xs)

-- with no Partial rows an operator is as ever
pub taken_none : (op : Op) (into : List Row) → taken op into [] ≡ apply op into
taken_none (Filter t) into = refl
taken_none (Map f) into = refl
taken_none Distinct into = refl
taken_none (Reduce g) into = ap (grouped g) (append-nil (map (pair_of g) into))

-- with no items the engine goes on alone
pub finish_none : (i : ℕ) (ops : List Op) (into : List Row) → finish i ops [] into ≡ through ops into
finish_none i [] into = refl
finish_none i (op ∷ ops) into =
    ap (finish (suc i) ops []) (append-nil (taken op into []) ∙ taken_none op into) ∙ finish_none (suc i) ops (apply op into)

pub finish_alone : (i d : ℕ) → d ≤ i → (ops : List Op) (rows into : List Row) → finish i ops (tagged (At d) rows) into ≡ through ops into
finish_alone i d le ops rows into =
    ap (λ xs. finish i ops xs into) (sym (append-nil (tagged (At d) rows))) ∙ finish_past i d le ops rows [] into ∙ finish_none i ops into

pub finish_alone_partial : (i d : ℕ) → d < i → (ops : List Op) (rows into : List Row) → finish i ops (tagged (Partial d) rows) into ≡ through ops into
finish_alone_partial i d lt ops rows into =
    ap (λ xs. finish i ops xs into) (sym (append-nil (tagged (Partial d) rows))) ∙ finish_past_partial i d lt ops rows [] into ∙ finish_none i ops into

module _ (depth : ℕ) (size : ℕ → ℕ) where
  -- no item is tagged before the operator from which the pipe goes on
  pub none_before : (t : Tag → Bool) (i : ℕ) → ((j : ℕ) → i ≤ j → t (At j) ≡ false) → ((j : ℕ) → i ≤ j → t (Partial j) ≡ false) → (sp : Bool) (ops : List Op) (flow : List Row) → rows_with t (items_from depth size i sp ops flow) ≡ []
  none_before t i ats pts sp [] flow = rows_none t (At i) (ats i (omega arith)) flow
  none_before t i ats pts sp (Filter p ∷ ops) flow = none_before t (suc i) (λ j le. ats j (omega arith)) (λ j le. pts j (omega arith)) sp ops (filter p flow)
  none_before t i ats pts sp (Map f ∷ ops) flow = none_before t (suc i) (λ j le. ats j (omega arith)) (λ j le. pts j (omega arith)) sp ops (map f flow)
  none_before t i ats pts sp (Distinct ∷ ops) flow =
      rows_after t (At i) (ats i (omega arith)) (over_distinct depth size i flow) (items_from depth size (suc i) (sp || some_row (over_distinct depth size i flow)) ops (once same_row (filter (resides depth size i flow) flow)))
      ∙ none_before t (suc i) (λ j le. ats j (omega arith)) (λ j le. pts j (omega arith)) (sp || some_row (over_distinct depth size i flow)) ops (once same_row (filter (resides depth size i flow) flow))
  none_before t i ats pts sp (Reduce g ∷ ops) flow =
      rows_after t (At i) (ats i (omega arith)) (over_reduce depth size i g flow) (cond sp (tagged (Partial i) (held depth size i g flow)) (items_from depth size (suc i) sp ops (held depth size i g flow)))
      ∙ (elim sp as (λ b. rows_with t (cond b (tagged (Partial i) (held depth size i g flow)) (items_from depth size (suc i) b ops (held depth size i g flow))) ≡ []) [
        | true ↦ rows_none t (Partial i) (pts i (omega arith)) (held depth size i g flow)
        | false ↦ none_before t (suc i) (λ j le. ats j (omega arith)) (λ j le. pts j (omega arith)) false ops (held depth size i g flow)
      ])

  pub no_at : (i j : ℕ) → i < j → (sp : Bool) (ops : List Op) (flow : List Row) → rows_with (is_at i) (items_from depth size j sp ops flow) ≡ []
  no_at i j lt sp ops flow = none_before (is_at i) j (λ k le. nat_apart i k (λ e. omega arith)) (λ k le. refl) sp ops flow

  pub no_partial : (i j : ℕ) → i < j → (sp : Bool) (ops : List Op) (flow : List Row) → rows_with (is_partial i) (items_from depth size j sp ops flow) ≡ []
  no_partial i j lt sp ops flow = none_before (is_partial i) j (λ k le. refl) (λ k le. nat_apart i k (λ e. omega arith)) sp ops flow
