-- The rows on their way count the items.
use Rattle.std.proofs.Common.{◌≡◌, ℕ, zero, suc, ◌+◌, List, [], ◌∷◌, ◌++◌, map, take, drop, length, slice_index, nat_lt, Bool, true, false, ◌||◌, cond, refl, ap, sym, ◌∙◌, arith, zero-add}
use Rattle.std.proofs.lemmas.Bool.{lt-ltb}
use Rattle.std.proofs.lemmas.List.{length-append}
use Rattle.sn_base.specs.Bags.{SameBag}
use Rattle.sn_base.specs.Bags.SameBag.{stays, following, turned, joined}
use Rattle.sn_base.specs.Groups.{Row}
use Rattle.sn_base.proofs.BagLemmas.{bag_filter}
use Rattle.sn_base.specs.Operators.{Grouping, Op}
use Rattle.sn_base.specs.Operators.Op.{Filter, Map, Distinct, Reduce}
use Rattle.sn_report.specs.Items.{Item}
use Rattle.sn_report.specs.declared.frame.Tag.{Tag}
use Rattle.sn_report.specs.declared.frame.Tag.TheVariants.{At, Partial}
use Rattle.sn_pipe_items.specs.Items.{items, tagged, held}
use Rattle.sn_pipe_items.proofs.Bagged.{bagged, items_from, over_distinct, over_reduce, some_row}
use Rattle.sn_pipe_items.proofs.Cuts.{IsCut, OnlyFilters, cut_later}
use Rattle.sn_pipe_items.proofs.OrderLemmas.{items_bag}
use Rattle.sn_types.specs.declared.typed_op.TOp.{TOp}
use Rattle.sn_types.specs.declared.typed_op.TOp.TheVariants as ops
use Rattle.sn_types.specs.Cuts.{size_at, stateful}
use Rattle.sn_types.specs.Values.{op_at}
use Rattle.sn_cost_counts.specs.AnyFlow.{Flow}
use Rattle.sn_cost_counts.specs.Flows.{counted, held_rows, run, starting, stepped}
use Rattle.sn_cost_counts.specs.Flows as flows
use Rattle.sn_cost_counts.proofs.Holding.{held_bag}

pub bag_long : {A : Type 0} (xs ys : List A) → SameBag xs ys → length xs ≡ length ys
bag_long _ _ (stays xs) = refl
bag_long _ _ (following x xs ys b) = ap suc (bag_long xs ys b)
bag_long _ _ (turned x y xs) = refl
bag_long _ _ (joined xs ys zs b c) = bag_long xs ys b ∙ bag_long ys zs c

tagged_long : (tag : Tag) (rows : List Row) → length (tagged tag rows) ≡ length rows
tagged_long tag [] = refl
tagged_long tag (row ∷ rows) = ap suc (tagged_long tag rows)

some_long : (rows : List Row) → nat_lt 0 (length rows) ≡ some_row rows
some_long [] = refl
some_long (row ∷ rows) = lt-ltb 0 (suc (length rows)) (omega arith)

later_size : (sizes : List ℕ) (n : ℕ) → slice_index sizes (1 + n) ≡ slice_index (drop 1 sizes) n
later_size [] n = refl
later_size (size ∷ sizes) n = let e : 1 + n ≡ suc n = omega arith in ap (slice_index (size ∷ sizes)) e

-- rows in another order pass as many filters
filters_bag : (depth : ℕ) (size : ℕ → ℕ) (os : List Op) → OnlyFilters os → (i : ℕ) (xs ys : List Row) → SameBag xs ys → length (items_from depth size i false os xs) ≡ length (items_from depth size i false os ys)
filters_bag depth size [] h i xs ys b = tagged_long (At i) xs ∙ bag_long xs ys b ∙ sym (tagged_long (At i) ys)
filters_bag depth size (Filter t ∷ os) h i xs ys b = filters_bag depth size os h (suc i) _ _ (bag_filter t xs ys b)
filters_bag depth size (Map f ∷ os) h i xs ys b = absurd h
filters_bag depth size (Distinct ∷ os) h i xs ys b = absurd h
filters_bag depth size (Reduce g ∷ os) h i xs ys b = absurd h

filters_cut : (os : List Op) → OnlyFilters os → IsCut os
filters_cut [] h = tt
filters_cut (Filter t ∷ os) h = filters_cut os h
filters_cut (Map f ∷ os) h = absurd h
filters_cut (Distinct ∷ os) h = absurd h
filters_cut (Reduce g ∷ os) h = absurd h

abbrev flow_of : ℕ → List Row → Bool → Bool → Flow
flow_of sent rows spilled whole = record { sent = sent; rows = rows; spilled = spilled; whole = whole }

module _ (depth : ℕ) (size : ℕ → ℕ) (level : ℕ) where
  -- rows that stay whole pass all filters
  stays_whole : (os : List TOp) (c : ℕ) (sizes : List ℕ) (n : ℕ) (rows : List Row) (spilled : Bool) → OnlyFilters (take c (map (op_at level) os)) → run depth level (take c os) sizes (flow_of n rows spilled true) ≡ flow_of n rows spilled true
  stays_whole os zero sizes n rows spilled h = refl
  stays_whole [] (suc c) sizes n rows spilled h = refl
  stays_whole (ops.Filter conds ∷ os) (suc c) sizes n rows spilled h = stays_whole os c sizes n rows spilled h
  stays_whole (ops.Map exprs ∷ os) (suc c) sizes n rows spilled h = absurd h
  stays_whole (ops.Distinct ∷ os) (suc c) sizes n rows spilled h = absurd h
  stays_whole (ops.Reduce r ∷ os) (suc c) sizes n rows spilled h = absurd h

  -- the sizes of the operators from number i on
  abbrev Sized : ℕ → List TOp → List ℕ → Type 0
  Sized i os sizes = (j : ℕ) → size (i + j) ≡ size_at os sizes j

  moved : (i j : ℕ) → size (suc i + j) ≡ size (i + suc j)
  moved i j = let e : suc i + j ≡ i + suc j = omega arith in ap size e

  first_size : (i : ℕ) (os : List TOp) (sizes : List ℕ) → Sized i os sizes → size i ≡ slice_index sizes 0
  first_size i os sizes h = let e : i ≡ i + 0 = omega arith in ap size e ∙ h 0

  abbrev Counts : ℕ → List TOp → ℕ → List ℕ → Bool → ℕ → List Row → Type 0
  Counts i os c sizes spilled n rows = n + length (items_from depth size i spilled (take c (map (op_at level) os)) rows) ≡ counted (run depth level (take c os) sizes (flow_of n rows spilled false))

  counts : (os : List TOp) (c i : ℕ) (sizes : List ℕ) → Sized i os sizes → (spilled : Bool) (n : ℕ) (rows : List Row) → IsCut (take c (map (op_at level) os)) → Counts i os c sizes spilled n rows
  counts os zero i sizes h spilled n rows cut = ap (λ m. n + m) (tagged_long (At i) rows)
  counts [] (suc c) i sizes h spilled n rows cut = ap (λ m. n + m) (tagged_long (At i) rows)
  counts (ops.Filter conds ∷ os) (suc c) i sizes h spilled n rows cut = counts os c (suc i) sizes (λ j. moved i j ∙ h (suc j)) spilled n _ cut
  counts (ops.Map exprs ∷ os) (suc c) i sizes h spilled n rows cut = counts os c (suc i) sizes (λ j. moved i j ∙ h (suc j)) spilled n _ cut
  counts (ops.Distinct ∷ os) (suc c) i sizes h spilled n rows cut =
      let over : List Row = over_distinct depth size i rows in
      let stay : List Row = flows.first_rows depth (size i) rows in
      let rest : List Item = items_from depth size (suc i) (spilled || some_row over) (take c (map (op_at level) os)) stay in
      let long : n + length (tagged (At i) over ++ rest) ≡ (n + length over) + length rest = let a = length-append (tagged (At i) over) rest in let b = tagged_long (At i) over in omega (arith, a, b) in
      long
      ∙ counts os c (suc i) (drop 1 sizes) (λ j. moved i j ∙ h (suc j) ∙ later_size sizes (stateful (take j os))) (spilled || some_row over) (n + length over) stay (cut_later (take c (map (op_at level) os)) cut)
      ∙ ap (λ b. counted (run depth level (take c os) (drop 1 sizes) (flow_of (n + length over) stay (spilled || b) false))) (sym (some_long over))
      ∙ ap (λ m. counted (run depth level (take c os) (drop 1 sizes) (stepped depth m Distinct (flow_of n rows spilled false)))) (first_size i (ops.Distinct ∷ os) sizes h)
  counts (ops.Reduce r ∷ os) (suc c) i sizes h spilled n rows cut =
      let g : Grouping = record { places = r.keys; value = r.value; by = r.fold } in
      let over : List Row = over_reduce depth size i g rows in
      let kept : List Row = held depth size i g rows in
      let stay : List Row = held_rows depth (size i) g rows in
      let bag : SameBag kept stay = held_bag depth (size i) g rows in
      let front : List Op = take c (map (op_at level) os) in
      let later : Sized (suc i) os (drop 1 sizes) = λ j. moved i j ∙ h (suc j) ∙ later_size sizes (stateful (take j os)) in
      let over_long = tagged_long (At i) over in
      let kept_long = tagged_long (Partial i) kept in
      let as_many : length kept ≡ length stay = bag_long kept stay bag in
      (elim spilled as (λ b. n + length (tagged (At i) over ++ cond b (tagged (Partial i) kept) (items_from depth size (suc i) b front kept)) ≡ counted (run depth level (take c os) (drop 1 sizes) (flow_of (n + length over) stay b b))) [
        | true ↦
            (let both = length-append (tagged (At i) over) (tagged (Partial i) kept) in
            let e : n + length (tagged (At i) over ++ tagged (Partial i) kept) ≡ (n + length over) + length stay = omega (arith, both, over_long, kept_long, as_many) in
            e ∙ sym (ap counted (stays_whole os c (drop 1 sizes) (n + length over) stay true cut)))
        | false ↦
            (let rest : List Item = items_from depth size (suc i) false front kept in
            let both = length-append (tagged (At i) over) rest in
            let same : length rest ≡ length (items_from depth size (suc i) false front stay) = filters_bag depth size front cut (suc i) kept stay bag in
            let e : n + length (tagged (At i) over ++ rest) ≡ (n + length over) + length (items_from depth size (suc i) false front stay) = omega (arith, both, over_long, same) in
            e ∙ counts os c (suc i) (drop 1 sizes) later false (n + length over) stay (filters_cut front cut))
      ])
      ∙ ap (λ m. counted (run depth level (take c os) (drop 1 sizes) (stepped depth m (Reduce g) (flow_of n rows spilled false)))) (first_size i (ops.Reduce r ∷ os) sizes h)

-- the items of a cut are counted by the rows after it
pub items_counted : (depth level cut : ℕ) (sizes : List ℕ) (os : List TOp) (rows : List Row) → IsCut (take cut (map (op_at level) os))
    → length (items depth (size_at os sizes) cut (map (op_at level) os) rows) ≡ counted (run depth level (take cut os) sizes (starting rows))
items_counted depth level cut sizes os rows is =
    sym (bag_long _ _ (items_bag depth (size_at os sizes) cut (map (op_at level) os) rows is))
    ∙ sym (zero-add (length (bagged depth (size_at os sizes) cut (map (op_at level) os) rows)))
    ∙ counts depth (size_at os sizes) level os cut 0 sizes (λ j. ap (size_at os sizes) (zero-add j)) false 0 rows is
