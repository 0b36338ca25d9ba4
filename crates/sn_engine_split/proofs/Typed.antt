-- The laws of the split at the branches of typed queries.
use Rattle.std.proofs.Common.{◌≡◌, ℕ, suc, ◌<◌, ◌≤◌, List, [], ◌∷◌, map, filter, length, Bool, true, cond, Option, sym, subst, zero-add}
use Rattle.std.proofs.Math.Bridge.{le_prop}
use Rattle.std.proofs.Math.Logic.{∥∥₁_elim}
use Rattle.std.specs.List.{AllByRecursion, AllByRecursion-prop}
use Rattle.sn_base.specs.Bags.{SameBag}
use Rattle.sn_base.specs.Columns.{IsOf}
use Rattle.sn_base.specs.Groups.{Row}
use Rattle.sn_base.specs.Operators.{Op, Had}
use Rattle.sn_base.specs.Operators.Op.{Filter, Map, Distinct, Reduce}
use Rattle.sn_base.specs.declared.column.Column.{Column}
use Rattle.sn_base.proofs.BagLemmas.{bag_then}
use Rattle.sn_base.proofs.Lists.{by_test, nat_same, all_weaker}
use Rattle.sn_base.proofs.OperatorLemmas.{AllOf}
use Rattle.sn_types_faults.specs.Columns.{packet_columns}
use Rattle.sn_types.specs.Cuts.{greatest_cut}
use Rattle.sn_types.specs.Typed.{IsTyped, HasWidths, query_at, branch_at, schema_at, first_columns}
use Rattle.sn_types.specs.Typing.{schemas_along}
use Rattle.sn_types.specs.Values.{op_at}
use Rattle.sn_types.specs.declared.typed_query.TypedBranch.{TypedBranch}
use Rattle.sn_types.specs.declared.typed_query.TypedQuery.{TypedQuery}
use Rattle.sn_types.proofs.Facts.{branch_source_of, few_packet_fields}
use Rattle.sn_types.proofs.RowsAfter.{AreOf}
use Rattle.sn_types.proofs.Schemas.{packet_schema}
use Rattle.sn_types.proofs.Sound.{sound_branch}
use Rattle.sn_types.proofs.TypedRows.{first_along}
use Rattle.sn_ops.specs.Packets.{packet_rows}
use Rattle.sn_ops.specs.Plain.{branch_rows}
use Rattle.sn_ops.specs.declared.packets.Kept.{Kept}
use Rattle.sn_ops.proofs.Branches.{packets_of}
use Rattle.sn_report.specs.Items.{Item}
use Rattle.sn_report.specs.declared.frame.Tag.{Tag}
use Rattle.sn_report.specs.declared.frame.Tag.TheVariants.{At, Partial}
use Rattle.sn_types.specs.Cuts.{size_at}
use Rattle.sn_engine_split.specs.Branches.{branch_items, tag_columns, IsItemOf}
use Rattle.sn_pipe_items.specs.Value.{is_at, is_partial, rows_with, value}
use Rattle.sn_engine_split.proofs.Cuts.{cut_within}
use Rattle.sn_pipe_items.proofs.ItemsHadLemmas.{split_any}
use Rattle.sn_pipe_items.proofs.OrderLemmas.{items_bag}
use Rattle.sn_engine_split.proofs.TypedItems.{had_along, items_along}
use Rattle.sn_pipe_items.proofs.ValueBag.{IsHeld, PartialHad, ItemsHad, value_bag}
use Rattle.sn_ops.proofs.Fitting.{has_prop}

-- ---- these are propositions

pub had_prop : (ops : List Op) (row : Row) → IsProp (Had ops row)
had_prop [] row = hlevel le_prop
had_prop (Filter t ∷ ops) row = hlevel (had_prop ops row)
had_prop (Map f ∷ ops) row = had_prop ops (f row)
had_prop (Distinct ∷ ops) row = had_prop ops row
had_prop (Reduce g ∷ ops) row = hlevel (has_prop, had_prop ops)

-- ---- the rows of a branch

-- a row of a branch's first columns brings each fold what it has
pub row_had : (window : ℕ) (queries : List TypedQuery) (q b level : ℕ) (row : Row) → ∥ IsTyped window queries ∥₁ → q < length queries → b < length (query_at queries q).branches
    → IsOf (first_columns (branch_at queries q b)) row → Had (map (op_at level) (branch_at queries q b).ops) row
row_had window queries q b level row t lt within of =
    ∥∥₁_elim t (had_prop (map (op_at level) (branch_at queries q b).ops) row) (λ t.
    let s = branch_source_of window queries q b t lt within in
    let P : TypedBranch → Type 0 = λ x. IsOf (first_columns x) row → Had (map (op_at level) x.ops) row in
    subst P (sym s.is)
    (λ is. had_along level (packet_columns s.ops) s.ops row (packet_schema s.ops (few_packet_fields s.refine s.ops s.no_fault)) (sound_branch s.refine s.ops s.each s.no_fault)
    (subst (λ (cs : List Column). IsOf cs row) (first_along (packet_columns s.ops) s.ops) is)) of)

pub rows_had : (window : ℕ) (queries : List TypedQuery) (q b level : ℕ) (rows : List Row) → ∥ IsTyped window queries ∥₁ → q < length queries → b < length (query_at queries q).branches
    → AreOf (first_columns (branch_at queries q b)) rows → AllOf (map (op_at level) (branch_at queries q b).ops) rows
rows_had window queries q b level rows t lt within of =
    all_weaker (IsOf (first_columns (branch_at queries q b))) (Had (map (op_at level) (branch_at queries q b).ops)) (λ row is. row_had window queries q b level row t lt within is) rows of

-- a cut of a branch is one of its operators
pub cut_of : (window : ℕ) (queries : List TypedQuery) (q b cut : ℕ) → ∥ IsTyped window queries ∥₁ → q < length queries → b < length (query_at queries q).branches
    → cut ≤ (branch_at queries q b).max_cut → cut ≤ greatest_cut (branch_at queries q b).ops
cut_of window queries q b cut t lt within le =
    ∥∥₁_elim t le_prop (λ t.
    let s = branch_source_of window queries q b t lt within in
    subst (λ (x : TypedBranch). cut ≤ x.max_cut → cut ≤ greatest_cut x.ops) (sym s.is) (λ h. h) le)

-- the value of the items that a prefix sends, in whatever order they come, is the branch on the tuples
pub split : (window q b level cut depth : ℕ) (sizes : List ℕ) (queries : List TypedQuery) (kept : Option Kept) (tuples : List (List ℕ)) (found : List Item) → ∥ IsTyped window queries ∥₁ → q < length queries → b < length (query_at queries q).branches
    → AllByRecursion HasWidths tuples → cut ≤ (branch_at queries q b).max_cut → SameBag (branch_items (query_at queries q) b level kept cut depth sizes tuples) found
    → SameBag (value (map (op_at level) (branch_at queries q b).ops) found) (branch_rows (query_at queries q) b level kept tuples)
split window q b level cut depth sizes queries kept tuples found t lt within widths le bag =
    let os = (branch_at queries q b).ops in
    let size : ℕ → ℕ = size_at os sizes in
    let rows : List Row = packet_rows (query_at queries q) b level kept tuples in
    let is_cut = cut_within level cut os (cut_of window queries q b cut t lt within le) in
    split_any depth size (map (op_at level) os) cut rows found is_cut
    (rows_had window queries q b level rows t lt within (packets_of window queries q b level kept tuples t lt within widths))
    (bag_then (items_bag depth size cut (map (op_at level) os) rows is_cut) bag)

-- ---- items of a branch

some_rows : (columns : List Column) (t : Tag → Bool) (item : Item) (rest : List Item) → (t item.tag ≡ true → IsOf columns item.row) → AllByRecursion (IsOf columns) (map (λ (x : Item). x.row) rest)
    → AllByRecursion (IsOf columns) (map (λ (x : Item). x.row) (cond (t item.tag) (item ∷ rest) rest))
some_rows columns t item rest here later =
    by_test (t item.tag)
    (λ is. subst (λ (b : Bool). AllByRecursion (IsOf columns) (map (λ (x : Item). x.row) (cond b (item ∷ rest) rest))) (sym is) (here is, later))
    (λ isnt. subst (λ (b : Bool). AllByRecursion (IsOf columns) (map (λ (x : Item). x.row) (cond b (item ∷ rest) rest))) (sym isnt) later)

at_columns : (schemas : List (List Column)) (j : ℕ) (tag : Tag) (row : Row) → is_at j tag ≡ true → IsOf (tag_columns schemas tag) row → IsOf (schema_at schemas j) row
at_columns schemas j (At i) row is of = subst (λ (n : ℕ). IsOf (schema_at schemas n) row) (sym (nat_same j i is)) of
at_columns schemas j (Partial i) row is of = cc

partial_columns : (schemas : List (List Column)) (j : ℕ) (tag : Tag) (row : Row) → is_partial j tag ≡ true → IsOf (tag_columns schemas tag) row → IsOf (schema_at schemas (suc j)) row
partial_columns schemas j (At i) row is of = cc
partial_columns schemas j (Partial i) row is of = subst (λ (n : ℕ). IsOf (schema_at schemas (suc n)) row) (sym (nat_same j i is)) of

pub rows_at : (schemas : List (List Column)) (j : ℕ) (found : List Item) → AllByRecursion (λ (item : Item). IsOf (tag_columns schemas item.tag) item.row) found → AllByRecursion (IsOf (schema_at schemas j)) (rows_with (is_at j) found)
rows_at schemas j [] h = tt
rows_at schemas j (item ∷ found) h =
    some_rows (schema_at schemas j) (is_at j) item (filter (λ (x : Item). is_at j x.tag) found) (λ is. at_columns schemas j item.tag item.row is h.0) (rows_at schemas j found h.1)

pub rows_partial : (schemas : List (List Column)) (j : ℕ) (found : List Item) → AllByRecursion (λ (item : Item). IsOf (tag_columns schemas item.tag) item.row) found → AllByRecursion (IsOf (schema_at schemas (suc j))) (rows_with (is_partial j) found)
rows_partial schemas j [] h = tt
rows_partial schemas j (item ∷ found) h =
    some_rows (schema_at schemas (suc j)) (is_partial j) item (filter (λ (x : Item). is_partial j x.tag) found) (λ is. partial_columns schemas j item.tag item.row is h.0) (rows_partial schemas j found h.1)

held_prop : (ops : List Op) (op : Op) (rows : List Row) → IsProp (PartialHad op ops rows)
held_prop ops (Filter t) rows = hlevel le_prop
held_prop ops (Map f) rows = hlevel le_prop
held_prop ops Distinct rows = hlevel le_prop
held_prop ops (Reduce g) rows = AllByRecursion-prop (IsHeld g ops) (λ row. hlevel (le_prop, has_prop, had_prop ops)) rows

items_prop : (i : ℕ) (ops : List Op) (found : List Item) → IsProp (ItemsHad i ops found)
items_prop i [] found = hlevel le_prop
items_prop i (op ∷ ops) found = hlevel (held_prop ops op (rows_with (is_partial i) found), AllByRecursion-prop (Had ops) (had_prop ops) (rows_with (is_at (suc i)) found), items_prop (suc i) ops found)

pub items_had : (window : ℕ) (queries : List TypedQuery) (q b level : ℕ) (found : List Item) → ∥ IsTyped window queries ∥₁ → q < length queries → b < length (query_at queries q).branches
    → AllByRecursion (IsItemOf (branch_at queries q b)) found → ItemsHad 0 (map (op_at level) (branch_at queries q b).ops) found
items_had window queries q b level found t lt within of =
    ∥∥₁_elim t (items_prop 0 (map (op_at level) (branch_at queries q b).ops) found) (λ t.
    let s = branch_source_of window queries q b t lt within in
    let columns : List Column = packet_columns s.ops in
    let P : TypedBranch → Type 0 = λ x. AllByRecursion (IsItemOf x) found → ItemsHad 0 (map (op_at level) x.ops) found in
    subst P (sym s.is)
    (λ is. items_along level 0 columns s.ops found (packet_schema s.ops (few_packet_fields s.refine s.ops s.no_fault)) (sound_branch s.refine s.ops s.each s.no_fault)
    (record {
      rows = λ j. subst (λ (n : ℕ). AllByRecursion (IsOf (schema_at (schemas_along columns s.ops) j)) (rows_with (is_at n) found)) (sym (zero-add j)) (rows_at (schemas_along columns s.ops) j found is);
      partial = λ j. subst (λ (n : ℕ). AllByRecursion (IsOf (schema_at (schemas_along columns s.ops) (suc j))) (rows_with (is_partial n) found)) (sym (zero-add j)) (rows_partial (schemas_along columns s.ops) j found is);
    })) of)

-- equal bags of items have equal values
pub bags : (window q b level : ℕ) (queries : List TypedQuery) (found others : List Item) → ∥ IsTyped window queries ∥₁ → q < length queries → b < length (query_at queries q).branches
    → AllByRecursion (IsItemOf (branch_at queries q b)) found → SameBag found others
    → SameBag (value (map (op_at level) (branch_at queries q b).ops) found) (value (map (op_at level) (branch_at queries q b).ops) others)
bags window q b level queries found others t lt within of bag =
    value_bag (map (op_at level) (branch_at queries q b).ops) found others bag
    (rows_had window queries q b level (rows_with (is_at 0) found) t lt within (rows_at (branch_at queries q b).schemas 0 found of))
    (items_had window queries q b level found t lt within of)
