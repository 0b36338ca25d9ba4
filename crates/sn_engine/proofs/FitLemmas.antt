-- The operators of a typed branch can be evaluated at its items, and give rows of the branch's end.
use Rattle.std.proofs.Common.{◌≡◌, ℕ, suc, ◌<◌, List, [], ◌∷◌, ◌++◌, map, take, length, slice_index, sym, ◌∙◌, subst, arith, zero-add}
use Rattle.std.proofs.Math.Bridge.{le_prop}
use Rattle.std.proofs.Math.Logic.{∥∥₁_elim}
use Rattle.std.proofs.lemmas.List.{length-map}
use Rattle.std.proofs.lemmas.List.Elements.{All-from_recursion}
use Rattle.std.specs.List.{AllByRecursion}
use Rattle.sn_base.specs.AnyFold.{any_has}
use Rattle.sn_base.specs.Columns.{IsOf}
use Rattle.sn_base.specs.Groups.{Row, once, same_row}
use Rattle.sn_base.specs.Operators.{Grouping, key_of, pair_of, parted, row_for}
use Rattle.sn_base.specs.declared.column.Column.{Column}
use Rattle.sn_base.proofs.Lists.{all_append, all_map, all_weaker, all_front}
use Rattle.sn_base.proofs.GroupLemmas.{AllHad, keys, total, total_had}
use Rattle.sn_base.proofs.OnceLemmas.{all_once}
use Rattle.sn_query_grammar.specs.declared.ast.Op.{Op}
use Rattle.sn_query_grammar.specs.declared.ast.What.{What}
use Rattle.sn_query_grammar.specs.declared.ast.What.TheVariants as what
use Rattle.sn_types_faults.specs.Columns.{column_named, columns_after, folded_column, packet_columns}
use Rattle.sn_types.specs.declared.typed_op.TOp.{TOp}
use Rattle.sn_types.specs.declared.typed_op.TOp.TheVariants as ops
use Rattle.sn_types.specs.declared.typed_query.TypedBranch.{TypedBranch}
use Rattle.sn_types.specs.declared.typed_query.TypedQuery.{TypedQuery}
use Rattle.sn_types.specs.Typed.{IsTyped, query_at, branch_at, schema_at, end_columns}
use Rattle.sn_types.specs.Typing.{schemas_along, typed_op, typed_ops}
use Rattle.sn_types.specs.Values.{op_at}
use Rattle.sn_types.proofs.Facts.{branch_source_of, few_packet_fields}
use Rattle.sn_types.proofs.Known.{IsKnown}
use Rattle.sn_types.proofs.RowsAfter.{AreOf, named_of, rows_after, value_had}
use Rattle.sn_types.proofs.Schemas.{IsSchema, columns_along, packet_schema, reduced_whole, schema_after}
use Rattle.sn_types.proofs.Sound.{IsSound, AreSound, sound_branch}
use Rattle.sn_types.proofs.TypedRows.{end_along, first_along as first_schema}
use Rattle.sn_ops.proofs.Branches.{are_of_prop}
use Rattle.sn_ops.proofs.Fitting.{fit_along, fits_prop, has_prop}
use Rattle.sn_report.specs.Items.{Item}
use Rattle.sn_pipe_items.specs.Value.{is_at, is_partial, rows_with, taken, finish}
use Rattle.sn_pipe_items.proofs.ValueBag.{IsHeld, PartialHad}
use Rattle.sn_engine_split.specs.Branches.{branch_value, tag_columns, IsItemOf}
use Rattle.sn_engine_split.proofs.Typed.{rows_at, rows_partial}
use Rattle.sn_engine_split.proofs.TypedItems.{RowsFrom, grouping, of_front, partial_had, parts_here, rows_later, rows_next, with_fold}
use Rattle.sn_engine.specs.Fitting.{PartsFit, ItemsFit}

-- ---- Partial rows

held_fit : (level : ℕ) (op : TOp) (parts : List Row) → PartialHad (op_at level op) [] parts → PartsFit op parts
held_fit level (ops.Filter conds) parts h = tt
held_fit level (ops.Map cols) parts h = tt
held_fit level ops.Distinct parts h = tt
held_fit level (ops.Reduce r) parts h =
    let g : Grouping = record { places = r.keys; value = r.value; by = r.fold } in
    record {
      long = All-from_recursion (λ (row : Row). length r.keys < length row) parts (all_weaker (IsHeld g []) (λ row. length r.keys < length row) (λ row x. let long = x.long in omega (arith, long)) parts h);
      had = All-from_recursion (λ (row : Row). any_has r.fold (slice_index row (length r.keys))) parts (all_weaker (IsHeld g []) (λ row. any_has r.fold (slice_index row (length r.keys))) (λ row x. x.number) parts h);
    }

parts_fit : (level : ℕ) (columns : List Column) (w : What) (parts : List Row) → IsSchema columns → IsSound columns w → AreOf (columns_after columns w) parts → PartsFit (typed_op columns w) parts
parts_fit level columns w parts h s of = held_fit level (typed_op columns w) parts (partial_had level columns w [] parts h s of (λ next is. tt))

-- ---- the rows after an operator

taken_of : (level : ℕ) (columns : List Column) (w : What) (into parts : List Row) → IsSchema columns → IsSound columns w → AreOf columns into → AreOf (columns_after columns w) parts → AreOf (columns_after columns w) (taken (op_at level (typed_op columns w)) into parts)
taken_of level columns (what.Filter conds) into parts h s of others = rows_after level columns (what.Filter conds) into h s of
taken_of level columns (what.Map cols) into parts h s of others = rows_after level columns (what.Map cols) into h s of
taken_of level columns what.Distinct into parts h s of others = rows_after level columns what.Distinct into h s of
taken_of level columns (what.Reduce r) into parts h s of others =
    let g : Grouping = grouping columns r in
    let next : List Column = columns_after columns (what.Reduce r) in
    let names : List Column = map (column_named columns) r.keys in
    let pairs : List (Row × ℕ) = map (pair_of g) into ++ map (parted g) parts in
    let count : length names ≡ length g.places = length-map r.keys (column_named columns) ∙ sym (length-map r.keys _) in
    let known = all_front (IsKnown columns) r.keys (r.value ∷ []) s.known in
    let held : AllByRecursion (IsHeld g []) parts = partial_had level columns (what.Reduce r) [] parts h s others (λ next is. tt) in
    let had : AllHad g pairs =
    all_append (λ (p : Row × ℕ). any_has g.by p.1) (map (pair_of g) into) (map (parted g) parts)
    (all_map (λ (p : Row × ℕ). any_has g.by p.1) (pair_of g) into (all_weaker (IsOf columns) (λ row. any_has g.by (slice_index row g.value)) (λ row is. value_had columns r row h.widths s is) into of))
    (all_map (λ (p : Row × ℕ). any_has g.by p.1) (parted g) parts (all_weaker (IsHeld g []) (λ row. any_has g.by (parted g row).1) (λ row x. x.number) parts held)) in
    let own : AllByRecursion (λ (p : Row × ℕ). IsOf names p.0) (map (pair_of g) into) =
    all_map (λ (p : Row × ℕ). IsOf names p.0) (pair_of g) into (all_weaker (IsOf columns) (λ row. IsOf names (key_of g row)) (λ row is. named_of columns row r.keys is known) into of) in
    let of_parts : AllByRecursion (λ (p : Row × ℕ). IsOf names p.0) (map (parted g) parts) =
    all_map (λ (p : Row × ℕ). IsOf names p.0) (parted g) parts (all_weaker (IsOf next) (λ row. IsOf names (parted g row).0)
    (λ row is. subst (λ (n : ℕ). IsOf names (take n row)) count (of_front names (folded_column columns r ∷ []) row (subst (λ (cs : List Column). IsOf cs row) (reduced_whole columns r h.few s) is))) parts others) in
    all_map (IsOf next) (row_for g pairs) (once same_row (keys pairs))
    (all_weaker (IsOf names) (λ k. IsOf next (row_for g pairs k)) (λ k is. with_fold columns r k (total g pairs k) h s is (total_had g pairs k had)) (once same_row (keys pairs))
    (all_once same_row (IsOf names) (keys pairs)
    (all_map (IsOf names) (λ (p : Row × ℕ). p.0) pairs (all_append (λ (p : Row × ℕ). IsOf names p.0) (map (pair_of g) into) (map (parted g) parts) own of_parts))))

-- ---- operators one after another

record Finishes (level i : ℕ) (columns : List Column) (ops : List Op) (found : List Item) (into : List Row) : Type 0 where
  fits : ItemsFit level i (typed_ops columns ops) found into
  of : AreOf (columns_along columns ops) (finish i (map (op_at level) (typed_ops columns ops)) found into)

finishes : (level i : ℕ) (columns : List Column) (ops : List Op) (found : List Item) (into : List Row) → IsSchema columns → AreSound columns ops → RowsFrom i columns ops found → AreOf columns into → Finishes level i columns ops found into
finishes level i columns [] found into h s rows of = record { fits = tt; of = of }
finishes level i columns (op ∷ ops) found into h s rows of =
    let next : List Column = columns_after columns op.what in
    let parts : List Row = rows_with (is_partial i) found in
    let here = parts_here i columns op ops found rows in
    let out : List Row = taken (op_at level (typed_op columns op.what)) into parts in
    let more : List Row = rows_with (is_at (suc i)) found in
    let later = finishes level (suc i) next ops found (out ++ more) (schema_after columns op.what h s.0) s.1 (rows_later i columns op ops found rows)
    (all_append (IsOf next) out more (taken_of level columns op.what into parts h s.0 of here) (rows_next i columns op ops found rows)) in
    record { fits = ((fit_along level columns (op ∷ ops) into h s of).0, parts_fit level columns op.what parts h s.0 here, later.fits); of = later.of }

-- ---- the items of a typed branch

parts_prop : (op : TOp) (parts : List Row) → IsProp (PartsFit op parts)
parts_prop (ops.Filter conds) parts = hlevel le_prop
parts_prop (ops.Map cols) parts = hlevel le_prop
parts_prop ops.Distinct parts = hlevel le_prop
parts_prop (ops.Reduce r) parts = hlevel (le_prop, has_prop)

items_prop : (level i : ℕ) (os : List TOp) (found : List Item) (into : List Row) → IsProp (ItemsFit level i os found into)
items_prop level i [] found into = hlevel le_prop
items_prop level i (op ∷ os) found into =
    hlevel (fits_prop op into, parts_prop op (rows_with (is_partial i) found), items_prop level (suc i) os found (taken (op_at level op) into (rows_with (is_partial i) found) ++ rows_with (is_at (suc i)) found))

abbrev first_rows : List Item → List Row
first_rows found = rows_with (is_at 0) found

rows_from : (columns : List Column) (ops : List Op) (found : List Item) → AllByRecursion (λ (item : Item). IsOf (tag_columns (schemas_along columns ops) item.tag) item.row) found → RowsFrom 0 columns ops found
rows_from columns ops found is = record {
  rows = λ j. subst (λ (n : ℕ). AllByRecursion (IsOf (schema_at (schemas_along columns ops) j)) (rows_with (is_at n) found)) (sym (zero-add j)) (rows_at (schemas_along columns ops) j found is);
  partial = λ j. subst (λ (n : ℕ). AllByRecursion (IsOf (schema_at (schemas_along columns ops) (suc j))) (rows_with (is_partial n) found)) (sym (zero-add j)) (rows_partial (schemas_along columns ops) j found is);
}

along : (level : ℕ) (columns : List Column) (ops : List Op) (found : List Item) → IsSchema columns → AreSound columns ops → AllByRecursion (λ (item : Item). IsOf (tag_columns (schemas_along columns ops) item.tag) item.row) found
    → Finishes level 0 columns ops found (first_rows found)
along level columns ops found h s is =
    finishes level 0 columns ops found (first_rows found) h s (rows_from columns ops found is)
    (subst (λ (cs : List Column). AreOf cs (first_rows found)) (first_schema columns ops) (rows_at (schemas_along columns ops) 0 found is))

pub branch_items_fit : (window : ℕ) (queries : List TypedQuery) (q b level : ℕ) (found : List Item) → ∥ IsTyped window queries ∥₁ → q < length queries → b < length (query_at queries q).branches
    → AllByRecursion (IsItemOf (branch_at queries q b)) found → ItemsFit level 0 (branch_at queries q b).ops found (rows_with (is_at 0) found)
branch_items_fit window queries q b level found t lt within of =
    ∥∥₁_elim t (items_prop level 0 (branch_at queries q b).ops found (first_rows found)) (λ t.
    let s = branch_source_of window queries q b t lt within in
    let P : TypedBranch → Type 0 = λ x. AllByRecursion (IsItemOf x) found → ItemsFit level 0 x.ops found (first_rows found) in
    subst P (sym s.is)
    (λ is. (along level (packet_columns s.ops) s.ops found (packet_schema s.ops (few_packet_fields s.refine s.ops s.no_fault)) (sound_branch s.refine s.ops s.each s.no_fault) is).fits) of)

pub branch_value_of : (window : ℕ) (queries : List TypedQuery) (q b level : ℕ) (found : List Item) → ∥ IsTyped window queries ∥₁ → q < length queries → b < length (query_at queries q).branches
    → AllByRecursion (IsItemOf (branch_at queries q b)) found → AreOf (end_columns (branch_at queries q b)) (branch_value (query_at queries q) b level found)
branch_value_of window queries q b level found t lt within of =
    ∥∥₁_elim t (are_of_prop (end_columns (branch_at queries q b)) (branch_value (query_at queries q) b level found)) (λ t.
    let s = branch_source_of window queries q b t lt within in
    let P : TypedBranch → Type 0 = λ x. AllByRecursion (IsItemOf x) found → AreOf (end_columns x) (finish 0 (map (op_at level) x.ops) found (first_rows found)) in
    subst P (sym s.is)
    (λ is. subst (λ (cs : List Column). AreOf cs (finish 0 (map (op_at level) (typed_ops (packet_columns s.ops) s.ops)) found (first_rows found))) (sym (end_along (packet_columns s.ops) s.ops))
    (along level (packet_columns s.ops) s.ops found (packet_schema s.ops (few_packet_fields s.refine s.ops s.no_fault)) (sound_branch s.refine s.ops s.each s.no_fault) is).of) of)
