-- Rows of the columns of a typed branch bring each fold after them what it has.
use Rattle.std.proofs.Common.{◌≡◌, ℕ, suc, ◌+◌, ◌^◌, ◌<◌, List, [], ◌∷◌, ◌++◌, map, take, length, slice_index, sym, ◌∙◌, subst, arith}
use Rattle.std.proofs.lemmas.List.{length-append, length-map}
use Rattle.std.specs.List.{AllByRecursion}
use Rattle.sn_base.specs.AnyFold.{any_has}
use Rattle.sn_base.specs.Columns.{IsOf}
use Rattle.sn_base.specs.Groups.{Row}
use Rattle.sn_base.specs.Operators.{Grouping, Op as Acting, Had, key_of}
use Rattle.sn_base.specs.declared.column.Column.{Column}
use Rattle.sn_base.proofs.Lists.{all_weaker, all_front}
use Rattle.sn_query_grammar.specs.declared.ast.Op.{Op}
use Rattle.sn_query_grammar.specs.declared.ast.Reduce.{Reduce}
use Rattle.sn_query_grammar.specs.declared.ast.What.{What}
use Rattle.sn_query_grammar.specs.declared.ast.What.TheVariants as what
use Rattle.sn_types_faults.specs.Columns.{column_named, columns_after, folded_column, place_of}
use Rattle.sn_types_faults.specs.Widths.{fold_of}
use Rattle.sn_types.specs.Typed.{schema_at}
use Rattle.sn_types.specs.Typing.{schemas_along, typed_op, typed_ops}
use Rattle.sn_types.specs.Values.{op_at}
use Rattle.sn_types.proofs.Known.{IsKnown}
use Rattle.sn_types.proofs.RowsAfter.{as_long, named_of, of_both, rows_after, value_had, lawful_same, had_of, of_had}
use Rattle.sn_types.proofs.Schemas.{IsSchema, reduced_whole, schema_after, value_width}
use Rattle.sn_types.proofs.Sound.{IsSound, AreSound}
use Rattle.sn_report.specs.Items.{Item}
use Rattle.sn_pipe_items.specs.Value.{is_at, is_partial, rows_with}
use Rattle.sn_pipe_items.proofs.ValueBag.{IsHeld, PartialHad, ItemsHad}
use Rattle.sn_types.proofs.TypedRows.{first_along}

-- ---- columns in two parts

pub of_front : (xs ys : List Column) (row : Row) → IsOf (xs ++ ys) row → IsOf xs (take (length xs) row)
of_front [] ys row of = tt
of_front (c ∷ xs) ys [] of = absurd of
of_front (c ∷ xs) ys (n ∷ row) of = (of.0, of_front xs ys row of.1)

pub of_last : (xs : List Column) (c : Column) (row : Row) → IsOf (xs ++ c ∷ []) row → slice_index row (length xs) < 2 ^ c.width
of_last [] c [] of = absurd of
of_last [] c (n ∷ row) of = of.0
of_last (x ∷ xs) c [] of = absurd of
of_last (x ∷ xs) c (n ∷ row) of = of_last xs c row of.1

-- ---- folds

-- what a typed reduce groups by
abbrev pub grouping : List Column → Reduce → Grouping
grouping columns r = record { places = map (place_of columns) r.keys; value = place_of columns r.value; by = fold_of r.fold (folded_column columns r).width }

pub fold_below : (columns : List Column) (r : Reduce) (a : ℕ) → IsSchema columns → IsSound columns (what.Reduce r) → any_has (fold_of r.fold (folded_column columns r).width) a → a < 2 ^ (folded_column columns r).width
fold_below columns r a h s had =
    let w : ℕ = (folded_column columns r).width in
    subst (λ (v : ℕ). a < 2 ^ v) (lawful_same w (value_width columns r h.widths s)) (of_had r.fold w a had)

-- key columns with a number of the fold are a row after the reduce
pub with_fold : (columns : List Column) (r : Reduce) (key : Row) (a : ℕ) → IsSchema columns → IsSound columns (what.Reduce r) → IsOf (map (column_named columns) r.keys) key
    → any_has (fold_of r.fold (folded_column columns r).width) a → IsOf (columns_after columns (what.Reduce r)) (key ++ a ∷ [])
with_fold columns r key a h s of had =
    subst (λ (cs : List Column). IsOf cs (key ++ a ∷ [])) (sym (reduced_whole columns r h.few s))
    (of_both (map (column_named columns) r.keys) (folded_column columns r ∷ []) key (a ∷ []) of (fold_below columns r a h s had, tt))

-- ---- a row before operators

had_before : (level : ℕ) (columns : List Column) (w : What) (rest : List Acting) (row : Row) → IsSchema columns → IsSound columns w → IsOf columns row
    → ((next : Row) → IsOf (columns_after columns w) next → Had rest next) → Had (op_at level (typed_op columns w) ∷ rest) row
had_before level columns (what.Filter conds) rest row h s of onward = λ passes. onward row of
had_before level columns (what.Map cols) rest row h s of onward = onward _ (rows_after level columns (what.Map cols) (row ∷ []) h s (of, tt)).0
had_before level columns what.Distinct rest row h s of onward = onward row of
had_before level columns (what.Reduce r) rest row h s of onward = (
  value_had columns r row h.widths s of,
  λ a had. onward (key_of (grouping columns r) row ++ a ∷ []) (with_fold columns r (key_of (grouping columns r) row) a h s (named_of columns row r.keys of (all_front (IsKnown columns) r.keys (r.value ∷ []) s.known)) had),
)

pub had_along : (level : ℕ) (columns : List Column) (ops : List Op) (row : Row) → IsSchema columns → AreSound columns ops → IsOf columns row → Had (map (op_at level) (typed_ops columns ops)) row
had_along level columns [] row h s of = tt
had_along level columns (op ∷ ops) row h s of =
    had_before level columns op.what (map (op_at level) (typed_ops (columns_after columns op.what) ops)) row h s.0 of
    (λ next is. had_along level (columns_after columns op.what) ops next (schema_after columns op.what h s.0) s.1 is)

-- ---- a Partial row

pub partial_had : (level : ℕ) (columns : List Column) (w : What) (rest : List Acting) (rows : List Row) → IsSchema columns → IsSound columns w → AllByRecursion (IsOf (columns_after columns w)) rows
    → ((next : Row) → IsOf (columns_after columns w) next → Had rest next) → PartialHad (op_at level (typed_op columns w)) rest rows
partial_had level columns (what.Filter conds) rest rows h s of onward = tt
partial_had level columns (what.Map cols) rest rows h s of onward = tt
partial_had level columns what.Distinct rest rows h s of onward = tt
partial_had level columns (what.Reduce r) rest rows h s of onward =
    all_weaker (IsOf (columns_after columns (what.Reduce r))) (IsHeld (grouping columns r) rest) (λ row is.
    let names = map (column_named columns) r.keys in
    let w : ℕ = (folded_column columns r).width in
    let parts : IsOf (names ++ folded_column columns r ∷ []) row = subst (λ (cs : List Column). IsOf cs row) (reduced_whole columns r h.few s) is in
    let count : length names ≡ length (grouping columns r).places = length-map r.keys (column_named columns) ∙ sym (length-map r.keys (place_of columns)) in
    let last : slice_index row (length (grouping columns r).places) < 2 ^ w = subst (λ (n : ℕ). slice_index row n < 2 ^ w) count (of_last names (folded_column columns r) row parts) in
    let front : IsOf names (take (length (grouping columns r).places) row) = subst (λ (n : ℕ). IsOf names (take n row)) count (of_front names (folded_column columns r ∷ []) row parts) in
    record {
      long = let all = as_long (names ++ folded_column columns r ∷ []) row parts in let both = length-append names (folded_column columns r ∷ []) in omega (arith, all, both, count);
      number = had_of r.fold w (slice_index row (length (grouping columns r).places)) (subst (λ (v : ℕ). slice_index row (length (grouping columns r).places) < 2 ^ v) (sym (lawful_same w (value_width columns r h.widths s))) last);
      onward = λ a had. onward (take (length (grouping columns r).places) row ++ a ∷ []) (with_fold columns r (take (length (grouping columns r).places) row) a h s front had);
    }) rows of

-- ---- items

-- the rows of items are of the columns of the rows that come to their operators, from the operator of number i on
pub record RowsFrom (i : ℕ) (columns : List Column) (ops : List Op) (found : List Item) : Type 0 where
  pub rows : (j : ℕ) → AllByRecursion (IsOf (schema_at (schemas_along columns ops) j)) (rows_with (is_at (i + j)) found)
  pub partial : (j : ℕ) → AllByRecursion (IsOf (schema_at (schemas_along columns ops) (suc j))) (rows_with (is_partial (i + j)) found)

pub rows_later : (i : ℕ) (columns : List Column) (op : Op) (ops : List Op) (found : List Item) → RowsFrom i columns (op ∷ ops) found → RowsFrom (suc i) (columns_after columns op.what) ops found
rows_later i columns op ops found h = record {
  rows = λ j. subst (λ (n : ℕ). AllByRecursion (IsOf (schema_at (schemas_along (columns_after columns op.what) ops) j)) (rows_with (is_at n) found)) (moved j) (h.rows (suc j));
  partial = λ j. subst (λ (n : ℕ). AllByRecursion (IsOf (schema_at (schemas_along (columns_after columns op.what) ops) (suc j))) (rows_with (is_partial n) found)) (moved j) (h.partial (suc j));
}
  where
    moved : (j : ℕ) → i + suc j ≡ suc i + j
    moved j = omega arith

-- the rows that go after the next operator, and the Partial rows at it
pub rows_next : (i : ℕ) (columns : List Column) (op : Op) (ops : List Op) (found : List Item) → RowsFrom i columns (op ∷ ops) found → AllByRecursion (IsOf (columns_after columns op.what)) (rows_with (is_at (suc i)) found)
rows_next i columns op ops found of =
    let next : List Column = columns_after columns op.what in
    subst (λ (n : ℕ). AllByRecursion (IsOf next) (rows_with (is_at n) found)) one_on (subst (λ (cs : List Column). AllByRecursion (IsOf cs) (rows_with (is_at (i + 1)) found)) (first_along next ops) (of.rows 1))
  where
    one_on : i + 1 ≡ suc i
    one_on = omega arith

pub parts_here : (i : ℕ) (columns : List Column) (op : Op) (ops : List Op) (found : List Item) → RowsFrom i columns (op ∷ ops) found → AllByRecursion (IsOf (columns_after columns op.what)) (rows_with (is_partial i) found)
parts_here i columns op ops found of =
    let next : List Column = columns_after columns op.what in
    subst (λ (n : ℕ). AllByRecursion (IsOf next) (rows_with (is_partial n) found)) same_on (subst (λ (cs : List Column). AllByRecursion (IsOf cs) (rows_with (is_partial (i + 0)) found)) (first_along next ops) (of.partial 0))
  where
    same_on : i + 0 ≡ i
    same_on = omega arith

pub items_along : (level i : ℕ) (columns : List Column) (ops : List Op) (found : List Item) → IsSchema columns → AreSound columns ops → RowsFrom i columns ops found → ItemsHad i (map (op_at level) (typed_ops columns ops)) found
items_along level i columns [] found h s of = tt
items_along level i columns (op ∷ ops) found h s of =
    let next : List Column = columns_after columns op.what in
    let rest : List Acting = map (op_at level) (typed_ops next ops) in
    let schema = schema_after columns op.what h s.0 in
    let onward : (row : Row) → IsOf next row → Had rest row = λ row is. had_along level next ops row schema s.1 is in (
      partial_had level columns op.what rest (rows_with (is_partial i) found) h s.0 (parts_here i columns op ops found of) onward,
      all_weaker (IsOf next) (Had rest) onward (rows_with (is_at (suc i)) found) (rows_next i columns op ops found of),
      items_along level (suc i) next ops found schema s.1 (rows_later i columns op ops found of),
    )
