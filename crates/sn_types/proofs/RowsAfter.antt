-- The rows after an operator are of the columns after it.
use Rattle.std.proofs.Common.{◌≡◌, ℕ, suc, take, get_or, ◌+◌, ◌-◌, ◌^◌, ◌<◌, min, List, [], ◌∷◌, ◌++◌, map, fold, length, true, false, not, ◌&&◌, ◌==◌, nat_lt, cond, Option, slice_index, refl, ap, sym, ◌∙◌, subst, arith}
use Rattle.std.proofs.lemmas.List.{take_more, map-append}
use Rattle.std.proofs.Math.Bridge.{le_prop}
use Rattle.std.proofs.Math.Pow.{pow_mono}
use Rattle.std.proofs.Math.Nat.{div-mul-le_self}
use Rattle.std.specs.List.{AllByRecursion, list_all}
use Rattle.sn_base.proofs.Lists.{all_map, all_weaker, all_filter, or_none, all_front, all_rest as all_back, all_both}
use Rattle.sn_base.proofs.OnceLemmas.{all_once}
use Rattle.sn_base.proofs.FoldLemmas.{fold_had}
use Rattle.sn_base.proofs.FoldedLemmas.{values_had}
use Rattle.sn_base.specs.AnyFold.{any_has, any_unit, any_step, any_laws}
use Rattle.sn_base.specs.Columns.{IsOf}
use Rattle.sn_base.specs.Groups.{Row, once, same_row, values_at, columns_at, keyed}
use Rattle.sn_base.specs.Mask.{masked}
use Rattle.sn_base.specs.Operators.{Grouping, apply, row_for, pair_of}
use Rattle.sn_base.specs.declared.any_fold.AnyFold.{AnyFold}
use Rattle.sn_base.specs.declared.any_fold.AnyFold.TheVariants as folds
use Rattle.sn_base.specs.declared.column.Column.{Column}
use Rattle.sn_fields.specs.declared.field.Field.{Field}
use Rattle.sn_fields.specs.Fields.{number_of, width_of}
use Rattle.sn_query_grammar.specs.declared.ast.FoldWord.TheVariants as words
use Rattle.sn_query_grammar.specs.declared.ast.FoldWord.{FoldWord}
use Rattle.sn_query_grammar.specs.declared.ast.MapCol.{MapCol}
use Rattle.sn_query_grammar.specs.declared.ast.Reduce.{Reduce}
use Rattle.sn_query_grammar.specs.declared.ast.What.{What}
use Rattle.sn_query_grammar.specs.declared.ast.What.TheVariants as what
use Rattle.sn_types_faults.specs.Columns.{place_of, column_named, folded_column, mapped_column, field_column, columns_after}
use Rattle.sn_types_faults.specs.Faults.{is_sum}
use Rattle.sn_query_grammar.specs.Limits.{Within, IsPostExpr}
use Rattle.sn_types_faults.specs.Names.{Name, names_in}
use Rattle.sn_types_faults.specs.Widths.{lawful, fold_of}
use Rattle.sn_types.specs.Typed.{HasWidths, read_at, packet_row, is_field}
use Rattle.sn_types.specs.Typing.{typed_cond, typed_expr, typed_op}
use Rattle.sn_types.specs.Values.{holds, value_of, op_at}
use Rattle.sn_types.proofs.Known.{IsKnown, all_parts}
use Rattle.sn_types.proofs.RowLemmas.{in_width, map_fits}
use Rattle.sn_types.proofs.Schemas.{IsSchema, HasWidth, value_width, folded_more, mapped_whole, reduced_columns, reduced_whole}
use Rattle.sn_types.proofs.Sound.{IsSound}

-- ---- rows of columns

abbrev pub AreOf : List Column → List Row → Type 0
AreOf columns rows = AllByRecursion (IsOf columns) rows

pub of_prop : (columns : List Column) (row : Row) → IsProp (IsOf columns row)
of_prop [] [] = λ x y. refl
of_prop [] (x ∷ row) = λ h k. absurd h
of_prop (c ∷ columns) [] = λ h k. absurd h
of_prop (c ∷ columns) (x ∷ row) = hlevel (le_prop, of_prop columns row)

-- a row has as many numbers as there are columns
pub as_long : (columns : List Column) (row : Row) → IsOf columns row → length row ≡ length columns
as_long [] [] h = refl
as_long [] (x ∷ row) h = absurd h
as_long (c ∷ columns) [] h = absurd h
as_long (c ∷ columns) (x ∷ row) h = ap suc (as_long columns row h.1)

pub of_both : (xs ys : List Column) (r s : Row) → IsOf xs r → IsOf ys s → IsOf (xs ++ ys) (r ++ s)
of_both [] ys [] s h k = k
of_both [] ys (x ∷ r) s h k = absurd h
of_both (c ∷ xs) ys [] s h k = absurd h
of_both (c ∷ xs) ys (x ∷ r) s h k = (h.0, of_both xs ys r s h.1 k)

-- the columns of these names, in their order
pub named_of : (columns : List Column) (row : Row) (names : List Name) → IsOf columns row → AllByRecursion (IsKnown columns) names → IsOf (map (column_named columns) names) (columns_at (map (place_of columns) names) row)
named_of columns row [] of known = tt
named_of columns row (n ∷ names) of known = (in_width columns row n of known.0, named_of columns row names of known.1)

-- ---- packet rows

-- what is read of a field has its width
read_fits : (refined : Option Field) (level : ℕ) (tuple : List ℕ) (f : Field) → slice_index tuple (number_of f) < 2 ^ width_of f → read_at refined level tuple f < 2 ^ width_of f
read_fits refined level tuple f h =
    let x = slice_index tuple (number_of f) in
    let less = div-mul-le_self x (2 ^ (width_of f - level)) in
    let low : masked (width_of f) level x < 2 ^ width_of f = omega (arith, h, less) in
    (elim (not (level == 0) && is_field refined f) as (λ b. cond b (masked (width_of f) level x) x < 2 ^ width_of f) [ true ↦ low | false ↦ h ])

pub packet_of : (refined : Option Field) (level : ℕ) (fields : List Field) (tuple : List ℕ) → HasWidths tuple → IsOf (map field_column fields) (packet_row refined level fields tuple)
packet_of refined level [] tuple h = tt
packet_of refined level (f ∷ fields) tuple h = (read_fits refined level tuple f (h f), packet_of refined level fields tuple h)

-- one field more
pub field_more : (fields : List Field) (i : ℕ) (d : Field) (row longer : Row) (x : ℕ) → i < length fields → x < 2 ^ width_of (get_or fields i d) → longer ≡ row ++ x ∷ []
    → IsOf (map field_column (take i fields)) row → IsOf (map field_column (take (i + 1) fields)) longer
field_more fields i d row longer x within below now of =
    let f : Field = get_or fields i d in
    let all = of_both (map field_column (take i fields)) (field_column f ∷ []) row (x ∷ []) of (below, tt) in
    subst (λ (cs : List Column). IsOf cs longer) (sym (ap (map field_column) (take_more fields i d within) ∙ map-append field_column (take i fields) (f ∷ [])))
    (subst (λ (r : Row). IsOf (map field_column (take i fields) ++ field_column f ∷ []) r) (sym now) all)

-- ---- folds

pub lawful_same : (w : ℕ) → Within 1 64 w → lawful w ≡ w
lawful_same w h = omega arith

pub had_of : (word : FoldWord) (w a : ℕ) → a < 2 ^ lawful w → any_has (fold_of word w) a
had_of words.Sum w a h = h
had_of words.Max w a h = h
had_of words.Min w a h = h
had_of words.Or w a h = h

pub of_had : (word : FoldWord) (w a : ℕ) → any_has (fold_of word w) a → a < 2 ^ lawful w
of_had words.Sum w a h = h
of_had words.Max w a h = h
of_had words.Min w a h = h
of_had words.Or w a h = h

-- a number of a fold has at most 64 bits
pub had_below : (f : AnyFold) (x : ℕ) → any_has f x → x < 2 ^ 64
had_below (folds.SatSum f) x h = let more = pow_mono f.in_range.1 in omega (arith, h, more)
had_below (folds.Max f) x h = let more = pow_mono f.in_range.1 in omega (arith, h, more)
had_below (folds.Min f) x h = let more = pow_mono f.in_range.1 in omega (arith, h, more)
had_below (folds.Or f) x h = let more = pow_mono f.in_range.1 in omega (arith, h, more)

pub stays_whole : (x : ℕ) → x < 2 ^ 64 → min x (2 ^ 64 - 1) ≡ x
stays_whole x h = omega (arith, h)

-- ---- a reduce

-- the fold has the values that it takes
pub value_had : (columns : List Column) (r : Reduce) (row : Row) → AllByRecursion HasWidth columns → IsSound columns (what.Reduce r) → IsOf columns row
    → any_has (fold_of r.fold (folded_column columns r).width) (slice_index row (place_of columns r.value))
value_had columns r row widths s of =
    let w : ℕ = (folded_column columns r).width in
    let known = (all_back (IsKnown columns) r.keys (r.value ∷ []) s.known).0 in
    let here = in_width columns row r.value of known in
    let column : ℕ = (column_named columns r.value).width in
    let narrow = or_none (nat_lt 64 column) (is_sum r.fold && nat_lt r.width column) s.narrow in
    let wide = pow_mono (folded_more r.fold r.width column narrow.1) in
    let low : slice_index row (place_of columns r.value) < 2 ^ w = omega (arith, here, wide) in
    had_of r.fold w (slice_index row (place_of columns r.value)) (subst (λ (v : ℕ). slice_index row (place_of columns r.value) < 2 ^ v) (sym (lawful_same w (value_width columns r widths s))) low)

grouping : List Column → Reduce → Grouping
grouping columns r = record { places = map (place_of columns) r.keys; value = place_of columns r.value; by = fold_of r.fold (folded_column columns r).width }

all_values : (columns : List Column) (r : Reduce) (rows : List Row) → AllByRecursion HasWidth columns → IsSound columns (what.Reduce r) → AreOf columns rows
    → AllByRecursion (λ row. any_has (fold_of r.fold (folded_column columns r).width) (slice_index row (place_of columns r.value))) rows
all_values columns r [] widths s of = tt
all_values columns r (row ∷ rows) widths s of = (value_had columns r row widths s of.0, all_values columns r rows widths s of.1)

fold_below : (columns : List Column) (r : Reduce) (rows : List Row) (key : Row) → AllByRecursion HasWidth columns → IsSound columns (what.Reduce r) → AreOf columns rows
    → fold (any_step (grouping columns r).by) (any_unit (grouping columns r).by) (values_at same_row key (map (pair_of (grouping columns r)) rows)) < 2 ^ (folded_column columns r).width
unfolding grouping
fold_below columns r rows key widths s of =
    let w : ℕ = (folded_column columns r).width in
    let by : AnyFold = fold_of r.fold w in
    let L = any_laws by in
    let vs : List ℕ = values_at same_row key (map (keyed (map (place_of columns) r.keys) (place_of columns r.value)) rows) in
    let had : any_has by (fold (any_step by) (any_unit by) vs) =
    fold_had L (any_unit by) vs L.unit_had (values_had (any_has by) key (map (place_of columns) r.keys) (place_of columns r.value) rows (all_values columns r rows widths s of)) in
    subst (λ (v : ℕ). fold (any_step by) (any_unit by) vs < 2 ^ v) (lawful_same w (value_width columns r widths s)) (of_had r.fold w (fold (any_step by) (any_unit by) vs) had)

keys_of : (columns : List Column) (r : Reduce) (rows : List Row) → IsSound columns (what.Reduce r) → AreOf columns rows
    → AllByRecursion (IsOf (map (column_named columns) r.keys)) (map (λ p. p.0) (map (pair_of (grouping columns r)) rows))
unfolding grouping
keys_of columns r [] s of = tt
keys_of columns r (row ∷ rows) s of = (named_of columns row r.keys of.0 (all_front (IsKnown columns) r.keys (r.value ∷ []) s.known), keys_of columns r rows s of.1)

-- a group's row
group_of : (columns : List Column) (r : Reduce) (rows : List Row) (key : Row) → AllByRecursion HasWidth columns → IsSound columns (what.Reduce r) → AreOf columns rows
    → IsOf (map (column_named columns) r.keys) key → IsOf (reduced_columns columns r) (row_for (grouping columns r) (map (pair_of (grouping columns r)) rows) key)
group_of columns r rows key widths s of is =
    of_both (map (column_named columns) r.keys) (folded_column columns r ∷ []) key
    (fold (any_step (grouping columns r).by) (any_unit (grouping columns r).by) (values_at same_row key (map (pair_of (grouping columns r)) rows)) ∷ []) is (fold_below columns r rows key widths s of, tt)

reduced_of : (columns : List Column) (r : Reduce) (rows : List Row) → AllByRecursion HasWidth columns → IsSound columns (what.Reduce r) → AreOf columns rows
    → AreOf (reduced_columns columns r) (map (row_for (grouping columns r) (map (pair_of (grouping columns r)) rows)) (once same_row (map (λ p. p.0) (map (pair_of (grouping columns r)) rows))))
reduced_of columns r rows widths s of =
    let g : Grouping = grouping columns r in
    let keys : List Row = map (λ p. p.0) (map (pair_of g) rows) in
    let row : Row → Row = row_for g (map (pair_of g) rows) in
    all_map (IsOf (reduced_columns columns r)) row (once same_row keys)
    (all_weaker (IsOf (map (column_named columns) r.keys)) (λ k. IsOf (reduced_columns columns r) (row k)) (λ k. group_of columns r rows k widths s of) (once same_row keys)
    (all_once same_row (IsOf (map (column_named columns) r.keys)) keys (keys_of columns r rows s of)))

reduce_after : (level : ℕ) (columns : List Column) (r : Reduce) (rows : List Row) → IsSchema columns → IsSound columns (what.Reduce r) → AreOf columns rows
    → AreOf (columns_after columns (what.Reduce r)) (apply (op_at level (typed_op columns (what.Reduce r))) rows)
unfolding grouping
reduce_after level columns r rows h s of =
    subst (λ (cs : List Column). AreOf cs (apply (op_at level (typed_op columns (what.Reduce r))) rows)) (sym (reduced_whole columns r h.few s)) (reduced_of columns r rows h.widths s of)

-- ---- a map

mapped_of : (columns : List Column) (cols : List MapCol) (rows : List Row) → AllByRecursion (λ c. IsPostExpr c.expr × AllByRecursion (IsKnown columns) (names_in c.expr)) cols → AreOf columns rows
    → AreOf (map (mapped_column columns) cols) (map (λ row. map (λ e. value_of e row) (map (λ c. typed_expr columns c.expr) cols)) rows)
mapped_of columns cols [] h of = tt
mapped_of columns cols (row ∷ rows) h of = (map_fits columns row cols of.0 h, mapped_of columns cols rows h of.1)

map_after : (level : ℕ) (columns : List Column) (cols : List MapCol) (rows : List Row) → IsSound columns (what.Map cols) → AreOf columns rows
    → AreOf (columns_after columns (what.Map cols)) (apply (op_at level (typed_op columns (what.Map cols))) rows)
map_after level columns cols rows s of =
    subst (λ (cs : List Column). AreOf cs (apply (op_at level (typed_op columns (what.Map cols))) rows)) (sym (mapped_whole columns cols s.limits.0))
    (mapped_of columns cols rows (all_both (λ c. IsPostExpr c.expr) (λ c. AllByRecursion (IsKnown columns) (names_in c.expr)) cols s.limits.2 (all_parts (IsKnown columns) (λ (c : MapCol). names_in c.expr) cols s.known)) of)

-- ---- each operator

pub rows_after : (level : ℕ) (columns : List Column) (w : What) (rows : List Row) → IsSchema columns → IsSound columns w → AreOf columns rows → AreOf (columns_after columns w) (apply (op_at level (typed_op columns w)) rows)
rows_after level columns (what.Filter conds) rows h s of = all_filter (IsOf columns) (λ row. list_all (λ c. holds level c row) (map (typed_cond columns) conds)) rows of
rows_after level columns (what.Map cols) rows h s of = map_after level columns cols rows s of
rows_after level columns what.Distinct rows h s of = all_once same_row (IsOf columns) rows of
rows_after level columns (what.Reduce r) rows h s of = reduce_after level columns r rows h s of
