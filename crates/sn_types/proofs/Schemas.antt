-- Schemas along operators: at most eight columns, of 1 to 128 bits, with names apart.
use Rattle.std.proofs.Common.{◌≡◌, ℕ, suc, ◌-◌, ◌≤◌, ◌<◌, List, [], ◌∷◌, ◌++◌, map, filter, length, Bool, true, false, not, ◌||◌, ◌&&◌, cond, nat_lt, max, Some, unwrap_or, ap, sym, ◌∙◌, subst, arith, lit≤, length-append}
use Rattle.std.proofs.lemmas.Bool.{ltb-false}
use Rattle.std.proofs.lemmas.List.{length-map}
use Rattle.std.specs.List.{AllByRecursion, find}
use Rattle.sn_base.proofs.Lists.{by_test, all_weaker, all_append, filter_keeps, or_none, none_all as fails_for_each, all_front, all_rest as all_back}
use Rattle.sn_base.proofs.FoldedLemmas.{same_row_exact}
use Rattle.sn_base.specs.declared.column.Column.{Column}
use Rattle.sn_base.specs.Groups.{Apart, same_row}
use Rattle.sn_fields.specs.declared.field.Field.{Field}
use Rattle.sn_fields.specs.Fields.{width_of}
use Rattle.sn_fields.proofs.Widths.{width_least, width_most}
use Rattle.sn_query_grammar.specs.declared.ast.Op.{Op}
use Rattle.sn_query_grammar.specs.declared.ast.Expr.{Expr}
use Rattle.sn_query_grammar.specs.declared.ast.Expr.TheVariants.{Const, Copy, Mask, Shift, Sum, Ratio}
use Rattle.sn_query_grammar.specs.declared.ast.MapCol.{MapCol}
use Rattle.sn_query_grammar.specs.declared.ast.Reduce.{Reduce}
use Rattle.sn_query_grammar.specs.declared.ast.FoldWord.TheVariants as fold
use Rattle.sn_query_grammar.specs.declared.ast.FoldWord.{FoldWord}
use Rattle.sn_query_grammar.specs.declared.ast.What.{What}
use Rattle.sn_query_grammar.specs.declared.ast.What.TheVariants as what
use Rattle.sn_types_faults.specs.Names.{Name, same_name, packet_fields}
use Rattle.sn_types_faults.specs.Widths.{folded_width}
use Rattle.sn_types_faults.specs.Columns.{has_column, column_named, expr_width, mapped_column, folded_column, field_column, as_schema, columns_after, packet_columns}
use Rattle.sn_types_faults.specs.Faults.{is_sum}
use Rattle.sn_query_grammar.specs.Limits.{Within, FoldWidth}
use Rattle.sn_types.proofs.Known.{IsKnown, whole_schema}
use Rattle.sn_types.proofs.Sound.{IsSound, AreSound}

-- ---- names that are apart are no more than the columns that have them

all_kept : {X : Type 0} (P Q : X → Type 0) (t : X → Bool) → ((x : X) → t x ≡ true → P x → Q x) → (xs : List X) → AllByRecursion P xs → AllByRecursion Q (filter t xs)
all_kept P Q t w [] h = tt
all_kept P Q t w (x ∷ xs) h =
    let rest = all_kept P Q t w xs h.1 in
    by_test (t x)
    (λ is. subst (λ b. AllByRecursion Q (cond b (x ∷ filter t xs) (filter t xs))) (sym is) (w x is h.0, rest))
    (λ isnt. subst (λ b. AllByRecursion Q (cond b (x ∷ filter t xs) (filter t xs))) (sym isnt) rest)

apart_kept : (t : Name → Bool) (names : List Name) → Apart same_row names → Apart same_row (filter t names)
apart_kept t [] h = tt
apart_kept t (n ∷ names) h =
    let rest = apart_kept t names h.1 in
    by_test (t n)
    (λ is. subst (λ b. Apart same_row (cond b (n ∷ filter t names) (filter t names))) (sym is)
    (all_kept (λ x. same_row n x ≡ false) (λ x. same_row n x ≡ false) t (λ x k h. h) names h.0, rest))
    (λ isnt. subst (λ b. Apart same_row (cond b (n ∷ filter t names) (filter t names))) (sym isnt) rest)

others_kept : (k n : Name) (names : List Name) → same_row k n ≡ true → AllByRecursion (λ x. same_row n x ≡ false) names → filter (λ x. not (same_row k x)) names ≡ names
others_kept k n names is apart =
    let same : n ≡ k = sym (same_row_exact k n is) in
    filter_keeps (λ x. not (same_row k x)) names (all_weaker (λ x. same_row n x ≡ false) (λ x. not (same_row k x) ≡ true) (λ x e. ap not (ap (λ (m : Name). same_row m x) (sym same) ∙ e)) names apart)

-- of names that are apart, at most one is a given one
one_left : (k : Name) (names : List Name) → Apart same_row names → length names ≤ suc (length (filter (λ x. not (same_row k x)) names))
one_left k [] apart = omega arith
one_left k (n ∷ names) apart =
    let rest : List Name = filter (λ x. not (same_row k x)) names in
    let P : Bool → Type 0 = λ b. suc (length names) ≤ suc (length (cond (not b) (n ∷ rest) rest)) in
    let later = one_left k names apart.1 in
    by_test (same_row k n)
    (λ is. let all = ap length (others_kept k n names is apart.0) in subst P (sym is) (omega (arith, all)))
    (λ isnt. subst P (sym isnt) (omega (arith, later)))

known_after : (c : Column) (columns : List Column) (n : Name) → not (same_row c.name n) ≡ true → IsKnown (c ∷ columns) n → IsKnown columns n
known_after c columns n other known = (elim (same_row c.name n) as (λ b. not b ≡ true → (b || has_column columns n) ≡ true → has_column columns n ≡ true) [ true ↦ λ o k. cc (o) | false ↦ λ o k. k ]) other known

pub no_more_names : (columns : List Column) (names : List Name) → Apart same_row names → AllByRecursion (IsKnown columns) names → length names ≤ length columns
no_more_names [] [] apart known = omega arith
no_more_names [] (n ∷ names) apart known = let never = known.0 in cc
no_more_names (c ∷ columns) names apart known =
    let t : Name → Bool = λ n. not (same_row c.name n) in
    let fewer = no_more_names columns (filter t names) (apart_kept t names apart) (all_kept (IsKnown (c ∷ columns)) (IsKnown columns) t (known_after c columns) names known) in
    let most = one_left c.name names apart in
    omega (arith, fewer, most)

-- a reduce of known columns has fewer keys than there are columns
pub fewer_keys : (columns : List Column) (r : Reduce) → IsSound columns (what.Reduce r) → length r.keys < length columns
fewer_keys columns r s =
    let others = fails_for_each (same_row r.value) r.keys s.limits.no_key in
    let keys = all_front (IsKnown columns) r.keys (r.value ∷ []) s.known in
    let value = (all_back (IsKnown columns) r.keys (r.value ∷ []) s.known).0 in
    let most : suc (length r.keys) ≤ length columns = no_more_names columns (r.value ∷ r.keys) (others, s.limits.apart) (value, keys) in
    omega (arith, most)

-- ---- widths

abbrev pub HasWidth : Column → Type 0
HasWidth c = Within 1 128 c.width

pub record IsSchema (columns : List Column) : Type 0 where
  pub few : length columns ≤ 8
  pub widths : AllByRecursion HasWidth columns

field_width : (f : Field) → Within 1 128 (width_of f)
field_width f = record { from_least = width_least f; to_most = width_most f }

field_widths : (fields : List Field) → AllByRecursion HasWidth (map field_column fields)
field_widths [] = tt
field_widths (f ∷ fields) = (field_width f, field_widths fields)

pub packet_whole : (ops : List Op) → length (packet_fields ops) ≤ 8 → packet_columns ops ≡ map field_column (packet_fields ops)
packet_whole ops few = whole_schema (map field_column (packet_fields ops)) (subst (λ (n : ℕ). n ≤ 8) (sym (length-map (packet_fields ops) field_column)) few)

pub packet_schema : (ops : List Op) → length (packet_fields ops) ≤ 8 → IsSchema (packet_columns ops)
packet_schema ops few =
    subst IsSchema (sym (packet_whole ops few))
    (record { few = subst (λ (n : ℕ). n ≤ 8) (sym (length-map (packet_fields ops) field_column)) few; widths = field_widths (packet_fields ops) })

found_has : (P : Column → Type 0) (p : Column → Bool) (d : Column) (columns : List Column) → P d → AllByRecursion P columns → P (unwrap_or (find p columns) d)
found_has P p d [] h all = h
found_has P p d (c ∷ columns) h all =
    let later = found_has P p d columns h all.1 in
    by_test (p c)
    (λ is. subst (λ b. P (unwrap_or (cond b (Some c) (find p columns)) d)) (sym is) all.0)
    (λ isnt. subst (λ b. P (unwrap_or (cond b (Some c) (find p columns)) d)) (sym isnt) later)

pub column_width : (columns : List Column) (n : Name) → AllByRecursion HasWidth columns → Within 1 128 (column_named columns n).width
column_width columns n widths =
    found_has HasWidth (λ (c : Column). same_name c.name n) (record { name = n; width = 1; address = false }) columns (record { from_least = lit≤ tt; to_most = lit≤ tt }) widths

shifted_width : (w k : ℕ) → Within 1 128 w → Within 1 128 (max 1 (w - k))
shifted_width w k h = record { from_least = omega arith; to_most = omega arith }

constant_in : (z : ℕ) → Within 1 128 (max 1 (64 - z))
constant_in z = record { from_least = omega arith; to_most = omega arith }

expr_in : (columns : List Column) (e : Expr) → AllByRecursion HasWidth columns → Within 1 128 (expr_width columns e)
expr_in columns (Const n) h = record { from_least = omega arith; to_most = omega arith }
expr_in columns (Copy a) h = column_width columns a h
expr_in columns (Mask a bits) h = column_width columns a h
expr_in columns (Shift a k) h = shifted_width (column_named columns a).width k (column_width columns a h)
expr_in columns (Sum a b) h = record { from_least = lit≤ tt; to_most = lit≤ tt }
expr_in columns (Ratio a k b) h = record { from_least = lit≤ tt; to_most = lit≤ tt }

mapped_widths : (columns : List Column) (cols : List MapCol) → AllByRecursion HasWidth columns → AllByRecursion HasWidth (map (mapped_column columns) cols)
mapped_widths columns [] h = tt
mapped_widths columns (c ∷ cols) h = (expr_in columns c.expr h, mapped_widths columns cols h)

pub named_widths : (columns : List Column) (names : List Name) → AllByRecursion HasWidth columns → AllByRecursion HasWidth (map (column_named columns) names)
named_widths columns [] h = tt
named_widths columns (n ∷ names) h = (column_width columns n h, named_widths columns names h)

-- a fold's values have at most 64 bits
folded_in : (word : FoldWord) (own width : ℕ) → FoldWidth word own → 1 ≤ width → width ≤ 64 → Within 1 64 (folded_width word own width)
folded_in fold.Sum own width h some most = h
folded_in fold.Max own width h some most = record { from_least = some; to_most = most }
folded_in fold.Min own width h some most = record { from_least = some; to_most = most }
folded_in fold.Or own width h some most = record { from_least = some; to_most = most }

-- a fold's column is no narrower than that of its values
pub folded_more : (word : FoldWord) (own width : ℕ) → (is_sum word && nat_lt own width) ≡ false → width ≤ folded_width word own width
folded_more fold.Sum own width e = ltb-false own width e
folded_more fold.Max own width e = omega arith
folded_more fold.Min own width e = omega arith
folded_more fold.Or own width e = omega arith

pub value_width : (columns : List Column) (r : Reduce) → AllByRecursion HasWidth columns → IsSound columns (what.Reduce r) → Within 1 64 (folded_column columns r).width
value_width columns r widths s =
    let width = (column_named columns r.value).width in
    let narrow = or_none (nat_lt 64 width) (is_sum r.fold && nat_lt r.width width) s.narrow in
    folded_in r.fold r.width width s.limits.width (column_width columns r.value widths).from_least (ltb-false 64 width narrow.0)

value_has : (columns : List Column) (r : Reduce) → AllByRecursion HasWidth columns → IsSound columns (what.Reduce r) → HasWidth (folded_column columns r)
value_has columns r widths s = let h = value_width columns r widths s in record { from_least = h.from_least; to_most = omega (arith, h.to_most) }

-- ---- what stands after an operator is whole

pub mapped_whole : (columns : List Column) (cols : List MapCol) → length cols ≤ 8 → as_schema (map (mapped_column columns) cols) ≡ map (mapped_column columns) cols
mapped_whole columns cols few = whole_schema (map (mapped_column columns) cols) (subst (λ (n : ℕ). n ≤ 8) (sym (length-map cols (mapped_column columns))) few)

abbrev pub reduced_columns : List Column → Reduce → List Column
reduced_columns columns r = map (column_named columns) r.keys ++ folded_column columns r ∷ []

reduced_few : (columns : List Column) (r : Reduce) → length columns ≤ 8 → IsSound columns (what.Reduce r) → length (reduced_columns columns r) ≤ 8
reduced_few columns r few s =
    let keys = fewer_keys columns r s in
    let all = length-append (map (column_named columns) r.keys) (folded_column columns r ∷ []) in
    let named = length-map r.keys (column_named columns) in
    omega (arith, keys, all, named)

pub reduced_whole : (columns : List Column) (r : Reduce) → length columns ≤ 8 → IsSound columns (what.Reduce r) → columns_after columns (what.Reduce r) ≡ reduced_columns columns r
reduced_whole columns r few s = whole_schema (map (column_named columns) r.keys ++ folded_column columns r ∷ []) (reduced_few columns r few s)

mapped_schema : (columns : List Column) (cols : List MapCol) → IsSchema columns → length cols ≤ 8 → IsSchema (as_schema (map (mapped_column columns) cols))
mapped_schema columns cols h few =
    subst IsSchema (sym (mapped_whole columns cols few))
    (record { few = subst (λ (n : ℕ). n ≤ 8) (sym (length-map cols (mapped_column columns))) few; widths = mapped_widths columns cols h.widths })

reduced_schema : (columns : List Column) (r : Reduce) → IsSchema columns → IsSound columns (what.Reduce r) → IsSchema (columns_after columns (what.Reduce r))
reduced_schema columns r h s =
    subst IsSchema (sym (reduced_whole columns r h.few s))
    (record { few = reduced_few columns r h.few s; widths = all_append HasWidth (map (column_named columns) r.keys) (folded_column columns r ∷ []) (named_widths columns r.keys h.widths) (value_has columns r h.widths s, tt) })

pub schema_after : (columns : List Column) (w : What) → IsSchema columns → IsSound columns w → IsSchema (columns_after columns w)
schema_after columns (what.Filter conds) h s = h
schema_after columns (what.Map cols) h s = mapped_schema columns cols h s.limits.0
schema_after columns what.Distinct h s = h
schema_after columns (what.Reduce r) h s = reduced_schema columns r h s

-- the columns after operators
abbrev pub columns_along : List Column → List Op → List Column
columns_along columns [] = columns
columns_along columns (op ∷ ops) = columns_along (columns_after columns op.what) ops

pub schema_along : (columns : List Column) (ops : List Op) → IsSchema columns → AreSound columns ops → IsSchema (columns_along columns ops)
schema_along columns [] h s = h
schema_along columns (op ∷ ops) h s = schema_along (columns_after columns op.what) ops (schema_after columns op.what h s.0) s.1
