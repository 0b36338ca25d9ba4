-- Rows of typed queries have at most eight columns of at most 128 bits.
use Rattle.std.proofs.Common.{◌≡◌, ℕ, zero, suc, ◌+◌, ◌*◌, ◌≤◌, List, [], ◌∷◌, ◌++◌, map, length, Bool, true, false, cond, nat_le, Some, unwrap_or, refl, arith}
use Rattle.std.specs.List.{AllByRecursion, find, sum_by}
use Rattle.std.proofs.lemmas.List.Sums.{sum_by-cons}
use Rattle.std.proofs.lemmas.List.{length-map}
use Rattle.sn_base.specs.declared.any_fold.AnyFold.{AnyFold}
use Rattle.sn_base.specs.declared.any_fold.AnyFold.TheVariants as folds
use Rattle.sn_base.specs.declared.column.Column.{Column}
use Rattle.sn_base.proofs.Lists.{all_append}
use Rattle.sn_fields.specs.declared.field.Field.{Field}
use Rattle.sn_fields.proofs.Widths.{width_most}
use Rattle.sn_query_grammar.specs.declared.ast.Expr.{Expr}
use Rattle.sn_query_grammar.specs.declared.ast.Expr.TheVariants as expr
use Rattle.sn_query_grammar.specs.declared.ast.MapCol.{MapCol}
use Rattle.sn_query_grammar.specs.declared.ast.FoldWord.{FoldWord}
use Rattle.sn_query_grammar.specs.declared.ast.FoldWord.TheVariants as word
use Rattle.sn_query_grammar.specs.declared.ast.Op.{Op}
use Rattle.sn_query_grammar.specs.declared.ast.What.{What}
use Rattle.sn_query_grammar.specs.declared.ast.What.TheVariants as what
use Rattle.sn_types_faults.specs.Names.{Name, same_name, packet_fields}
use Rattle.sn_types_faults.specs.Widths.{folded_width}
use Rattle.sn_types_faults.specs.Columns.{place_of, column_named, expr_width, mapped_column, folded_column, as_schema, columns_after, field_column, packet_columns}
use Rattle.sn_query_grammar.specs.Limits.{IsBranchExpr, FoldWidth, BranchOp}
use Rattle.sn_types.specs.declared.typed_op.TOp.{TOp}
use Rattle.sn_types.specs.Typed.{schema_at, operator_at}
use Rattle.sn_types.specs.Typing.{typed_op, typed_reduce, typed_ops, schemas_along}
use Rattle.sn_plan_fit.specs.Registers.{row_width, width_at, fold_width, key_bits, value_bits}

abbrev pub AreNarrow : List Column → Type 0
AreNarrow columns = AllByRecursion (λ c. c.width ≤ 128) columns

pub record IsNarrow (columns : List Column) : Type 0 where
  pub widths : AreNarrow columns
  pub few : length columns ≤ 8

-- ---- columns

found_narrow : (t : Column → Bool) (d : Column) (columns : List Column) → d.width ≤ 128 → AreNarrow columns → (unwrap_or (find t columns) d).width ≤ 128
found_narrow t d [] h a = h
found_narrow t d (c ∷ cs) h a = by_test (t c) (found_narrow t d cs h a.1)
  where
    by_test : (b : Bool) → (unwrap_or (find t cs) d).width ≤ 128 → (unwrap_or (cond b (Some c) (find t cs)) d).width ≤ 128
    by_test true rest = a.0
    by_test false rest = rest

named_narrow : (columns : List Column) (name : Name) → AreNarrow columns → (column_named columns name).width ≤ 128
named_narrow columns name a = found_narrow (λ c. same_name c.name name) (record { name = name; width = 1; address = false }) columns (omega arith) a

expr_narrow : (columns : List Column) (e : Expr) → AreNarrow columns → IsBranchExpr e → expr_width columns e ≤ 128
expr_narrow columns (expr.Const n) a h = omega arith
expr_narrow columns (expr.Copy x) a h = named_narrow columns x a
expr_narrow columns (expr.Mask x bits) a h = named_narrow columns x a
expr_narrow columns (expr.Shift x k) a h = let w = named_narrow columns x a in omega (arith, w)
expr_narrow columns (expr.Sum x y) a h = absurd h
expr_narrow columns (expr.Ratio x k y) a h = absurd h

mapped_narrow : (columns : List Column) (cols : List MapCol) → AreNarrow columns → AllByRecursion (λ c. IsBranchExpr c.expr) cols → AreNarrow (map (mapped_column columns) cols)
mapped_narrow columns [] a h = tt
mapped_narrow columns (c ∷ cs) a h = (expr_narrow columns c.expr a h.0, mapped_narrow columns cs a h.1)

keys_narrow : (columns : List Column) (keys : List Name) → AreNarrow columns → AreNarrow (map (column_named columns) keys)
keys_narrow columns [] a = tt
keys_narrow columns (k ∷ ks) a = (named_narrow columns k a, keys_narrow columns ks a)

folded_narrow : (w : FoldWord) (own column : ℕ) → FoldWidth w own → column ≤ 128 → folded_width w own column ≤ 128
folded_narrow word.Sum own column h l = let most = h.to_most in omega (arith, most)
folded_narrow word.Max own column h l = l
folded_narrow word.Min own column h l = l
folded_narrow word.Or own column h l = l

cut_narrow : (columns : List Column) → AreNarrow columns → IsNarrow (as_schema columns)
cut_narrow columns a = by_count (nat_le (length columns) 8) (λ e. grind (arith, e))
  where
    by_count : (b : Bool) → (b ≡ true → length columns ≤ 8) → IsNarrow (cond b columns [])
    by_count true few = record { widths = a; few = few refl }
    by_count false few = record { widths = tt; few = omega arith }

after_narrow : (columns : List Column) (w : What) → IsNarrow columns → BranchOp w → IsNarrow (columns_after columns w)
after_narrow columns (what.Filter conds) n h = n
after_narrow columns (what.Map cols) n h = cut_narrow (map (mapped_column columns) cols) (mapped_narrow columns cols n.widths h.2)
after_narrow columns what.Distinct n h = n
after_narrow columns (what.Reduce r) n h =
    cut_narrow (map (column_named columns) r.keys ++ folded_column columns r ∷ [])
    (all_append (λ (c : Column). c.width ≤ 128) (map (column_named columns) r.keys) (folded_column columns r ∷ []) (keys_narrow columns r.keys n.widths)
    (folded_narrow r.fold r.width (column_named columns r.value).width h.width (named_narrow columns r.value n.widths), tt))

fields_narrow : (fs : List Field) → AreNarrow (map field_column fs)
fields_narrow [] = tt
fields_narrow (f ∷ fs) = let most = width_most f in (omega (arith, most), fields_narrow fs)

pub packet_narrow : (ops : List Op) → IsNarrow (packet_columns ops)
packet_narrow ops = cut_narrow (map field_column (packet_fields ops)) (fields_narrow (packet_fields ops))

-- ---- rows and registers

pub sum_most : {X : Type 0} (f : X → ℕ) (most : ℕ) (xs : List X) → AllByRecursion (λ x. f x ≤ most) xs → sum_by f xs ≤ most * length xs
sum_most f most [] h = omega arith
sum_most f most (x ∷ xs) h =
    let rest = sum_most f most xs h.1 in
    let is = sum_by-cons f x xs in
    omega (arith, rest, is, h.0)

pub row_narrow : (columns : List Column) → IsNarrow columns → row_width columns ≤ 1024
row_narrow columns n = let k = sum_most (λ (c : Column). c.width) 128 columns n.widths in omega (arith, k, n.few)

place_narrow : (columns : List Column) (place : ℕ) → AreNarrow columns → width_at columns place ≤ 128
place_narrow [] place a = omega arith
place_narrow (c ∷ cs) zero a = a.0
place_narrow (c ∷ cs) (suc place) a = place_narrow cs place a.1

places_narrow : (columns : List Column) (places : List ℕ) → AreNarrow columns → AllByRecursion (λ p. width_at columns p ≤ 128) places
places_narrow columns [] a = tt
places_narrow columns (p ∷ ps) a = (place_narrow columns p a, places_narrow columns ps a)

fold_narrow : (f : AnyFold) → fold_width f ≤ 64
fold_narrow (folds.SatSum f) = f.in_range.1
fold_narrow (folds.Max f) = f.in_range.1
fold_narrow (folds.Min f) = f.in_range.1
fold_narrow (folds.Or f) = f.in_range.1

-- the bits of a slot of an operator's registers
abbrev pub slot_bits : List Column → TOp → ℕ
slot_bits columns op = key_bits columns op + value_bits op + 1

slot_narrow : (columns : List Column) (w : What) → IsNarrow columns → BranchOp w → slot_bits columns (typed_op columns w) ≤ 1089
slot_narrow columns (what.Filter conds) n h = omega arith
slot_narrow columns (what.Map cols) n h = omega arith
slot_narrow columns what.Distinct n h = let k = row_narrow columns n in omega (arith, k)
slot_narrow columns (what.Reduce r) n h =
    let k = sum_most (width_at columns) 128 (map (place_of columns) r.keys) (places_narrow columns (map (place_of columns) r.keys) n.widths) in
    let is = length-map r.keys (place_of columns) in
    let v = fold_narrow (typed_reduce columns r).fold in
    omega (arith, k, is, v, h.count.to_most)

-- a branch of which each row and each slot is narrow
pub record IsNarrowBranch (schemas : List (List Column)) (ops : List TOp) : Type 0 where
  pub rows : (i : ℕ) → row_width (schema_at schemas i) ≤ 1024
  pub slots : (i : ℕ) → slot_bits (schema_at schemas i) (operator_at ops i) ≤ 1089

rows_along : (columns : List Column) (ops : List Op) → IsNarrow columns → AllByRecursion (λ op. BranchOp op.what) ops → (i : ℕ) → row_width (schema_at (schemas_along columns ops) i) ≤ 1024
rows_along columns [] n h zero = row_narrow columns n
rows_along columns [] n h (suc i) = omega arith
rows_along columns (op ∷ ops) n h zero = row_narrow columns n
rows_along columns (op ∷ ops) n h (suc i) = rows_along (columns_after columns op.what) ops (after_narrow columns op.what n h.0) h.1 i

slots_along : (columns : List Column) (ops : List Op) → IsNarrow columns → AllByRecursion (λ op. BranchOp op.what) ops → (i : ℕ) → slot_bits (schema_at (schemas_along columns ops) i) (operator_at (typed_ops columns ops) i) ≤ 1089
slots_along columns [] n h zero = let k = row_narrow columns n in omega (arith, k)
slots_along columns [] n h (suc i) = omega arith
slots_along columns (op ∷ ops) n h zero = slot_narrow columns op.what n h.0
slots_along columns (op ∷ ops) n h (suc i) = slots_along (columns_after columns op.what) ops (after_narrow columns op.what n h.0) h.1 i

pub branch_narrow : (ops : List Op) → AllByRecursion (λ op. BranchOp op.what) ops → IsNarrowBranch (schemas_along (packet_columns ops) ops) (typed_ops (packet_columns ops) ops)
branch_narrow ops h = record { rows = rows_along (packet_columns ops) ops (packet_narrow ops) h; slots = slots_along (packet_columns ops) ops (packet_narrow ops) h }
