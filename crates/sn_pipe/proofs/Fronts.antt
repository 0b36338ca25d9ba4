-- What holds of the first operators of a typed branch.
use Rattle.std.proofs.Common.{◌≡◌, ℕ, zero, suc, ◌+◌, ◌<◌, ◌≤◌, List, [], ◌∷◌, map, take, length, ap, sym, subst, arith}
use Rattle.std.proofs.Math.Bridge.{le_prop}
use Rattle.std.proofs.Math.Logic.{∥∥₁_elim}
use Rattle.std.proofs.lemmas.List.{length-append, length-map}
use Rattle.std.proofs.lemmas.List.Elements.{All-from_recursion}
use Rattle.sn_base.specs.declared.column.Column.{Column}
use Rattle.sn_query_grammar.specs.declared.ast.Op.{Op}
use Rattle.sn_query_grammar.specs.declared.ast.Reduce.{Reduce}
use Rattle.sn_query_grammar.specs.declared.ast.What.{What}
use Rattle.sn_query_grammar.specs.declared.ast.What.TheVariants as what
use Rattle.sn_types_faults.specs.Columns.{column_named, columns_after, folded_column, packet_columns, place_of}
use Rattle.sn_types.specs.declared.typed_op.TCond.{TCond}
use Rattle.sn_types.specs.declared.typed_op.TOp.{TOp}
use Rattle.sn_types.specs.declared.typed_op.TOp.TheVariants as ops
use Rattle.sn_types.specs.declared.typed_query.TypedBranch.{TypedBranch}
use Rattle.sn_types.specs.declared.typed_query.TypedQuery.{TypedQuery}
use Rattle.sn_types.specs.Cuts.{cut_after_distinct, filters_ahead, greatest_cut}
use Rattle.sn_types.specs.Typed.{IsTyped, branch_at, query_at}
use Rattle.sn_types.specs.Typing.{typed_op, typed_ops}
use Rattle.sn_types.specs.WellFormed.{StaysWithin}
use Rattle.sn_types.proofs.Facts.{branch_source_of, few_packet_fields}
use Rattle.sn_types.proofs.Known.{stays_within}
use Rattle.sn_types.proofs.Schemas.{IsSchema, fewer_keys, packet_schema, reduced_whole, schema_after}
use Rattle.sn_types.proofs.Sound.{AreSound, IsSound, sound_branch}
use Rattle.sn_types.proofs.WellFormedLemmas.{op_shifts}
use Rattle.sn_pipe.specs.Passing.{CanBeRead, TestWithin}

-- ---- a cut is within the branch

pub filters_short : (os : List TOp) → filters_ahead os ≤ length os
filters_short [] = omega arith
filters_short (ops.Filter conds ∷ os) = let rest = filters_short os in omega (arith, rest)
filters_short (ops.Map exprs ∷ os) = omega arith
filters_short (ops.Distinct ∷ os) = omega arith
filters_short (ops.Reduce r ∷ os) = omega arith

pub after_short : (os : List TOp) → cut_after_distinct os ≤ length os
after_short [] = omega arith
after_short (ops.Filter conds ∷ os) = let rest = after_short os in omega (arith, rest)
after_short (ops.Map exprs ∷ os) = let rest = after_short os in omega (arith, rest)
after_short (ops.Distinct ∷ os) = omega arith
after_short (ops.Reduce r ∷ os) = let rest = filters_short os in omega (arith, rest)

pub cut_short : (os : List TOp) → greatest_cut os ≤ length os
cut_short [] = omega arith
cut_short (ops.Filter conds ∷ os) = let rest = cut_short os in omega (arith, rest)
cut_short (ops.Map exprs ∷ os) = let rest = cut_short os in omega (arith, rest)
cut_short (ops.Distinct ∷ os) = let rest = after_short os in omega (arith, rest)
cut_short (ops.Reduce r ∷ os) = let rest = filters_short os in omega (arith, rest)

pub cut_within : (window : ℕ) (queries : List TypedQuery) (q b : ℕ) → ∥ IsTyped window queries ∥₁ → q < length queries → b < length (query_at queries q).branches → (branch_at queries q b).max_cut ≤ length (branch_at queries q b).ops
cut_within window queries q b t lt within =
    ∥∥₁_elim t le_prop (λ t.
    let s = branch_source_of window queries q b t lt within in
    subst (λ (x : TypedBranch). x.max_cut ≤ length x.ops) (sym s.is) (cut_short (typed_ops (packet_columns s.ops) s.ops)))

-- ---- what a reduce gives can be tested after it

test_one : (columns : List Column) (w : What) (rest : List TOp) → StaysWithin (length columns) (typed_op columns w) → TestWithin (length (columns_after columns w)) rest → TestWithin (length columns) (typed_op columns w ∷ rest)
test_one columns (what.Filter conds) rest within h = (All-from_recursion (λ (c : TCond). c.col < length columns) _ within, h)
test_one columns (what.Map cols) rest within h = tt
test_one columns what.Distinct rest within h = tt
test_one columns (what.Reduce r) rest within h = tt

test_along : (columns : List Column) (os : List Op) → IsSchema columns → AreSound columns os → TestWithin (length columns) (typed_ops columns os)
test_along columns [] h s = tt
test_along columns (op ∷ os) h s =
    test_one columns op.what (typed_ops (columns_after columns op.what) os) (stays_within columns op.what (op_shifts op.what s.0.limits) s.0.known)
    (test_along (columns_after columns op.what) os (schema_after columns op.what h s.0) s.1)

reduced_count : (columns : List Column) (r : Reduce) → IsSchema columns → IsSound columns (what.Reduce r) → length (columns_after columns (what.Reduce r)) ≡ length (map (place_of columns) r.keys) + 1
reduced_count columns r h s =
    let whole = ap length (reduced_whole columns r h.few s) in
    omega (arith, whole, length-append (map (column_named columns) r.keys) (folded_column columns r ∷ []), length-map r.keys (column_named columns), length-map r.keys (place_of columns))

read_one : (columns : List Column) (w : What) (rest : List TOp) → IsSchema columns → IsSound columns w → CanBeRead rest → TestWithin (length (columns_after columns w)) rest → CanBeRead (typed_op columns w ∷ rest)
read_one columns (what.Filter conds) rest h s can test = can
read_one columns (what.Map cols) rest h s can test = can
read_one columns what.Distinct rest h s can test = can
read_one columns (what.Reduce r) rest h s can test = (
  omega (arith, fewer_keys columns r s, h.few, length-map r.keys (place_of columns)),
  subst (λ n. TestWithin n rest) (reduced_count columns r h s) test,
)

read_along : (columns : List Column) (os : List Op) → IsSchema columns → AreSound columns os → CanBeRead (typed_ops columns os)
read_along columns [] h s = tt
read_along columns (op ∷ os) h s =
    let next = columns_after columns op.what in
    let schema = schema_after columns op.what h s.0 in
    read_one columns op.what (typed_ops next os) h s.0 (read_along next os schema s.1) (test_along next os schema s.1)

test_front : (count cut : ℕ) (os : List TOp) → TestWithin count os → TestWithin count (take cut os)
test_front count zero os h = tt
test_front count (suc n) [] h = tt
test_front count (suc n) (ops.Filter conds ∷ os) h = (h.0, test_front count n os h.1)
test_front count (suc n) (ops.Map exprs ∷ os) h = tt
test_front count (suc n) (ops.Distinct ∷ os) h = tt
test_front count (suc n) (ops.Reduce r ∷ os) h = tt

pub read_front : (cut : ℕ) (os : List TOp) → CanBeRead os → CanBeRead (take cut os)
read_front zero os h = tt
read_front (suc n) [] h = tt
read_front (suc n) (ops.Filter conds ∷ os) h = read_front n os h
read_front (suc n) (ops.Map exprs ∷ os) h = read_front n os h
read_front (suc n) (ops.Distinct ∷ os) h = read_front n os h
read_front (suc n) (ops.Reduce r ∷ os) h = (h.0, test_front (length r.keys + 1) n os h.1)

test_prop : (count : ℕ) (os : List TOp) → IsProp (TestWithin count os)
test_prop count [] = hlevel le_prop
test_prop count (ops.Filter conds ∷ os) = hlevel (le_prop, test_prop count os)
test_prop count (ops.Map exprs ∷ os) = hlevel le_prop
test_prop count (ops.Distinct ∷ os) = hlevel le_prop
test_prop count (ops.Reduce r ∷ os) = hlevel le_prop

read_prop : (os : List TOp) → IsProp (CanBeRead os)
read_prop [] = hlevel le_prop
read_prop (ops.Filter conds ∷ os) = read_prop os
read_prop (ops.Map exprs ∷ os) = read_prop os
read_prop (ops.Distinct ∷ os) = read_prop os
read_prop (ops.Reduce r ∷ os) = hlevel (le_prop, test_prop (length r.keys + 1) os)

pub branch_read : (window : ℕ) (queries : List TypedQuery) (q b : ℕ) → ∥ IsTyped window queries ∥₁ → q < length queries → b < length (query_at queries q).branches → CanBeRead (branch_at queries q b).ops
branch_read window queries q b t lt within =
    ∥∥₁_elim t (read_prop (branch_at queries q b).ops) (λ t.
    let s = branch_source_of window queries q b t lt within in
    subst (λ (x : TypedBranch). CanBeRead x.ops) (sym s.is)
    (read_along (packet_columns s.ops) s.ops (packet_schema s.ops (few_packet_fields s.refine s.ops s.no_fault)) (sound_branch s.refine s.ops s.each s.no_fault)))
