-- The schemas of a typed branch are the columns along its operators.
use Rattle.std.proofs.Common.{◌≡◌, ℕ, ◌<◌, ◌^◌, List, [], ◌∷◌, map, length, false, Option, refl, ap, sym, ◌∙◌, subst}
use Rattle.std.proofs.Math.Logic.{∥∥₁_elim}
use Rattle.sn_base.specs.Columns.{IsOf}
use Rattle.sn_base.specs.Groups.{Row}
use Rattle.sn_base.specs.declared.column.Column.{Column}
use Rattle.sn_fields.specs.declared.field.Field.{Field}
use Rattle.sn_query_grammar.specs.declared.ast.Op.{Op}
use Rattle.sn_types_faults.specs.Columns.{columns_after, field_column, packet_columns}
use Rattle.sn_types_faults.specs.Walk.{scope_after, scope_end}
use Rattle.sn_types_faults.specs.declared.scope.Scope.{Scope}
use Rattle.sn_types.specs.declared.typed_query.TypedBranch.{TypedBranch}
use Rattle.sn_types.specs.declared.typed_query.TypedQuery.{TypedQuery}
use Rattle.sn_types.specs.Typed.{IsTyped, query_at, branch_at, schema_at, first_columns, packet_row}
use Rattle.sn_types.specs.Typing.{typed_ops, schemas_along}
use Rattle.sn_types.specs.Kinds.{AreBelow, has_wide_column, is_wide}
use Rattle.sn_types.proofs.Facts.{branch_source_of, few_packet_fields}
use Rattle.sn_types.proofs.KindLemmas.{all_short, below_prop, none_wide}
use Rattle.sn_types.proofs.RowsAfter.{of_prop}
use Rattle.sn_types.proofs.Schemas.{columns_along, packet_whole}

pub first_along : (columns : List Column) (ops : List Op) → schema_at (schemas_along columns ops) 0 ≡ columns
first_along columns [] = refl
first_along columns (op ∷ ops) = refl

pub end_along : (columns : List Column) (ops : List Op) → schema_at (schemas_along columns ops) (length (typed_ops columns ops)) ≡ columns_along columns ops
end_along columns [] = refl
end_along columns (op ∷ ops) = end_along (columns_after columns op.what) ops

pub scope_along : (scope : Scope) (ops : List Op) → (scope_end scope ops).columns ≡ columns_along scope.columns ops
scope_along scope [] = refl
scope_along scope (op ∷ ops) = scope_along (scope_after scope op.what) ops

-- the columns of a branch's fields are its first columns
fields_first : (window : ℕ) (queries : List TypedQuery) (q b : ℕ) → IsTyped window queries → q < length queries → b < length (query_at queries q).branches
    → map field_column (branch_at queries q b).fields ≡ first_columns (branch_at queries q b)
fields_first window queries q b t lt within =
    let s = branch_source_of window queries q b t lt within in
    ap (map field_column) (ap (λ (x : TypedBranch). x.fields) s.is)
    ∙ sym (packet_whole s.ops (few_packet_fields s.refine s.ops s.no_fault)) ∙ sym (first_along (packet_columns s.ops) s.ops) ∙ ap (λ (x : TypedBranch). first_columns x) (sym s.is)

-- a row of a branch's fields is one of its first columns
pub of_fields : (window : ℕ) (queries : List TypedQuery) (q b : ℕ) (fields : List Field) (row : Row) → ∥ IsTyped window queries ∥₁ → q < length queries → b < length (query_at queries q).branches
    → fields ≡ (branch_at queries q b).fields → IsOf (map field_column fields) row → IsOf (first_columns (branch_at queries q b)) row
of_fields window queries q b fields row t lt within same of =
    ∥∥₁_elim t (of_prop (first_columns (branch_at queries q b)) row) (λ t.
    subst (λ (cs : List Column). IsOf cs row) (ap (map field_column) same ∙ fields_first window queries q b t lt within) of)

-- each number of a field of a branch that isn't wide has 64 bits
pub short_fields : (window : ℕ) (queries : List TypedQuery) (q b : ℕ) → ∥ IsTyped window queries ∥₁ → q < length queries → b < length (query_at queries q).branches
    → is_wide (branch_at queries q b) ≡ false → AreBelow (2 ^ 64) (branch_at queries q b).fields
short_fields window queries q b t lt within narrow =
    let branch = branch_at queries q b in
    ∥∥₁_elim t (below_prop (2 ^ 64) branch.fields) (λ t.
    let none = ap has_wide_column (fields_first window queries q b t lt within) ∙ none_wide branch.schemas 0 narrow in
    all_short branch.fields none)

-- a packet row is that of equal parts
pub same_packet_row : (refined refined' : Option Field) (level level' : ℕ) (fields fields' : List Field) (tuple : List ℕ) → refined ≡ refined' → level ≡ level' → fields ≡ fields'
    → packet_row refined level fields tuple ≡ packet_row refined' level' fields' tuple
same_packet_row refined refined' level level' fields fields' tuple same_refined same_level same_fields =
    ap (λ (o : Option Field). packet_row o level fields tuple) same_refined
    ∙ ap (λ (l : ℕ). packet_row refined' l fields tuple) same_level
    ∙ ap (λ (fs : List Field). packet_row refined' level' fs tuple) same_fields
