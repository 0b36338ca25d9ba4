-- The refined answers are those of the unrefined ones whose prefixes are let in.
use Rattle.std.proofs.Common.{◌≡◌, ℕ, suc, ◌<◌, List, filter, length, Bool, slice_index, None, Some, ap, ◌∙◌, arith}
use Rattle.std.specs.FinSet as set
use Rattle.std.proofs.Math.Logic.{∥∥₁_elim}
use Rattle.std.proofs.Props.{props}
use Rattle.sn_base.specs.Groups.{Row}
use Rattle.sn_base.specs.Sorted.{sorted_rows}
use Rattle.sn_fields.specs.declared.field.Field.{Field}
use Rattle.sn_ops.specs.Plain.{query_rows}
use Rattle.sn_refine.specs.Refined.{level_rows}
use Rattle.sn_refine.specs.Steps.{Set, is_held, rows_at}
use Rattle.sn_types.specs.Typed.{IsTyped, finest_level, query_at}
use Rattle.sn_types.specs.declared.typed_query.TypedQuery.{TypedQuery}
use Rattle.sn_refine_laws.specs.Reported.{EndsFinest}
use Rattle.sn_refine_laws.proofs.Prefixes.{queries_filtered}
use Rattle.sn_refine_laws.proofs.Sorting.{sorted_filter}
use Rattle.sn_detect.specs.Keeping.{is_admitted}

pub no_false : (window q : ℕ) (queries : List TypedQuery) → ∥ IsTyped window queries ∥₁ → q < length queries → (path : List ℕ) → EndsFinest (query_at queries q) path → (kept : ℕ → Set) (tuples : List (List ℕ)) (last : ℕ) (field : Field)
    → length path ≡ suc (suc last) → (query_at queries q).field ≡ Some field
    → (let query : TypedQuery = query_at queries q in rows_at query path kept tuples (suc last) ≡ filter (is_admitted query field (slice_index path last) (kept last)) (level_rows query (finest_level query) (Some tuples)))
no_false window q queries typed lt path ends kept tuples last field long is_field =
    let query : TypedQuery = query_at queries q in
    let level = slice_index path (suc last) in
    let bits = slice_index path last in
    let held = kept last in
    let keep : ℕ → Bool = λ n. set.contains held n in
    let test : Row → Bool = is_admitted query field bits held in
    let finest : level ≡ finest_level query = ends.finest (suc last) long in
    ∥∥₁_elim typed (hlevel props) (λ (t : IsTyped window queries).
    ap (λ o. level_rows query level (Some (filter (is_held o bits held) tuples))) is_field
    ∙ ap sorted_rows (queries_filtered window q level bits queries field keep tuples t lt is_field (ends.known (suc last) (omega (arith, long))) (ends.rising last (omega (arith, long))))
    ∙ sorted_filter test (query_rows query level None tuples)
    ∙ ap (λ l. filter test (level_rows query l (Some tuples))) finest)
