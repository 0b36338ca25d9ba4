-- What a level sees of a window.
use Rattle.std.proofs.Common.{◌≡◌, ℕ, zero, suc, ◌-◌, List, [], filter, Option, Some, None, slice_index, ap, sym, ◌∙◌, refl, arith}
use Rattle.std.specs.Option.{option_map}
use Rattle.sn_base.specs.Sorted.{sorted_rows}
use Rattle.sn_ops.specs.Plain.{query_rows}
use Rattle.sn_ops.specs.declared.packets.Kept.{Kept}
use Rattle.sn_types.specs.declared.typed_query.TypedQuery.{TypedQuery}
use Rattle.sn_refine.specs.Refined.{Windows, answered, before, level_rows, refined_rows}
use Rattle.sn_refine.specs.Steps.{Sees, Set, is_held, rows_at}
use Rattle.sn_refine.proofs.Held.{held_answered, query_held}

-- a level after the first, in a window that holds a record
pub next_sees : (query : TypedQuery) (windows : Windows) (path : List ℕ) (j w : ℕ) (tuples : List (List ℕ)) → windows w ≡ Some tuples
    → refined_rows query windows path (suc j) w ≡ level_rows query (slice_index path (suc j)) (Some (answered query (slice_index path j) (before (refined_rows query windows path j) w) tuples))
next_sees query windows path j w tuples is =
    ap (λ (o : Option (List (List ℕ))). level_rows query (slice_index path (suc j)) (option_map (answered query (slice_index path j) (before (refined_rows query windows path j) w)) o)) is

-- a window that holds no record has no answers
pub no_rows : (query : TypedQuery) (windows : Windows) (path : List ℕ) (j w : ℕ) → windows w ≡ None → refined_rows query windows path j w ≡ []
no_rows query windows path zero w none = ap (level_rows query (slice_index path 0)) none
no_rows query windows path (suc j) w none =
    ap (λ (o : Option (List (List ℕ))). level_rows query (slice_index path (suc j)) (option_map (answered query (slice_index path j) (before (refined_rows query windows path j) w)) o)) none

-- the query on the tuples that a level sees is the refined answer
pub sees_refined : (query : TypedQuery) (windows : Windows) (path : List ℕ) (j w : ℕ) (kept : Option Kept) (tuples : List (List ℕ)) → windows w ≡ Some tuples → Sees query windows path j w kept
    → sorted_rows (query_rows query (slice_index path j) kept tuples) ≡ refined_rows query windows path j w
sees_refined query windows path zero w None tuples is sees = sym (ap (level_rows query (slice_index path 0)) is)
sees_refined query windows path zero w (Some kept) tuples is sees = absurd sees
sees_refined query windows path (suc j) w None tuples is sees = absurd sees
sees_refined query windows path (suc j) w (Some kept) tuples is sees =
    let level = slice_index path (suc j) in
    let rows = before (refined_rows query windows path j) w in
    ap sorted_rows (query_held query level kept tuples)
    ∙ ap (λ bits. level_rows query level (Some (filter (is_held query.field bits kept.members.now) tuples))) sees.0
    ∙ ap (λ ts. level_rows query level (Some ts)) (held_answered query (slice_index path j) rows kept.members.now tuples sees.1)
    ∙ sym (next_sees query windows path j w tuples is)

-- the answers after the first place
pub next_place : (query : TypedQuery) (path : List ℕ) (kept : ℕ → Set) (tuples : List (List ℕ)) (place : ℕ) → (place ≡ 0 → ⊥)
    → level_rows query (slice_index path place) (Some (filter (is_held query.field (slice_index path (place - 1)) (kept (place - 1))) tuples)) ≡ rows_at query path kept tuples place
next_place query path kept tuples zero some = absurd (some refl)
next_place query path kept tuples (suc j) some =
    ap (λ (i : ℕ). level_rows query (slice_index path (suc j)) (Some (filter (is_held query.field (slice_index path i) (kept i)) tuples))) back
  where
    back : suc j - 1 ≡ j
    back = omega arith
