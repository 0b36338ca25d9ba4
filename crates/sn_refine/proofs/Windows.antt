-- Windows that are given one after another get the refined answers.
use Rattle.std.proofs.Common.{◌≡◌, ℕ, zero, suc, ◌+◌, ◌-◌, ◌<◌, ◌≤◌, ◌==◌, List, [], ◌∷◌, map, length, true, false, cond, Option, Some, None, slice_get, slice_index, unwrap_or, ◌⊎◌, inl, inr, refl, ap, sym, ◌∙◌, arith, eq-eqb}
use Rattle.std.proofs.lemmas.Bool.{false≢true}
use Rattle.std.proofs.Math.Nat.{eq-or-lt_of_le}
use Rattle.std.specs.FinSet as set
use Rattle.sn_base.proofs.Lists.{by_test, not_true, nat_same}
use Rattle.sn_base.specs.Groups.{Row}
use Rattle.sn_types.specs.declared.answers.Part.{Part}
use Rattle.sn_types.specs.declared.typed_query.TypedQuery.{TypedQuery}
use Rattle.sn_refine.specs.Refined.{Windows, before, level_rows, part_at, refined_parts, refined_rows}
use Rattle.sn_refine.specs.Steps.{Set, answers_from, kept_at, kept_of, parts_in, prefixes_of, rows_at, windows_of}
use Rattle.sn_refine.proofs.Held.{held_answered}
use Rattle.sn_refine.proofs.Levels.{next_sees, no_rows}
use Rattle.sn_refine.proofs.Places.{at_place, map_below}
use Rattle.sn_windows.specs.Rising.{AreRising, IsAbove, Window}

-- ---- what windows hold

apart : (m n : ℕ) → m < n → (n == m) ≡ false
apart m n lt = not_true (n == m) (λ same. let e = nat_same n m same in absurd (omega (arith, e, lt)))

none_below : (n : ℕ) (rest : List Window) (v : ℕ) → AreRising (Some n) rest → v ≤ n → windows_of rest v ≡ None
none_below n [] v h le = refl
none_below n (given ∷ rest) v h le =
    let above : n < given.0 = h.0 in
    ap (λ b. cond b (Some given.1) (windows_of rest v)) (apart v given.0 (omega (arith, le, above)))
    ∙ none_below given.0 rest v h.1 (omega (arith, le, above))

pub here : (given : Window) (rest : List Window) → windows_of (given ∷ rest) given.0 ≡ Some given.1
here given rest = ap (λ b. cond b (Some given.1) (windows_of rest given.0)) (same given.0)
  where
    same : (n : ℕ) → (n == n) ≡ true
    same n = eq-eqb n n refl

pub earlier : (given : Window) (rest : List Window) (v : ℕ) → AreRising (Some given.0) rest → v < given.0 → windows_of (given ∷ rest) v ≡ None
earlier given rest v h lt =
    ap (λ b. cond b (Some given.1) (windows_of rest v)) (apart v given.0 lt) ∙ none_below given.0 rest v h (omega (arith, lt))

pub later : (given : Window) (rest : List Window) (v : ℕ) → given.0 < v → windows_of (given ∷ rest) v ≡ windows_of rest v
later given rest v lt = ap (λ b. cond b (Some given.1) (windows_of rest v)) (not_true (given.0 == v) (λ same. let e = nat_same given.0 v same in absurd (omega (arith, e, lt))))

-- ---- what is kept of the windows so far

-- of the last window the prefixes of its refined answers are kept, level by level
abbrev pub Remembers : TypedQuery → Windows → List ℕ → Option ℕ → List Set → Type 0
Remembers query windows path None kept = Unit {0}
Remembers query windows path (Some last) kept = (j : ℕ) → suc j < length path → unwrap_or (slice_get kept j) set.empty ≡ prefixes_of query (refined_rows query windows path j last)

-- no window was left out that holds a record
abbrev pub NoneBetween : Windows → Option ℕ → ℕ → Type 0
NoneBetween windows last w = (v : ℕ) → IsAbove last v → v < w → windows v ≡ None

pub no_prefixes : (query : TypedQuery) (rows : List Row) → rows ≡ [] → set.empty ≡ prefixes_of query rows
no_prefixes query rows none = sym (ap (prefixes_of query) none)

-- the prefixes that a level sees are those of the window before
pub seen_from : (query : TypedQuery) (windows : Windows) (path : List ℕ) (last : Option ℕ) (kept : List Set) (w j : ℕ) → suc j < length path → IsAbove last w → NoneBetween windows last w
    → Remembers query windows path last kept → kept_at last kept w j ≡ prefixes_of query (before (refined_rows query windows path j) w)
seen_from query windows path None kept zero j within above between remembers = no_prefixes query [] refl
seen_from query windows path None kept (suc v) j within above between remembers =
    no_prefixes query (refined_rows query windows path j v) (no_rows query windows path j v (between v tt (omega arith)))
seen_from query windows path (Some last) kept zero j within above between remembers = absurd (omega (arith, above))
seen_from query windows path (Some last) kept (suc v) j within above between remembers =
    by_test (last + 1 == suc v)
    (λ is. let e = nat_same (last + 1) (suc v) is in
    ap (λ b. cond b (unwrap_or (slice_get kept j) set.empty) set.empty) is ∙ remembers j within
    ∙ ap (λ n. prefixes_of query (refined_rows query windows path j n)) (back e))
    (λ isnt. ap (λ b. cond b (unwrap_or (slice_get kept j) set.empty) set.empty) isnt
    ∙ no_prefixes query (refined_rows query windows path j v) (no_rows query windows path j v (between v (following isnt) (omega arith))))
  where
    back : last + 1 ≡ suc v → last ≡ v
    back e = omega (arith, e)

    not_same : (last + 1 == suc v) ≡ false → last ≡ v → ⊥
    not_same isnt e = false≢true (sym isnt ∙ eq-eqb (last + 1) (suc v) (omega (arith, e)))

    by_order : (last ≡ v) ⊎ (last < v) → (last + 1 == suc v) ≡ false → last < v
    by_order (inl e) isnt = absurd (not_same isnt e)
    by_order (inr lt) isnt = lt

    order : last ≤ v → (last ≡ v) ⊎ (last < v)
    order le = eq-or-lt_of_le le

    following : (last + 1 == suc v) ≡ false → last < v
    following isnt = by_order (order (omega (arith, above))) isnt

-- ---- one window

pub row_refined : (query : TypedQuery) (windows : Windows) (path : List ℕ) (last : Option ℕ) (kept : List Set) (w : ℕ) (tuples : List (List ℕ)) (j : ℕ) → j < length path → windows w ≡ Some tuples
    → IsAbove last w → NoneBetween windows last w → Remembers query windows path last kept → rows_at query path (kept_at last kept w) tuples j ≡ refined_rows query windows path j w
row_refined query windows path last kept w tuples zero within is above between remembers = sym (ap (level_rows query (slice_index path 0)) is)
row_refined query windows path last kept w tuples (suc j) within is above between remembers =
    ap (λ ts. level_rows query (slice_index path (suc j)) (Some ts))
    (held_answered query (slice_index path j) (before (refined_rows query windows path j) w) (kept_at last kept w j) tuples (seen_from query windows path last kept w j within above between remembers))
    ∙ sym (next_sees query windows path j w tuples is)

pub parts_refined : (q : ℕ) (query : TypedQuery) (windows : Windows) (path : List ℕ) (last : Option ℕ) (kept : List Set) (w : ℕ) (tuples : List (List ℕ)) → windows w ≡ Some tuples
    → IsAbove last w → NoneBetween windows last w → Remembers query windows path last kept → parts_in q query path (kept_at last kept w) tuples ≡ refined_parts q query windows path w
parts_refined q query windows path last kept w tuples is above between remembers =
    map_below (part_at q path (rows_at query path (kept_at last kept w) tuples)) (part_at q path (λ j. refined_rows query windows path j w)) 0 (length path)
    (λ j below. ap (one j) (row_refined query windows path last kept w tuples j (omega (arith, below)) is above between remembers))
  where
    one : ℕ → List Row → Part
    one j rows = record { query = q; level = slice_index path j; rows = rows }

pub remembered : (q : ℕ) (query : TypedQuery) (windows : Windows) (path : List ℕ) (w : ℕ) → Remembers query windows path (Some w) (kept_of query path (refined_parts q query windows path w))
remembered q query windows path w = λ j within.
    at_place (λ (part : Part). prefixes_of query part.rows) (part_at q path (λ i. refined_rows query windows path i w)) (length path) (length path - 1) j set.empty (omega (arith, within)) (omega arith)

-- ---- all windows

pub above_last : (last : Option ℕ) (w v : ℕ) → IsAbove last w → w < v → IsAbove last v
above_last None w v above lt = tt
above_last (Some last) w v above lt = omega (arith, above, lt)

from : (q : ℕ) (query : TypedQuery) (windows : Windows) (path : List ℕ) (last : Option ℕ) (kept : List Set) (given : List Window) → AreRising last given → ((v : ℕ) → IsAbove last v → windows v ≡ windows_of given v)
    → Remembers query windows path last kept → answers_from q query path last kept given ≡ map (λ g. refined_parts q query windows path g.0) given
from q query windows path last kept [] rises agrees remembers = refl
from q query windows path last kept (g ∷ rest) rises agrees remembers =
    ap (λ parts. parts ∷ answers_from q query path (Some g.0) (kept_of query path parts) rest)
    (parts_refined q query windows path last kept g.0 g.1 (agrees g.0 rises.0 ∙ here g rest) rises.0 (λ v above lt. agrees v above ∙ earlier g rest v rises.1 lt) remembers)
    ∙ ap (λ others. refined_parts q query windows path g.0 ∷ others)
    (from q query windows path (Some g.0) (kept_of query path (refined_parts q query windows path g.0)) rest rises.1
    (λ v lt. agrees v (above_last last g.0 v rises.0 lt) ∙ later g rest v lt) (remembered q query windows path g.0))

pub all_refined : (q : ℕ) (query : TypedQuery) (path : List ℕ) (given : List Window) → AreRising None given → answers_from q query path None [] given ≡ map (λ g. refined_parts q query (windows_of given) path g.0) given
all_refined q query path given rises = from q query (windows_of given) path None [] given rises (λ v above. refl) tt
