-- Rows that are held once for all lists of sizes.
use Rattle.std.proofs.Common.{◌≡◌, ℕ, zero, suc, ◌+◌, ◌≤◌, List, [], ◌∷◌, ◌++◌, map, filter, length, replicate, nat_eq, nat_lt, Bool, true, false, ◌&&◌, ◌||◌, cond, All, refl, ap, sym, subst, ◌∙◌, arith, zero-add}
use Rattle.std.specs.List.{AllByRecursion, flat_map, list_all}
use Rattle.std.proofs.lemmas.List.{map-append}
use Rattle.std.proofs.lemmas.List.Elements.{All-from_recursion, recursion_from_All}
use Rattle.sn_base.specs.Groups.{Row, once, same_row}
use Rattle.sn_base.specs.Operators.{Grouping, apply, key_of}
use Rattle.sn_base.specs.Operators.Op.{Distinct, Filter, Map, Reduce}
use Rattle.sn_base.proofs.Lists.{all_map, all_of, all_unmap, by_test, filter_short, map_agree, map_both}
use Rattle.sn_cost_seats.specs.Tallies.{marked, sum_unmarked, tallied}
use Rattle.sn_cost_tally.specs.declared.room.Homes.{Homes}
use Rattle.sn_cost_tally.specs.Places.{homes_among}
use Rattle.sn_ops.specs.Flow.{grouping_of}
use Rattle.sn_types.specs.declared.typed_op.TOp.{TOp}
use Rattle.sn_types.specs.declared.typed_op.TOp.TheVariants as ops
use Rattle.sn_types.specs.declared.typed_op.TReduce.{TReduce}
use Rattle.sn_types.specs.Cuts.{is_stateful}
use Rattle.sn_types.specs.Values.{op_at}
use Rattle.sn_windows.specs.Blocks.{most_records}
use Rattle.sn_cost_counts.specs.AnyFlow.{Flow}
use Rattle.sn_cost_counts.specs.Flows.{counted, over_distinct, over_reduce, starting, stepped}
use Rattle.sn_cost_counts.specs.Shared.{following, homes_at, over_and_marks, staying}
use Rattle.sn_cost_counts.proofs.Settling.{distinct_flow, distinct_over, distinct_rows, few_over, marked_map, reduce_flow, reduce_over, reduce_rows}

-- ---- registers of each size

pub few_each : (depth : ℕ) (slots : List ℕ) (rows keys : List Row) (times : List ℕ) → length rows ≤ most_records → keys ≡ once same_row rows → times ≡ tallied rows
    → All (λ size. sum_unmarked (homes_among depth size keys) times ≤ most_records) slots
few_each depth slots rows keys times few are counted =
    let fits : ℕ → Type 0 = λ size. sum_unmarked (homes_among depth size keys) times ≤ most_records in
    All-from_recursion fits slots (all_of fits (λ size. few_over depth size most_records rows keys times few are counted) slots)

-- what is over_and_marks of homes decides what stays
pub from_reported : (distinct : Bool) (rows : List Row) (homes : List Homes) (facts : List (ℕ × List Bool)) → map over_and_marks homes ≡ facts → map (λ (h : Homes). staying distinct rows (over_and_marks h)) homes ≡ map (staying distinct rows) facts
from_reported distinct rows homes facts are = sym (map_both over_and_marks (staying distinct rows) homes) ∙ ap (map (staying distinct rows)) are

module _ (depth : ℕ) (rows keys : List Row) (times : List ℕ) (are : keys ≡ once same_row rows) (counted : times ≡ tallied rows) where
  distinct_stays : (size : ℕ) → staying true keys (homes_at depth keys times size) ≡ stepped depth size Distinct (starting rows)
  distinct_stays size =
      let over : ℕ = sum_unmarked (homes_among depth size keys) times in
      let out : List Row = marked (homes_among depth size keys) keys in
      ap (λ n. staying_of n out (nat_lt 0 over)) (sym (zero-add over))
      ∙ distinct_flow depth size (starting rows) over out (nat_lt 0 over) (distinct_over depth size over rows keys times are counted refl) (distinct_rows depth size rows keys out are refl) refl
    where
      staying_of : ℕ → List Row → Bool → Flow
      staying_of sent xs spilled = record { sent = sent; rows = xs; spilled = spilled; whole = false }

  pub distinct_shared : (slots : List ℕ) (homes : List Homes) → map over_and_marks homes ≡ map (homes_at depth keys times) slots
      → map (λ (h : Homes). staying true keys (over_and_marks h)) homes ≡ map (λ size. stepped depth size Distinct (starting rows)) slots
  distinct_shared slots homes is =
      from_reported true keys homes (map (homes_at depth keys times) slots) is ∙ map_both (homes_at depth keys times) (staying true keys) slots
      ∙ map_agree (λ size. staying true keys (homes_at depth keys times size)) (λ size. stepped depth size Distinct (starting rows)) distinct_stays slots

module _ (depth : ℕ) (g : Grouping) (rows keys : List Row) (times : List ℕ) (groups : List Row) (are : keys ≡ once same_row (map (key_of g) rows)) (counted : times ≡ tallied (map (key_of g) rows)) (made : groups ≡ apply (Reduce g) rows) where
  reduce_stays : (size : ℕ) → staying false groups (homes_at depth keys times size) ≡ stepped depth size (Reduce g) (starting rows)
  reduce_stays size =
      let over : ℕ = sum_unmarked (homes_among depth size keys) times in
      let out : List Row = marked (homes_among depth size keys) groups in
      ap (λ n. staying_of n out) (sym (zero-add over))
      ∙ reduce_flow depth size g (starting rows) over out (reduce_over depth size g rows over keys times are counted refl) (reduce_rows depth size g rows keys groups out are made refl)
    where
      staying_of : ℕ → List Row → Flow
      staying_of sent xs = record { sent = sent; rows = xs; spilled = false; whole = false }

  pub reduce_shared : (slots : List ℕ) (homes : List Homes) → map over_and_marks homes ≡ map (homes_at depth keys times) slots
      → map (λ (h : Homes). staying false groups (over_and_marks h)) homes ≡ map (λ size. stepped depth size (Reduce g) (starting rows)) slots
  reduce_shared slots homes is =
      from_reported false groups homes (map (homes_at depth keys times) slots) is ∙ map_both (homes_at depth keys times) (staying false groups) slots
      ∙ map_agree (λ size. staying false groups (homes_at depth keys times size)) (λ size. stepped depth size (Reduce g) (starting rows)) reduce_stays slots

-- ---- following what was sent before

-- no more overflow than there are
over_few : (depth size : ℕ) (op : TOp) (rows : List Row) → is_stateful op ≡ true → (stepped depth size (op_at 0 op) (starting rows)).sent ≤ length rows
over_few depth size (ops.Filter conds) rows is = absurd cc
over_few depth size (ops.Map exprs) rows is = absurd cc
over_few depth size ops.Distinct rows is = let fewer : length (over_distinct depth size rows) ≤ length rows = filter_short _ rows in omega (arith, fewer)
over_few depth size (ops.Reduce r) rows is = let fewer : length (over_reduce depth size (grouping_of r) rows) ≤ length rows = filter_short _ rows in omega (arith, fewer)

pub each_few : (depth : ℕ) (slots : List ℕ) (op : TOp) (rows all : List Row) (distinct : Bool) (homes : List Homes) → is_stateful op ≡ true → length rows ≤ most_records
    → map (λ (h : Homes). staying distinct all (over_and_marks h)) homes ≡ map (λ size. stepped depth size (op_at 0 op) (starting rows)) slots → All (λ (h : Homes). h.over ≤ most_records) homes
each_few depth slots op rows all distinct homes is few are =
    let fits : Flow → Type 0 = λ f. f.sent ≤ most_records in
    let each : AllByRecursion fits (map (λ size. stepped depth size (op_at 0 op) (starting rows)) slots) =
    all_map fits (λ size. stepped depth size (op_at 0 op) (starting rows)) slots
    (all_of (λ size. fits (stepped depth size (op_at 0 op) (starting rows))) (λ size. let fewer = over_few depth size op rows is in omega (arith, fewer, few)) slots) in
    All-from_recursion (λ (h : Homes). h.over ≤ most_records) homes (all_unmap fits (λ (h : Homes). staying distinct all (over_and_marks h)) homes (subst (AllByRecursion fits) (sym are) each))

step_following : (depth size : ℕ) (r : TReduce) (f : Flow) → following f (stepped depth size (op_at 0 (ops.Reduce r)) (starting f.rows)) ≡ stepped depth size (op_at 0 (ops.Reduce r)) f
step_following depth size r f =
    let n : ℕ = length (over_reduce depth size (grouping_of r) f.rows) in
    ap (λ k. record (following f (stepped depth size (Reduce (grouping_of r)) (starting f.rows))) { sent = f.sent + k }) (zero-add n)
    ∙ ap (λ b. record (stepped depth size (Reduce (grouping_of r)) f) { spilled = b }) (elim f.spilled as (λ b. (b || false) ≡ b) [ true ↦ refl | false ↦ refl ])

pub steps_following : (depth : ℕ) (slots : List ℕ) (r : TReduce) (f : Flow) (flows : List Flow) → flows ≡ map (λ size. stepped depth size (op_at 0 (ops.Reduce r)) (starting f.rows)) slots
    → map (following f) flows ≡ map (λ size. stepped depth size (op_at 0 (ops.Reduce r)) f) slots
steps_following depth slots r f flows are =
    ap (map (following f)) are
    ∙ map_both (λ size. stepped depth size (op_at 0 (ops.Reduce r)) (starting f.rows)) (following f) slots
    ∙ map_agree (λ size. following f (stepped depth size (op_at 0 (ops.Reduce r)) (starting f.rows))) (λ size. stepped depth size (op_at 0 (ops.Reduce r)) f) (λ size. step_following depth size r f) slots

-- ---- filters and maps

filter_marked : (t : Row → Bool) (marks : List Bool) (rows : List Row) → marked (marked (map t rows) marks) (filter t rows) ≡ filter t (marked marks rows)
filter_marked t [] [] = refl
filter_marked t [] (row ∷ rows) = refl
filter_marked t (m ∷ ms) [] = refl
filter_marked t (m ∷ ms) (row ∷ rows) =
    let ins : List Bool = marked (map t rows) ms in
    let outs : List Row = filter t rows in
    let rest : List Row = marked ms rows in
    by_test (t row)
    (λ is.
    ap (λ b. marked (cond b (m ∷ ins) ins) (cond b (row ∷ outs) outs)) is
    ∙ ap (λ xs. cond m (row ∷ xs) xs) (filter_marked t ms rows)
    ∙ ap (λ b. cond m (cond b (row ∷ filter t rest) (filter t rest)) (filter t rest)) (sym is)
    ∙ elim m as (λ b. cond b (cond (t row) (row ∷ filter t rest) (filter t rest)) (filter t rest) ≡ filter t (cond b (row ∷ rest) rest)) [ true ↦ refl | false ↦ refl ])
    (λ isnt.
    ap (λ b. marked (cond b (m ∷ ins) ins) (cond b (row ∷ outs) outs)) isnt
    ∙ filter_marked t ms rows
    ∙ elim m as (λ b. filter t rest ≡ cond b (filter t rest) (filter t rest)) [ true ↦ refl | false ↦ refl ]
    ∙ ap (λ b. cond m (cond b (row ∷ filter t rest) (filter t rest)) (filter t rest)) (sym isnt)
    ∙ elim m as (λ b. cond b (cond (t row) (row ∷ filter t rest) (filter t rest)) (filter t rest) ≡ filter t (cond b (row ∷ rest) rest)) [ true ↦ refl | false ↦ refl ])

filter_stays : (distinct : Bool) (t : Row → Bool) (rows : List Row) (h : ℕ × List Bool) → staying distinct (filter t rows) (h.0, marked (map t rows) h.1) ≡ stepped 0 0 (Filter t) (staying distinct rows h)
filter_stays distinct t rows h = ap (λ (xs : List Row). record (staying distinct rows h) { rows = xs }) (filter_marked t h.1 rows)

pub filter_shared : (distinct : Bool) (t : Row → Bool) (rows next : List Row) (homes out : List Homes) (stay : List Bool) → stay ≡ map t rows → next ≡ filter t rows
    → map over_and_marks out ≡ map (λ (h : Homes). (h.over, marked stay h.marks.items)) homes
    → map (λ (h : Homes). staying distinct next (over_and_marks h)) out ≡ map (stepped 0 0 (Filter t)) (map (λ (h : Homes). staying distinct rows (over_and_marks h)) homes)
filter_shared distinct t rows next homes out stay passing kept is =
    ap (λ (xs : List Row). map (λ (h : Homes). staying distinct xs (over_and_marks h)) out) kept
    ∙ from_reported distinct (filter t rows) out (map (λ (h : Homes). (h.over, marked stay h.marks.items)) homes) is
    ∙ ap (λ (xs : List Bool). map (staying distinct (filter t rows)) (map (λ (h : Homes). (h.over, marked xs h.marks.items)) homes)) passing
    ∙ map_both (λ (h : Homes). (h.over, marked (map t rows) h.marks.items)) (staying distinct (filter t rows)) homes
    ∙ map_agree (λ (h : Homes). staying distinct (filter t rows) (h.over, marked (map t rows) h.marks.items)) (λ (h : Homes). stepped 0 0 (Filter t) (staying distinct rows (over_and_marks h))) (λ h. filter_stays distinct t rows (over_and_marks h)) homes
    ∙ sym (map_both (λ (h : Homes). staying distinct rows (over_and_marks h)) (stepped 0 0 (Filter t)) homes)

pub map_shared : (distinct : Bool) (f : Row → Row) (rows next : List Row) (homes : List Homes) → next ≡ map f rows
    → map (λ (h : Homes). staying distinct next (over_and_marks h)) homes ≡ map (stepped 0 0 (Map f)) (map (λ (h : Homes). staying distinct rows (over_and_marks h)) homes)
map_shared distinct f rows next homes is =
    ap (λ (xs : List Row). map (λ (h : Homes). staying distinct xs (over_and_marks h)) homes) is
    ∙ map_agree (λ (h : Homes). staying distinct (map f rows) (over_and_marks h)) (λ (h : Homes). stepped 0 0 (Map f) (staying distinct rows (over_and_marks h)))
    (λ h. ap (λ (xs : List Row). record (staying distinct rows (over_and_marks h)) { rows = xs }) (marked_map f h.marks.items rows)) homes
    ∙ sym (map_both (λ (h : Homes). staying distinct rows (over_and_marks h)) (stepped 0 0 (Map f)) homes)

-- ---- counts

all_mapped : {X Y : Type 0} (P : Y → Type 0) (f : X → Y) (xs : List X) → All P (map f xs) → All (λ x. P (f x)) xs
all_mapped P f xs h = All-from_recursion (λ x. P (f x)) xs (all_unmap P f xs (recursion_from_All P (map f xs) h))

pub each_sent : (distinct : Bool) (rows : List Row) (homes : List Homes) (most : ℕ) → All (λ (f : Flow). f.sent ≤ most) (map (λ (h : Homes). staying distinct rows (over_and_marks h)) homes) → All (λ (h : Homes). h.over ≤ most) homes
each_sent distinct rows homes most h = all_mapped (λ (f : Flow). f.sent ≤ most) (λ (h : Homes). staying distinct rows (over_and_marks h)) homes h

pub each_kept : (distinct : Bool) (rows : List Row) (homes : List Homes) (most : ℕ) → All (λ (f : Flow). length f.rows ≤ most) (map (λ (h : Homes). staying distinct rows (over_and_marks h)) homes)
    → All (λ (h : Homes). length (marked h.marks.items rows) ≤ most) homes
each_kept distinct rows homes most h = all_mapped (λ (f : Flow). length f.rows ≤ most) (λ (h : Homes). staying distinct rows (over_and_marks h)) homes h

pub counted_each : (distinct : Bool) (rows : List Row) (homes : List Homes) → map (λ (h : Homes). h.over + length (marked h.marks.items rows)) homes ≡ map counted (map (λ (h : Homes). staying distinct rows (over_and_marks h)) homes)
counted_each distinct rows homes = sym (map_both (λ (h : Homes). staying distinct rows (over_and_marks h)) counted homes)

-- ---- lists of sizes before

repeated_reported : {X Y Z : Type 0} (f : X → Y) (g : Z → List Y) (xs : List X) (z : Z) (n : ℕ) → map f xs ≡ g z → map f (flat_map (λ ys. ys) (replicate n xs)) ≡ flat_map g (replicate n z)
repeated_reported f g xs z zero is = refl
repeated_reported f g xs z (suc n) is =
    map-append f xs (flat_map (λ ys. ys) (replicate n xs)) ∙ ap (λ ys. ys ++ map f (flat_map (λ ys. ys) (replicate n xs))) is ∙ ap (λ ys. g z ++ ys) (repeated_reported f g xs z n is)

pub repeated_shared : (distinct : Bool) (rows : List Row) (homes out : List Homes) (more : ℕ) (g : Flow → List Flow) (first : Flow) → map over_and_marks out ≡ flat_map (λ hs. hs) (replicate (suc more) (map over_and_marks homes))
    → map (λ (h : Homes). staying distinct rows (over_and_marks h)) homes ≡ g first → map (λ (h : Homes). staying distinct rows (over_and_marks h)) out ≡ flat_map g (replicate (suc more) first)
repeated_shared distinct rows homes out more g first are is =
    from_reported distinct rows out (flat_map (λ hs. hs) (replicate (suc more) (map over_and_marks homes))) are
    ∙ repeated_reported (staying distinct rows) g (map over_and_marks homes) first (suc more) (map_both over_and_marks (staying distinct rows) homes ∙ is)

pub none_of_all : (distinct : Bool) (rows : List Row) (homes : List Homes) → list_all (λ (f : Flow). nat_eq f.sent 0) (map (λ (h : Homes). staying distinct rows (over_and_marks h)) homes) ≡ list_all (λ (h : Homes). nat_eq h.over 0) homes
none_of_all distinct rows [] = refl
none_of_all distinct rows (h ∷ hs) = ap (λ b. nat_eq h.over 0 && b) (none_of_all distinct rows hs)
