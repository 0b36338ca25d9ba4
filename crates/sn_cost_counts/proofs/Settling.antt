-- What registers make of distinct keys is what they make of all rows.
use Rattle.std.proofs.Common.{◌≡◌, ℕ, ◌+◌, ◌≤◌, ◌||◌, nat_lt, List, [], ◌∷◌, map, filter, length, Bool, true, false, not, cond, refl, ap, sym, subst, ◌∙◌, arith}
use Rattle.std.proofs.lemmas.List.{length-map}
use Rattle.sn_base.specs.Groups.{Apart, Row, once, same_row}
use Rattle.sn_base.specs.Operators.{Grouping, apply, key_of, pair_of, row_for}
use Rattle.sn_base.specs.Operators.Op.{Distinct, Reduce}
use Rattle.sn_base.proofs.Lists.{filter_short, map_both}
use Rattle.sn_base.proofs.OnceLemmas.{once_apart}
use Rattle.sn_chain.specs.Chain.{has_home}
use Rattle.sn_cost_seats.specs.Tallies.{marked, sum_unmarked, tallied, times_in}
use Rattle.sn_cost_seats.proofs.Holding.{over_counted}
use Rattle.sn_cost_seats.proofs.Tallying.{flow_kept, marked_filter, overflow_counted, same_homes}
use Rattle.sn_cost_tally.specs.Places.{homes_among}
use Rattle.sn_cost_counts.specs.Flows.{first_rows, held_rows, over_distinct, over_reduce, stepped}
use Rattle.sn_cost_counts.specs.AnyFlow.{Flow}

abbrev flow_of : ℕ → List Row → Bool → Bool → Flow
flow_of sent rows spilled whole = record { sent = sent; rows = rows; spilled = spilled; whole = whole }

-- ---- keys with their times

pub apart_keys : (rows keys : List Row) → keys ≡ once same_row rows → Apart same_row keys
apart_keys rows keys are = subst (Apart same_row) (sym are) (once_apart same_row rows)

pub times_long : (rows keys : List Row) (times : List ℕ) → keys ≡ once same_row rows → times ≡ tallied rows → length times ≡ length keys
times_long rows keys times are counted = ap length counted ∙ length-map (once same_row rows) (times_in rows) ∙ ap length (sym are)

summed : (depth slots : ℕ) (rows keys : List Row) (times : List ℕ) → keys ≡ once same_row rows → times ≡ tallied rows → sum_unmarked (homes_among depth slots keys) times ≡ length (over_distinct depth slots rows)
summed depth slots rows keys times are counted =
    ap (λ ks. sum_unmarked (homes_among depth slots ks) times) are ∙ ap (sum_unmarked (homes_among depth slots (once same_row rows))) counted ∙ overflow_counted depth slots rows

-- fewer overflow than there are
pub few_over : (depth slots most : ℕ) (rows keys : List Row) (times : List ℕ) → length rows ≤ most → keys ≡ once same_row rows → times ≡ tallied rows → sum_unmarked (homes_among depth slots keys) times ≤ most
few_over depth slots most rows keys times few are counted =
    let fewer : length (over_distinct depth slots rows) ≤ length rows = filter_short (λ row. not (has_home depth slots rows row)) rows in
    omega (arith, summed depth slots rows keys times are counted, fewer, few)

-- ---- a distinct

pub distinct_over : (depth slots over : ℕ) (rows keys : List Row) (times : List ℕ) → keys ≡ once same_row rows → times ≡ tallied rows → over ≡ sum_unmarked (homes_among depth slots keys) times → over ≡ length (over_distinct depth slots rows)
distinct_over depth slots over rows keys times are counted is = is ∙ summed depth slots rows keys times are counted

pub distinct_rows : (depth slots : ℕ) (rows keys out : List Row) → keys ≡ once same_row rows → out ≡ marked (homes_among depth slots keys) keys → out ≡ first_rows depth slots rows
distinct_rows depth slots rows keys out are is = is ∙ ap (λ ks. marked (homes_among depth slots ks) ks) are ∙ flow_kept depth slots rows

-- ---- a reduce

pub marked_map : (f : Row → Row) (marks : List Bool) (xs : List Row) → marked marks (map f xs) ≡ map f (marked marks xs)
marked_map f [] xs = refl
marked_map f (m ∷ ms) [] = refl
marked_map f (m ∷ ms) (x ∷ xs) =
    ap (λ ys. cond m (f x ∷ ys) ys) (marked_map f ms xs) ∙ elim m as (λ b. cond b (f x ∷ map f (marked ms xs)) (map f (marked ms xs)) ≡ map f (cond b (x ∷ marked ms xs) (marked ms xs))) [ true ↦ refl | false ↦ refl ]

module _ (depth slots : ℕ) (g : Grouping) (rows : List Row) where
  abbrev all : List Row
  all = map (key_of g) rows

  pub reduce_over : (over : ℕ) (keys : List Row) (times : List ℕ) → keys ≡ once same_row all → times ≡ tallied all → over ≡ sum_unmarked (homes_among depth slots keys) times → over ≡ length (over_reduce depth slots g rows)
  reduce_over over keys times are counted is =
      is ∙ ap (λ ks. sum_unmarked (homes_among depth slots ks) times) are ∙ ap (sum_unmarked (homes_among depth slots (once same_row all))) counted ∙ over_counted depth slots g rows

  -- the rows of all keys
  pub grouped_is : apply (Reduce g) rows ≡ map (row_for g (map (pair_of g) rows)) (once same_row all)
  grouped_is = ap (λ ks. map (row_for g (map (pair_of g) rows)) (once same_row ks)) (map_both (pair_of g) (λ (p : Row × ℕ). p.0) rows)

  pub reduce_rows : (keys groups out : List Row) → keys ≡ once same_row all → groups ≡ apply (Reduce g) rows → out ≡ marked (homes_among depth slots keys) groups → out ≡ held_rows depth slots g rows
  reduce_rows keys groups out are made is =
      let f : Row → Row = row_for g (map (pair_of g) rows) in
      let distinct : List Row = once same_row all in
      is ∙ ap (λ ks. marked (homes_among depth slots ks) groups) are ∙ ap (marked (homes_among depth slots distinct)) (made ∙ grouped_is)
      ∙ marked_map f (homes_among depth slots distinct) distinct
      ∙ ap (map f) (marked_filter (has_home depth slots distinct) distinct ∙ ap (λ (t : Row → Bool). filter t distinct) (same_homes depth slots all))

-- ---- flows

pub distinct_flow : (depth slots : ℕ) (f : Flow) (over : ℕ) (out : List Row) (spilled : Bool) → over ≡ length (over_distinct depth slots f.rows) → out ≡ first_rows depth slots f.rows → spilled ≡ (f.spilled || nat_lt 0 over)
    → flow_of (f.sent + over) out spilled f.whole ≡ stepped depth slots Distinct f
distinct_flow depth slots f over out spilled is rows spills =
    ap (λ (b : Bool). flow_of (f.sent + over) out b f.whole) spills
    ∙ ap (λ (n : ℕ). flow_of (f.sent + n) out (f.spilled || nat_lt 0 n) f.whole) is
    ∙ ap (λ (rs : List Row). flow_of (f.sent + length (over_distinct depth slots f.rows)) rs (f.spilled || nat_lt 0 (length (over_distinct depth slots f.rows))) f.whole) rows

pub reduce_flow : (depth slots : ℕ) (g : Grouping) (f : Flow) (over : ℕ) (out : List Row) → over ≡ length (over_reduce depth slots g f.rows) → out ≡ held_rows depth slots g f.rows → flow_of (f.sent + over) out f.spilled f.spilled ≡ stepped depth slots (Reduce g) f
reduce_flow depth slots g f over out is rows =
    ap (λ (n : ℕ). flow_of (f.sent + n) out f.spilled f.spilled) is
    ∙ ap (λ (rs : List Row). flow_of (f.sent + length (over_reduce depth slots g f.rows)) rs f.spilled f.spilled) rows
