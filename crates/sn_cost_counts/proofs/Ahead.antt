-- The operators before the first distinct or reduce, and those from it on.
use Rattle.std.proofs.Common.{◌≡◌, ℕ, ◌+◌, ◌≤◌, List, [], ◌∷◌, ◌++◌, map, filter, take, drop, length, Bool, cond, Some, None, refl, ap, sym, subst, ◌∙◌, arith}
use Rattle.std.specs.List.{AllByRecursion, list_all}
use Rattle.std.proofs.lemmas.List.{length-map, take-append-drop}
use Rattle.sn_base.specs.Groups.{Row}
use Rattle.sn_base.specs.Operators.{Op, through}
use Rattle.sn_base.specs.Operators.Op.{Filter, Map, Distinct, Reduce}
use Rattle.sn_base.proofs.Lists.{all_filter, all_map, all_weaker, filter_short}
use Rattle.sn_cost_seats.specs.Ways.{AreStateless}
use Rattle.sn_cost_seats.proofs.Going.{through_come}
use Rattle.sn_ops.specs.Flow.{AllFit}
use Rattle.sn_types.specs.declared.typed_op.TOp.{TOp}
use Rattle.sn_types.specs.declared.typed_op.TOp.TheVariants as ops
use Rattle.sn_types.specs.Values.{holds, op_at, value_of}
use Rattle.sn_cost_counts.specs.Coming.{ahead, coming_to}
use Rattle.sn_cost_counts.specs.Fitting.{Takes}
use Rattle.sn_cost_counts.specs.Flows.{counts_from, starting}
use Rattle.sn_cost_counts.proofs.Unsplit.{fit_rest, given, through_rest}

pub ahead_stateless : (level : ℕ) (os : List TOp) → AreStateless (map (op_at level) (take (ahead os) os))
ahead_stateless level [] = tt
ahead_stateless level (ops.Filter conds ∷ os) = ahead_stateless level os
ahead_stateless level (ops.Map exprs ∷ os) = ahead_stateless level os
ahead_stateless level (ops.Distinct ∷ os) = tt
ahead_stateless level (ops.Reduce r ∷ os) = tt

pub front_stateless : (level : ℕ) (os front : List TOp) → front ≡ take (ahead os) os → AreStateless (map (op_at level) front)
front_stateless level os front is = subst (λ (xs : List TOp). AreStateless (map (op_at level) xs)) (sym is) (ahead_stateless level os)

-- no more rows come out of filters and maps than go in
pub through_short : (os : List Op) → AreStateless os → (rows : List Row) → length (through os rows) ≤ length rows
through_short [] h rows = omega arith
through_short (Filter t ∷ os) h rows = let rest = through_short os h (filter t rows) in let less = filter_short t rows in omega (arith, rest, less)
through_short (Map f ∷ os) h rows = let rest = through_short os h (map f rows) in let same = length-map rows f in omega (arith, rest, same)
through_short (Distinct ∷ os) h rows = absurd h
through_short (Reduce g ∷ os) h rows = absurd h

-- ---- what can be evaluated from there on

takes_rest : (level : ℕ) (front rest : List TOp) (rows : List Row) → AreStateless (map (op_at level) front) → AllByRecursion (Takes level (front ++ rest)) rows → AllByRecursion (Takes level rest) (through (map (op_at level) front) rows)
takes_rest level [] rest rows s h = h
takes_rest level (ops.Filter conds ∷ os) rest rows s h =
    let t = λ (row : Row). list_all (λ c. holds level c row) conds in
    takes_rest level os rest (filter t rows) s
    (all_filter (Takes level (os ++ rest)) t rows (all_weaker (Takes level (ops.Filter conds ∷ (os ++ rest))) (Takes level (os ++ rest)) (λ row x. x.1) rows h))
takes_rest level (ops.Map exprs ∷ os) rest rows s h =
    let f = λ (row : Row). map (λ e. value_of e row) exprs in
    takes_rest level os rest (map f rows) s
    (all_map (Takes level (os ++ rest)) f rows (all_weaker (Takes level (ops.Map exprs ∷ (os ++ rest))) (λ row. Takes level (os ++ rest) (f row)) (λ row x. x.1) rows h))
takes_rest level (ops.Distinct ∷ os) rest rows s h = absurd s
takes_rest level (ops.Reduce r ∷ os) rest rows s h = absurd s

-- ---- the counts of both are those of all

counts_ahead : (depth level : ℕ) (slots : List ℕ) (front rest : List TOp) (rows : List Row) → AreStateless (map (op_at level) front)
    → coming_to level front rows ++ counts_from depth level slots rest (starting (through (map (op_at level) front) rows) ∷ []) ≡ counts_from depth level slots (front ++ rest) (starting rows ∷ [])
counts_ahead depth level slots [] rest rows s = refl
counts_ahead depth level slots (ops.Filter conds ∷ os) rest rows s =
    let t = λ (row : Row). list_all (λ c. holds level c row) conds in
    let none : length rows ≡ 0 + length rows = omega arith in
    ap (λ n. n ∷ (coming_to level os (filter t rows) ++ counts_from depth level slots rest (starting (through (map (op_at level) os) (filter t rows)) ∷ []))) none
    ∙ ap (λ ns. (0 + length rows) ∷ ns) (counts_ahead depth level slots os rest (filter t rows) s)
counts_ahead depth level slots (ops.Map exprs ∷ os) rest rows s =
    let f = λ (row : Row). map (λ e. value_of e row) exprs in
    let none : length rows ≡ 0 + length rows = omega arith in
    ap (λ n. n ∷ (coming_to level os (map f rows) ++ counts_from depth level slots rest (starting (through (map (op_at level) os) (map f rows)) ∷ []))) none
    ∙ ap (λ ns. (0 + length rows) ∷ ns) (counts_ahead depth level slots os rest (map f rows) s)
counts_ahead depth level slots (ops.Distinct ∷ os) rest rows s = absurd s
counts_ahead depth level slots (ops.Reduce r ∷ os) rest rows s = absurd s

-- ---- what is after them, of rows that come through them

module _ (level : ℕ) (os front rest : List TOp) (packets rows : List Row) (is_front : front ≡ take (ahead os) os) (is_rest : rest ≡ drop (ahead os) os) (come : rows ≡ through (map (op_at level) front) packets) where
  both : front ++ rest ≡ os
  both = ap (λ (xs : List TOp). xs ++ rest) is_front ∙ ap (λ (xs : List TOp). take (ahead os) os ++ xs) is_rest ∙ take-append-drop (ahead os) os

  stateless : AreStateless (map (op_at level) front)
  stateless = front_stateless level os front is_front

  pub few_on : length rows ≤ length packets
  few_on = let few = through_short (map (op_at level) front) stateless packets in let same = ap length come in omega (arith, few, same)

  pub takes_on : AllByRecursion (Takes level os) packets → AllByRecursion (Takes level rest) rows
  takes_on h =
      subst (AllByRecursion (Takes level rest)) (sym come)
      (takes_rest level front rest packets stateless (subst (λ (xs : List TOp). AllByRecursion (Takes level xs) packets) (sym both) h))

  fits_at : (packets : List Row) → AllFit level os packets → AllFit level rest (through (map (op_at level) front) packets)
  fits_at packets h =
      subst (λ (xs : List TOp). AllFit level xs (through (map (op_at level) front) packets)) (sym is_rest)
      (subst (λ (xs : List TOp). AllFit level (drop (ahead os) os) (through (map (op_at level) xs) packets)) (sym is_front) (fit_rest level (ahead os) os packets h))

  pub fits_on : AllFit level os packets → AllFit level rest rows
  fits_on h = subst (AllFit level rest) (sym come) (fits_at packets h)

  pub none_fits_on : AllFit level os [] → AllFit level rest []
  none_fits_on h = subst (AllFit level rest) (through_come (map (op_at level) front) stateless []) (fits_at [] h)

  pub counts_on : (depth : ℕ) (slots before counts : List ℕ) → before ≡ coming_to level front packets → counts ≡ before ++ counts_from depth level slots rest (starting rows ∷ []) → counts ≡ counts_from depth level slots os (starting packets ∷ [])
  counts_on depth slots before counts first is =
      is ∙ ap (λ ns. ns ++ counts_from depth level slots rest (starting rows ∷ [])) first
      ∙ ap (λ (rs : List Row). coming_to level front packets ++ counts_from depth level slots rest (starting rs ∷ [])) come
      ∙ counts_ahead depth level slots front rest packets stateless
      ∙ ap (λ (xs : List TOp). counts_from depth level slots xs (starting packets ∷ [])) both

  pub given_on : (asked : Bool) → given asked level rest rows ≡ given asked level os packets
  given_on asked =
      ap (λ (rs : List Row). cond asked (Some rs) None)
      (ap (through (map (op_at level) rest)) come
      ∙ ap (λ (xs : List TOp). through (map (op_at level) rest) (through (map (op_at level) xs) packets)) is_front
      ∙ ap (λ (xs : List TOp). through (map (op_at level) xs) (through (map (op_at level) (take (ahead os) os)) packets)) is_rest
      ∙ through_rest level (ahead os) os packets)
