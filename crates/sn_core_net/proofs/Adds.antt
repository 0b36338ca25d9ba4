-- A tuple adds at most one row to those that a pipe holds, and none where it gives an item.
use Rattle.std.proofs.Common.{◌≡◌, ℕ, zero, suc, ◌+◌, ◌*◌, ◌≤◌, List, [], ◌∷◌, map, drop, length, replicate, Bool, true, false, cond, Option, Some, None, refl, arith, slice_set, slice_index}
use Rattle.std.specs.List.{list_all}
use Rattle.std.specs.Option.{option_and_then, option_map_or}
use Rattle.sn_base.specs.AnyFold.{any_step}
use Rattle.sn_base.specs.Groups.{Row, columns_at}
use Rattle.sn_chain.specs.Chain.{answer_at, holder, vacancy}
use Rattle.sn_chain.specs.Homes.{held_in_order}
use Rattle.sn_chain.specs.Registers.{cell, put, stepped}
use Rattle.sn_chain.specs.declared.offer.Offer.{Offer}
use Rattle.sn_chain.specs.declared.offer.Offer.TheVariants.{New, Held, Over}
use Rattle.sn_report.specs.Items.{Item}
use Rattle.sn_types.specs.Values.{holds, value_of}
use Rattle.sn_pipe.specs.AnyStage.{Stage}
use Rattle.sn_pipe.specs.declared.stage.Stage.TheVariants.{Filter, Map, Distinct, Reduce}
use Rattle.sn_pipe.specs.Pipes.{PipeState, after_packet, item_of, admits, row_in}
use Rattle.sn_pipe.specs.Stages.{answer_to, cleared, is_new, is_over, item_at, item_from, stages_after}
use Rattle.sn_core.specs.Workings.{may_add}
use Rattle.sn_core_net.specs.ReadOut.{held_from, unwalked}

-- ---- cells

abbrev held : {X : Type 0} → List (Option X) → ℕ
held cells = length (held_in_order cells)

same_or_more : {X : Type 0} (o : Option X) (xs ys : List (Option X)) (more : ℕ) → held xs ≤ held ys + more → held (o ∷ xs) ≤ held (o ∷ ys) + more
same_or_more None xs ys more h = h
same_or_more (Some x) xs ys more h = omega (arith, h)

at_most_one : {X : Type 0} (o c : Option X) (xs : List (Option X)) → held (o ∷ xs) ≤ held (c ∷ xs) + 1
at_most_one None None xs = omega arith
at_most_one None (Some c) xs = omega arith
at_most_one (Some o) None xs = omega arith
at_most_one (Some o) (Some c) xs = omega arith

-- a cell is written: at most one more is held, from any place on
one_written : {X : Type 0} (place p : ℕ) (cells : List (Option X)) (o : Option X) → held (drop place (slice_set cells p o)) ≤ held (drop place cells) + 1
one_written place p [] o = omega arith
one_written zero zero (c ∷ cells) o = at_most_one o c cells
one_written zero (suc p) (c ∷ cells) o = same_or_more c (slice_set cells p o) cells 1 (one_written zero p cells o)
one_written (suc place) zero (c ∷ cells) o = omega arith
one_written (suc place) (suc p) (c ∷ cells) o = one_written place p cells o

-- an offer: at most one more is held, and none where it overflows
offered : (level i place : ℕ) (row key : Row) (step : ℕ → ℕ → ℕ) (cells : List (Option (Row × ℕ))) (v : ℕ) (found empty : Option ℕ) (next : Row → Option Item) →
    held (drop place (put step cells key v found empty)) ≤ held (drop place cells) + may_add (cond (is_over (answer_at found empty)) (Some (item_at i row)) (option_and_then next None))
offered level i place row key step cells v (Some p) empty next = one_written place p cells (stepped step v (cell cells p))
offered level i place row key step cells v None (Some p) next = one_written place p cells (Some (key, v))
offered level i place row key step cells v None None next = omega arith

-- ---- stages

adds_if : (level i place : ℕ) (ss : List Stage) (row : Row) (b : Bool) →
    held_from place (stages_after level ss row) ≤ held_from place ss + may_add (item_from level i ss row) →
    held_from place (option_map_or (stages_after level ss) (cond b (Some row) None) ss) ≤ held_from place ss + may_add (option_and_then (item_from level i ss) (cond b (Some row) None))
adds_if level i place ss row true h = h
adds_if level i place ss row false h = omega arith

adds_offered : (level i place : ℕ) (ss : List Stage) (row : Row) (answer : Offer) →
    held_from place (stages_after level ss row) ≤ held_from place ss + may_add (item_from level (suc i) ss row) →
    held_from place (option_map_or (stages_after level ss) (cond (is_new answer) (Some row) None) ss)
    ≤ held_from place ss + may_add (cond (is_over answer) (Some (item_at i row)) (option_and_then (item_from level (suc i) ss) (cond (is_new answer) (Some row) None)))
adds_offered level i place ss row New h = h
adds_offered level i place ss row Held h = omega arith
adds_offered level i place ss row Over h = omega arith

pub stages_add_one : (level i place : ℕ) (ss : List Stage) (row : Row) → held_from place (stages_after level ss row) ≤ held_from place ss + may_add (item_from level i ss row)
stages_add_one level i place [] row = omega arith
stages_add_one level i place (Filter conds ∷ ss) row = adds_if level (suc i) place ss row (list_all (λ c. holds level c row) conds) (stages_add_one level (suc i) place ss row)
stages_add_one level i place (Map exprs ∷ ss) row = stages_add_one level (suc i) place ss (map (λ e. value_of e row) exprs)
stages_add_one level i place (Distinct chain over ∷ ss) row = adds_offered level i place ss row (answer_to chain row) (stages_add_one level (suc i) place ss row)
stages_add_one level i place (Reduce r chain ∷ ss) row =
    offered level i place row (columns_at r.keys row) (any_step chain.fold) chain.cells (slice_index row r.value) (holder chain (columns_at r.keys row)) (vacancy chain (columns_at r.keys row)) (item_from level (suc i) ss)

adds_admitted : (p : PipeState) (row : Row) (b : Bool) →
    held_from p.prefix.place (cond b (stages_after p.prefix.level p.prefix.stages row) p.prefix.stages)
    ≤ held_from p.prefix.place p.prefix.stages + may_add (cond b (item_from p.prefix.level 0 p.prefix.stages row) None)
adds_admitted p row true = stages_add_one p.prefix.level 0 p.prefix.place p.prefix.stages row
adds_admitted p row false = omega arith

pub tuples_add_one : (p : PipeState) (tuple : List ℕ) → unwalked (after_packet p tuple) ≤ unwalked p + may_add (item_of p tuple)
tuples_add_one p tuple = adds_admitted p (row_in p tuple) (admits p tuple)

-- ---- empty registers

none_held : (X : Type 0) (n : ℕ) → held {X = X} (replicate n None) ≡ 0
none_held X zero = refl
none_held X (suc n) = none_held X n

pub cleared_hold_none : (ss : List Stage) → held_from 0 (map cleared ss) ≡ 0
cleared_hold_none [] = refl
cleared_hold_none (Filter conds ∷ ss) = cleared_hold_none ss
cleared_hold_none (Map exprs ∷ ss) = cleared_hold_none ss
cleared_hold_none (Distinct chain over ∷ ss) = cleared_hold_none ss
cleared_hold_none (Reduce r chain ∷ ss) = none_held (Row × ℕ) (chain.depth * chain.slots)
