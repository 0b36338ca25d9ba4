-- The training windows of a query, one after another.
use Rattle.std.proofs.Common.{◌≡◌, ℕ, ◌+◌, ◌≤◌, ◌<◌, ◌^◌, List, ◌∷◌, length, [], Option, None, Some, refl}
use Rattle.std.proofs.Common.{ap, sym, subst, ◌∙◌, arith, length-append}
use Rattle.std.proofs.Math.Nat.{mul-le-mul_left, mul-le-mul_right}
use Rattle.sn_switch.specs.declared.switch.Switch.{Switch}
use Rattle.sn_types.specs.declared.typed_query.TypedQuery.{TypedQuery}
use Rattle.sn_plan_choices.specs.declared.costs.CostTable.{CostTable}
use Rattle.sn_plan_choices.specs.Costs.{HasPlaces}
use Rattle.sn_refine.specs.Refined.{Windows}
use Rattle.sn_refine.specs.Steps.{Set, windows_of}
use Rattle.sn_refine.proofs.Windows.{above_last, earlier, here, later}
use Rattle.sn_cost_training.specs.declared.training.TrainingWindow.{TrainingWindow}
use Rattle.sn_cost_training.specs.Trained.{Training}
use Rattle.sn_cost_training.specs.Windows.{IsApart, trained_on, tuples_in}
use Rattle.sn_cost.specs.Adding.{Adds}
use Rattle.sn_cost.specs.Entries.{trained}
use Rattle.sn_cost.specs.Training.{AddsFronts, HasFrontRoom, HaveAtMost, IsFresh, IsNext, Knows, of_fronts}
use Rattle.sn_cost.proofs.Running.{as_many, given_in, given_rise, trained_is}
use Rattle.sn_cost.proofs.Fees.{most_at}
use Rattle.sn_cost.proofs.Totals.{Counted, next_window, none_more}
use Rattle.sn_windows.specs.Rising.{AreRising, IsAbove, Window}
use Rattle.sn_windows.specs.Blocks.{most_records}

module _ (s : Switch) (q : ℕ) (query : TypedQuery) (windows : List TrainingWindow) (first : CostTable) where
  abbrev pub all : List Window
  all = given_in windows

  -- these windows are still to come, after the last one, of which it is known what fronts answered
  pub record Going (last : Option ℕ) (sets : List Set) (rest : List Window) : Type 0 where
    pub rises : AreRising last rest
    pub agrees : (v : ℕ) → IsAbove last v → windows_of all v ≡ windows_of rest v
    pub knows : Knows query (windows_of all) last sets

  pub record TrainedTo (rest : List TrainingWindow) (last : Option ℕ) (sets : List Set) (table : CostTable) : Type 0 where
    pub apart : IsApart rest
    pub done : ℕ
    pub total : done + length (tuples_in rest) ≡ length (tuples_in windows)
    pub going : Going last sets (given_in rest)
    pub owed : ℕ
    pub few : HaveAtMost owed sets
    pub counted : Counted s q query (windows_of all) first all (given_in rest) done owed table

  pub none_trained : (last : Option ℕ) (sets : List Set) → IsApart windows → ((prefix : ℕ) → IsFresh first q prefix) → last ≡ None → sets ≡ [] → TrainedTo windows last sets first
  none_trained last sets apart fresh none empty = subst (λ o. TrainedTo windows o sets first) (sym none) (record {
    apart = apart;
    done = 0;
    total = omega arith;
    going = record { rises = given_rise windows apart; agrees = λ v above. refl; knows = tt };
    owed = 0;
    few = subst (HaveAtMost 0) (sym empty) tt;
    counted = record {
      left = λ q' prefix b option p. refl;
      places = λ queries has. has;
      small = λ prefix b option p. let e = fresh prefix b option p in omega (arith, e);
    };
  })

  is_next : (last : Option ℕ) (sets : List Set) (g : Window) (rest : List Window) → Going last sets (g ∷ rest) → IsNext query (windows_of all) last sets g.0 g.1
  is_next last sets g rest going = record {
    holds = going.agrees g.0 going.rises.0 ∙ here g rest;
    between = λ v above lt. going.agrees v above ∙ earlier g rest v going.rises.1 lt;
    knows = going.knows;
  }

  pub next_trained : (w : TrainingWindow) (ws : List TrainingWindow) (table new : CostTable) (last : Option ℕ) (sets sets' : List Set) → s.weight ≤ 65536 → TrainedTo (w ∷ ws) last sets table
      → AddsFronts s q query (2 ^ length query.levels) last sets w.number w.tuples table new → HaveAtMost (length w.tuples) sets'
      → ((windows : Windows) → IsNext query windows last sets w.number w.tuples → Knows query windows (Some w.number) sets') → TrainedTo ws (Some w.number) sets' new
  next_trained w ws table new last sets sets' light so_far adds few knows =
      let g : Window = (w.number, w.tuples) in
      let rest : List Window = given_in ws in
      let going : Going last sets (g ∷ rest) = so_far.going in
      let next : IsNext query (windows_of all) last sets g.0 g.1 = is_next last sets g rest going in
      let long = length-append w.tuples (tuples_in ws) in
      let total = so_far.total in
      record {
        apart = so_far.apart.1.1;
        done = so_far.done + length w.tuples;
        total = omega (arith, long, total);
        going = record {
          rises = going.rises.1;
          agrees = λ v less. going.agrees v (above_last last g.0 v going.rises.0 less) ∙ later g rest v less;
          knows = knows (windows_of all) next;
        };
        owed = length g.1;
        few = few;
        counted = next_window s q query (windows_of all) first table new all rest g so_far.done (length g.1) so_far.owed (length g.1) light so_far.counted so_far.apart.0 (omega arith)
            (adds.small (windows_of all) next so_far.owed so_far.few) (adds.adds (windows_of all) next);
      }

  -- the next window is above the last, has few tuples, and there is room for its counts
  pub above_next : (w : TrainingWindow) (ws : List TrainingWindow) (last : Option ℕ) (sets : List Set) (table : CostTable) → TrainedTo (w ∷ ws) last sets table → IsAbove last w.number
  above_next w ws last sets table so_far = so_far.going.rises.0

  pub few_next : (w : TrainingWindow) (ws : List TrainingWindow) (last : Option ℕ) (sets : List Set) (table : CostTable) → length (tuples_in windows) ≤ most_records → TrainedTo (w ∷ ws) last sets table → length w.tuples ≤ most_records
  few_next w ws last sets table few so_far = let long = length-append w.tuples (tuples_in ws) in let total = so_far.total in omega (arith, few, long, total)

  pub room_next : (rest : List TrainingWindow) (last : Option ℕ) (sets : List Set) (table : CostTable) → s.weight ≤ 65536 → length (tuples_in windows) ≤ most_records → HasPlaces first (q + 1) → TrainedTo rest last sets table
      → (front : ℕ) → front < 16 → HasFrontRoom table q front s.weight sets
  room_next rest last sets table light few has so_far front of_prefix = λ at b of_branch option below.
      let small = so_far.counted.small front b option (record { of_query = has; of_prefix = of_prefix; of_branch = of_branch; of_option = below }) in
      let size = most_at so_far.owed sets at so_far.few in
      let cost = mul-le-mul_left s.weight size in
      let most = mul-le-mul_right so_far.owed light in
      let total = so_far.total in
      omega (arith, small, cost, most, total, few)

  pub all_trained : (last : Option ℕ) (sets : List Set) (table : CostTable) (training : Training) → IsApart windows → training ≡ trained_on windows → TrainedTo [] last sets table
      → Adds first table (of_fronts s q query (2 ^ length query.levels) (trained training.numbers training.tuples))
  all_trained last sets table training apart is so_far =
      let same : trained training.numbers training.tuples ≡ all = ap (λ (t : Training). trained t.numbers t.tuples) is ∙ trained_is windows apart in
      subst (λ gs. Adds first table (of_fronts s q query (2 ^ length query.levels) gs)) (sym same) (record {
        grown = λ q' prefix b option p.
            let z = none_more s q query (windows_of all) q' prefix b option in
            let e = so_far.counted.left q' prefix b option p in
            omega (arith, z, e);
        places = so_far.counted.places;
      })

-- there are few tuples where there are few numbers
pub few_tuples : (training : Training) (windows : List TrainingWindow) → training ≡ trained_on windows → length training.numbers ≤ most_records → length (tuples_in windows) ≤ most_records
few_tuples training windows is few = let e = ap (λ (t : Training). length t.numbers) is in let same = as_many windows in omega (arith, few, e, same)
