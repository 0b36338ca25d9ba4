-- The debt of lanes that change.
use Rattle.std.proofs.Common.{◌≡◌, ℕ, zero, suc, ◌+◌, ◌*◌, ◌≤◌, List, [], ◌∷◌, ◌++◌, map, length, Bool, true, false, not, slice_get, Option, None, Some, refl, ap, sym, ◌∙◌, arith}
use Rattle.std.specs.Option.{option_map_or}
use Rattle.std.proofs.lemmas.Bool.{false≢true}
use Rattle.std.proofs.lemmas.List.{length-append}
use Rattle.sn_core.specs.Nets.{Lane}
use Rattle.sn_core.specs.declared.supply.Frame.{Frame}
use Rattle.sn_core.specs.declared.supply.Window.{Window}
use Rattle.sn_core.specs.declared.supply.Frame.TheVariants.{Row, Last}
use Rattle.sn_core.specs.declared.supply.Window.TheVariants.{Idle, Begun, Closed}
use Rattle.sn_core.specs.Needs.{is_empty}
use Rattle.sn_core.specs.Events.{all_started, change_at, emptied, row_frames, delivered, delivered_of, with_next, with_next_of, with_start, with_tuple}
use Rattle.sn_core.specs.Debt.{debt_of_lanes, end_debt, lane_debt}
use Rattle.sn_core.specs.Workings.{AreLawful, Workings, may_add}

least_end : (ended : Bool) (number : ℕ) → end_debt ended (Begun number) ≤ 2
least_end true number = omega arith
least_end false number = omega arith

module _ {Pipe Tuple Item Kept Answers : Type 0} (w : Workings Pipe Tuple Item Kept Answers) (law : AreLawful w) where
  -- ---- lists of lanes

  pub mapped_two : (old new : Window) (change : Lane Pipe Item → Lane Pipe Item) → ((lane : Lane Pipe Item) → lane_debt w new (change lane) ≤ lane_debt w old lane + 2) → (lanes : List (Lane Pipe Item)) →
      debt_of_lanes w new (map change lanes) ≤ debt_of_lanes w old lanes + 2 * length lanes
  mapped_two old new change each [] = omega arith
  mapped_two old new change each (lane ∷ lanes) = omega (arith, each lane, mapped_two old new change each lanes)

  pub mapped_none : (old new : Window) (change : Lane Pipe Item → Lane Pipe Item) → ((lane : Lane Pipe Item) → lane_debt w new (change lane) ≤ lane_debt w old lane) → (lanes : List (Lane Pipe Item)) →
      debt_of_lanes w new (map change lanes) ≤ debt_of_lanes w old lanes
  mapped_none old new change each [] = omega arith
  mapped_none old new change each (lane ∷ lanes) = omega (arith, each lane, mapped_none old new change each lanes)

  pub changed_one : (window : Window) (change : Lane Pipe Item → Lane Pipe Item) (test : Lane Pipe Item → Bool) → ((lane : Lane Pipe Item) → test lane ≡ true → suc (lane_debt w window (change lane)) ≤ lane_debt w window lane) →
      (lanes : List (Lane Pipe Item)) (number : ℕ) → option_map_or test (slice_get lanes number) false ≡ true → suc (debt_of_lanes w window (change_at change lanes number)) ≤ debt_of_lanes w window lanes
  changed_one window change test each [] number passes = absurd (false≢true passes)
  changed_one window change test each (lane ∷ lanes) zero passes = omega (arith, each lane passes)
  changed_one window change test each (lane ∷ lanes) (suc number) passes = omega (arith, changed_one window change test each lanes number passes)

  -- ---- one lane

  tuple_of : (u v r e : ℕ) (frames : List (Frame Item)) (o : Option Item) → v ≤ u + may_add o → 2 * v + length (frames ++ row_frames o) + e ≤ 2 * u + length frames + e + 2
  tuple_of u v r e frames None le = omega (arith, le, length-append frames (row_frames {Item = Item} None))
  tuple_of u v r e frames (Some item) le = omega (arith, le, length-append frames (Row item ∷ []))

  pub tuple_debt : (window : Window) (tuple : Tuple) (lane : Lane Pipe Item) → lane_debt w window (with_tuple w tuple lane) ≤ lane_debt w window lane + 2
  tuple_debt window tuple lane =
      tuple_of (w.unwalked lane.pipe) (w.unwalked (w.after lane.pipe tuple)) 0 (end_debt lane.ended window) lane.ring (w.item_of lane.pipe tuple) (law.adds_one lane.pipe tuple)

  ends : (b : Bool) (number : ℕ) → not b ≡ true → end_debt b (Begun number) ≡ 2
  ends true number e = absurd (false≢true e)
  ends false number e = refl

  next_debt_of : (number : ℕ) (lane : Lane Pipe Item) (items : List Item) → w.left lane.pipe ≡ items → not lane.ended ≡ true → suc (lane_debt w (Begun number) (with_next_of w lane items)) ≤ lane_debt w (Begun number) lane
  next_debt_of number lane [] left running = omega (arith, length-append lane.ring (Last ∷ []), ends lane.ended number running)
  next_debt_of number lane (item ∷ items) left running = omega (arith, length-append lane.ring (Row item ∷ []), law.walks_one lane.pipe item items left)

  pub next_debt : (number : ℕ) (lane : Lane Pipe Item) → not lane.ended ≡ true → suc (lane_debt w (Begun number) (with_next w lane)) ≤ lane_debt w (Begun number) lane
  next_debt number lane running = next_debt_of number lane (w.left lane.pipe) refl running

  first_debt_of : (window : Window) (lane : Lane Pipe Item) (frames : List (Frame Item)) → lane.ring ≡ frames → not (is_empty lane) ≡ true → suc (lane_debt w window (delivered_of lane frames)) ≤ lane_debt w window lane
  first_debt_of window lane [] ring some = absurd (false≢true (sym (ap (λ (fs : List (Frame Item)). not (is_empty (record lane { ring = fs }))) ring) ∙ some))
  first_debt_of window lane (Row item ∷ frames) ring some =
      let long : length lane.ring ≡ suc (length frames) = ap length ring in omega (arith, long)
  first_debt_of window lane (Last ∷ frames) ring some =
      let long : length lane.ring ≡ suc (length frames) = ap length ring in omega (arith, long)

  pub first_debt : (window : Window) (lane : Lane Pipe Item) → not (is_empty lane) ≡ true → suc (lane_debt w window (delivered lane)) ≤ lane_debt w window lane
  first_debt window lane some = first_debt_of window lane lane.ring refl some

  pub emptied_debt : (number : ℕ) (lane : Lane Pipe Item) → lane_debt w (Closed number) (emptied lane) ≤ lane_debt w (Begun number) lane
  emptied_debt number lane = omega arith

  start_debt : (number closed : ℕ) (kept : Kept) (lane : Lane Pipe Item) → lane_debt w (Begun number) (with_start w kept lane) ≤ lane_debt w (Closed closed) lane + 2
  start_debt number closed kept lane = omega (arith, law.start_holds_none lane.pipe kept)

  pub started_debt : (number closed : ℕ) (lanes : List (Lane Pipe Item)) (sets : List Kept) → debt_of_lanes w (Begun number) (all_started w lanes sets) ≤ debt_of_lanes w (Closed closed) lanes + 2 * length lanes
  started_debt number closed [] sets = omega arith
  started_debt number closed (lane ∷ lanes) [] = omega (arith, start_debt number closed w.nothing lane, started_debt number closed lanes [])
  started_debt number closed (lane ∷ lanes) (kept ∷ sets) = omega (arith, start_debt number closed kept lane, started_debt number closed lanes sets)

  stop_debt : (closed : ℕ) (kept : Kept) (lane : Lane Pipe Item) → lane_debt w Idle (with_start w kept lane) ≤ lane_debt w (Closed closed) lane
  stop_debt closed kept lane = omega (arith, law.start_holds_none lane.pipe kept)

  pub stopped_debt : (closed : ℕ) (lanes : List (Lane Pipe Item)) → debt_of_lanes w Idle (all_started w lanes []) ≤ debt_of_lanes w (Closed closed) lanes
  stopped_debt closed [] = omega arith
  stopped_debt closed (lane ∷ lanes) = omega (arith, stop_debt closed w.nothing lane, stopped_debt closed lanes)

  begin_debt : (number : ℕ) (lane : Lane Pipe Item) → lane_debt w (Begun number) lane ≤ lane_debt w Idle lane + 2
  begin_debt number lane = omega (arith, least_end lane.ended number)

  pub begun_debt : (number : ℕ) (lanes : List (Lane Pipe Item)) → debt_of_lanes w (Begun number) lanes ≤ debt_of_lanes w Idle lanes + 2 * length lanes
  begun_debt number [] = omega arith
  begun_debt number (lane ∷ lanes) = omega (arith, begin_debt number lane, begun_debt number lanes)
