-- What happens in a machine is the same whatever the folds of a distinct's registers are.
use Rattle.std.proofs.Common.{◌≡◌, ℕ, zero, suc, ◌+◌, ◌*◌, ◌%◌, List, [], ◌∷◌, ◌++◌, filter, length, map, slice_get, position, Bool, true, false, cond, not, is_none, nat_lt, Option, None, Some, refl, ap, ap₂, ◌∙◌}
use Rattle.std.specs.FinSet as set
use Rattle.std.specs.List.{position_or_len}
use Rattle.std.specs.Option.{option_map_or}
use Rattle.std.specs.Ordering.{nat_cmp}
use Rattle.std.proofs.lemmas.List.{length-map}
use Rattle.sn_base.proofs.Lists.{map_both, filter_same}
use Rattle.sn_core.specs.Debt.{debt_of_lanes, end_debt, tuples_in, window_debt, windows_in, work}
use Rattle.sn_core.specs.Due.{coming}
use Rattle.sn_core.specs.Events.{after_close, after_event, after_install, after_packet, all_started, change_at, emptied, given, kept_for_held, kept_from, row_frames, delivered, delivered_of, with_next, with_next_of, with_start, with_tuple, without_answers}
use Rattle.sn_core.specs.Needs.{first_full, first_need_that_fails, first_open, has_room, is_begun_with, is_empty, is_of, is_over, is_tuple, needs, needs_of_all}
use Rattle.sn_core.specs.Nets.{Lane}
use Rattle.sn_core.specs.declared.event.Event.{Event}
use Rattle.sn_core.specs.declared.event.Event.TheVariants.{Packet, ReadOut, Deliver, CloseWindow, Install}
use Rattle.sn_core.specs.declared.event.Why.{Why}
use Rattle.sn_core.specs.declared.event.Why.TheVariants.{Empty, Ended, Full, NoInput, NotReading, Reading, Unfinished, Waiting}
use Rattle.sn_core.specs.declared.supply.Frame.{Frame}
use Rattle.sn_core.specs.declared.supply.Frame.TheVariants.{Row, Last}
use Rattle.sn_core.specs.declared.supply.Supply.{Supply}
use Rattle.sn_core.specs.declared.supply.Supply.TheVariants.{Numbered, End}
use Rattle.sn_core.specs.declared.supply.Window.{Window}
use Rattle.sn_core.specs.declared.supply.Window.TheVariants.{Idle, Begun, Closed}
use Rattle.sn_core_drive.specs.Schedules.{enabled_events, events_of, is_still, may_happen, picked}
use Rattle.sn_engine_lockstep.specs.declared.source.Source.{Source}
use Rattle.sn_engine.specs.declared.intake.Intake.{Intake}
use Rattle.sn_gen.specs.Generated.{drawn, next_number}
use Rattle.sn_core_net.specs.States.{State, Works}
use Rattle.sn_core_net.specs.PlanWorkings.{workings_of}
use Rattle.sn_pipe.specs.Pipes.{PipeState}
use Rattle.sn_report.specs.Items.{Item}
use Rattle.sn_types.specs.declared.typed_query.TypedQuery.{TypedQuery}
use Rattle.sn_core_drive.specs.Plain.{plain_lane, plain_state, plain_turns}
use Rattle.sn_core_drive.specs.Turns.{Turns, led_by, no_turn, turns, turns_on}
use Rattle.sn_core_drive.proofs.PipeLemmas.{plain_item, plain_left, plain_packet, plain_read, plain_start, plain_unwalked}

abbrev One : Type 0
One = Lane PipeState Item

-- ---- lists

position_map : {X Y : Type 0} (p : Y → Bool) (f : X → Y) (xs : List X) → position p (map f xs) ≡ position (λ x. p (f x)) xs
position_map {X = X} p f xs = ap₂ (λ (at many : ℕ). cond (nat_lt at many) (Some at) None) (places xs) (length-map xs f)
  where
    places : (ys : List X) → position_or_len p (map f ys) ≡ position_or_len (λ x. p (f x)) ys
    places [] = refl
    places (y ∷ ys) = ap (λ (n : ℕ). cond (not (p (f y))) (1 + n) 0) (places ys)

get_map : {X Y : Type 0} (f : X → Y) (test : Y → Bool) (xs : List X) (n : ℕ) → option_map_or test (slice_get (map f xs) n) false ≡ option_map_or (λ x. test (f x)) (slice_get xs n) false
get_map f test [] n = refl
get_map f test (x ∷ xs) zero = refl
get_map f test (x ∷ xs) (suc n) = get_map f test xs n

both_ways : {X Y : Type 0} (f : X → Y) (one : X → X) (two : Y → Y) → ((x : X) → two (f x) ≡ f (one x)) → (xs : List X) → map two (map f xs) ≡ map f (map one xs)
both_ways f one two same [] = refl
both_ways f one two same (x ∷ xs) = ap₂ (λ first rest. first ∷ rest) (same x) (both_ways f one two same xs)

changed : {X Y : Type 0} (f : X → Y) (one : X → X) (two : Y → Y) → ((x : X) → two (f x) ≡ f (one x)) → (xs : List X) (n : ℕ) → change_at two (map f xs) n ≡ map f (change_at one xs n)
changed f one two same [] n = refl
changed f one two same (x ∷ xs) zero = ap (λ first. first ∷ map f xs) (same x)
changed f one two same (x ∷ xs) (suc n) = ap (λ rest. f x ∷ rest) (changed f one two same xs n)

-- ---- what may happen

same_full : (room : ℕ) (lanes : List One) → first_full room (map plain_lane lanes) ≡ first_full room lanes
same_full room lanes = position_map (λ (lane : One). not (has_room room lane)) plain_lane lanes

same_open : (lanes : List One) → first_open (map plain_lane lanes) ≡ first_open lanes
same_open lanes = position_map (λ (lane : One). not lane.closed) plain_lane lanes

same_needs : (s : State) (event : Event) → first_need_that_fails (plain_state s) event ≡ first_need_that_fails s event
same_needs s Packet =
    ap (λ (o : Option ℕ). needs (is_begun_with (λ number. is_tuple s.held) s.window) NoInput (needs (is_begun_with (λ number. is_of number s.held) s.window) Reading (needs_of_all o Full None))) (same_full s.room s.lanes)
same_needs s (ReadOut lane) =
    ap₂ (λ (running roomy : Bool). needs (is_begun_with (λ number. is_over number s.held) s.window) NotReading (needs running (Ended lane) (needs roomy (Full lane) None)))
    (get_map plain_lane (λ (x : One). not x.ended) s.lanes lane) (get_map plain_lane (has_room s.room) s.lanes lane)
same_needs s (Deliver lane) = ap (λ (b : Bool). needs b (Empty lane) None) (get_map plain_lane (λ (x : One). not (is_empty x)) s.lanes lane)
same_needs s CloseWindow = ap (λ (o : Option ℕ). needs (is_begun_with (λ number. true) s.window) NotReading (needs_of_all o Unfinished (needs (is_none s.waiting) Waiting None))) (same_open s.lanes)
same_needs s Install = refl

same_events : (s : State) → enabled_events (plain_state s) ≡ enabled_events s
same_events s =
    ap (λ (n : ℕ). filter (may_happen (plain_state s)) (events_of n)) (length-map s.lanes plain_lane)
    ∙ filter_same (may_happen (plain_state s)) (may_happen s) (λ event. ap (λ (o : Option Why). is_none o) (same_needs s event)) (events_of (length s.lanes))

same_picked : (s : State) (draw : ℕ) → picked (plain_state s) draw ≡ picked s draw
same_picked s draw = ap (λ (events : List Event). slice_get events (draw % length events)) (same_events s)

-- ---- what happens

module _ (queries : List TypedQuery) (intakes : List Intake) (sources : List Source) where
  abbrev w : Works
  w = workings_of queries intakes sources

  lane_of : One → PipeState → List (Frame Item) → One
  lane_of lane pipe ring = record lane { pipe = pipe; ring = ring }

  tuple_same : (tuple : List ℕ) (lane : One) → with_tuple w tuple (plain_lane lane) ≡ plain_lane (with_tuple w tuple lane)
  tuple_same tuple lane = ap₂ (λ (pipe : PipeState) (item : Option Item). record lane { pipe = pipe; ring = lane.ring ++ row_frames item }) (plain_packet lane.pipe tuple) (plain_item lane.pipe tuple)

  next_same : (lane : One) → with_next w (plain_lane lane) ≡ plain_lane (with_next w lane)
  next_same lane = ap (with_next_of w (plain_lane lane)) (plain_left lane.pipe) ∙ by (w.left lane.pipe)
    where
      by : (items : List Item) → with_next_of w (plain_lane lane) items ≡ plain_lane (with_next_of w lane items)
      by [] = refl
      by (item ∷ items) = ap (λ (pipe : PipeState). record lane { pipe = pipe; ring = lane.ring ++ Row item ∷ [] }) (plain_read lane.pipe)

  first_same : (lane : One) → delivered (plain_lane lane) ≡ plain_lane (delivered lane)
  first_same lane = by lane.ring
    where
      by : (frames : List (Frame Item)) → delivered_of (plain_lane lane) frames ≡ plain_lane (delivered_of lane frames)
      by [] = refl
      by (Row item ∷ frames) = refl
      by (Last ∷ frames) = refl

  start_same : (kept : set.FinSet nat_cmp) (lane : One) → with_start w kept (plain_lane lane) ≡ plain_lane (with_start w kept lane)
  start_same kept lane = ap (λ (pipe : PipeState). record lane { pipe = pipe; ended = false }) (plain_start lane.pipe kept)

  started_same : (lanes : List One) (sets : List (set.FinSet nat_cmp)) → all_started w (map plain_lane lanes) sets ≡ map plain_lane (all_started w lanes sets)
  started_same [] sets = refl
  started_same (lane ∷ lanes) [] = ap₂ (λ (first : One) (rest : List One). first ∷ rest) (start_same w.nothing lane) (started_same lanes [])
  started_same (lane ∷ lanes) (kept ∷ sets) = ap₂ (λ (first : One) (rest : List One). first ∷ rest) (start_same kept lane) (started_same lanes sets)

  with_lanes : State → List One → State
  with_lanes s lanes = record s { lanes = lanes }

  packet_same : (s : State) (held : Option (Supply (List ℕ))) → after_packet w (plain_state s) held ≡ plain_state (after_packet w s held)
  packet_same s None = refl
  packet_same s (Some End) = refl
  packet_same s (Some (Numbered number tuple)) = ap (λ (lanes : List One). record s { held = None; lanes = lanes }) (both_ways plain_lane (with_tuple w tuple) (with_tuple w tuple) (tuple_same tuple) s.lanes)

  close_same : (s : State) (window : Window) → after_close w (plain_state s) window ≡ plain_state (after_close w s window)
  close_same s Idle = refl
  close_same s (Closed number) = refl
  close_same s (Begun number) =
      let kept : List (set.FinSet nat_cmp) = kept_from s.last number in
      ap₂ (λ (items : List (List Item)) (lanes : List One).
      let found = w.answers kept number items in
      record s { window = Closed number; lanes = lanes; installs = w.kept_of found; last = Some (number, w.kept_of found); waiting = Some found })
      (map_both plain_lane (λ (lane : One). lane.taken) s.lanes) (both_ways plain_lane emptied emptied (λ lane. refl) s.lanes)

  install_same : (s : State) (window : Window) → after_install w (plain_state s) window ≡ plain_state (after_install w s window)
  install_same s Idle = refl
  install_same s (Begun number) = refl
  install_same s (Closed number) = ap (λ (lanes : List One). record (after_install w s (Closed number)) { lanes = lanes }) (started_same s.lanes (kept_for_held number s.installs s.held))

  event_same : (s : State) (event : Event) → after_event w (plain_state s) event ≡ plain_state (after_event w s event)
  event_same s Packet = packet_same s s.held
  event_same s (ReadOut lane) = ap (λ (lanes : List One). record s { lanes = lanes }) (changed plain_lane (with_next w) (with_next w) next_same s.lanes lane)
  event_same s (Deliver lane) = ap (λ (lanes : List One). record s { lanes = lanes }) (changed plain_lane delivered delivered first_same s.lanes lane)
  event_same s CloseWindow = close_same s s.window
  event_same s Install = install_same s s.window

  -- ---- how much is left to do

  debt_same : (window : Window) (lanes : List One) → debt_of_lanes w window (map plain_lane lanes) ≡ debt_of_lanes w window lanes
  debt_same window [] = refl
  debt_same window (lane ∷ lanes) = ap₂ (λ (held rest : ℕ). (2 * held + length lane.ring + end_debt lane.ended window) + rest) (plain_unwalked lane.pipe) (debt_same window lanes)

  work_same : (s : State) → work w (plain_state s) [] ≡ work w s []
  work_same s =
      let following : List (Supply (List ℕ)) = coming s [] in
      ap₂ (λ (debt many : ℕ). debt + window_debt s.window + (2 * many + 1) * tuples_in following + (2 * many + 2) * windows_in s.window following) (debt_same s.window s.lanes) (length-map s.lanes plain_lane)

  -- ---- turns

  turns_same : (n x : ℕ) (s : State) → turns w n x (plain_state s) ≡ plain_turns (turns w n x s)
  turns_same zero x s = refl
  turns_same (suc n) x s = by (turns_same n (next_number x)) (is_still s)
    where
      next : State → Event → Turns
      next from event = led_by event (turns w n (next_number x) (without_answers (after_event w from event)))

      by : ((t : State) → turns w n (next_number x) (plain_state t) ≡ plain_turns (turns w n (next_number x) t)) → (b : Bool)
          → cond b (no_turn x (plain_state s)) (option_map_or (next (plain_state s)) (picked (plain_state s) (drawn (next_number x))) (no_turn x (plain_state s)))
          ≡ plain_turns (cond b (no_turn x s) (option_map_or (next s) (picked s (drawn (next_number x))) (no_turn x s)))
      by again true = refl
      by again false = ap (λ (o : Option Event). option_map_or (next (plain_state s)) o (no_turn x (plain_state s))) (same_picked s (drawn (next_number x))) ∙ on again (picked s (drawn (next_number x)))
        where
          on : ((t : State) → turns w n (next_number x) (plain_state t) ≡ plain_turns (turns w n (next_number x) t)) → (o : Option Event)
              → option_map_or (next (plain_state s)) o (no_turn x (plain_state s)) ≡ plain_turns (option_map_or (next s) o (no_turn x s))
          on more None = refl
          on more (Some event) = ap (λ (t : State). led_by event (turns w n (next_number x) (without_answers t))) (event_same s event) ∙ ap (led_by event) (more (without_answers (after_event w s event)))

  pub turns_on_same : (x : ℕ) (s : State) (supply : Supply (List ℕ)) → turns_on w x (plain_state s) supply ≡ plain_turns (turns_on w x s supply)
  turns_on_same x s supply = ap (λ (n : ℕ). turns w n x (plain_state (given s supply))) (work_same (given s supply)) ∙ turns_same (work w (given s supply) []) x (given s supply)
