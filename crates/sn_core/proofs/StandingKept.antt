-- Every call leaves a net.
use Rattle.std.proofs.Common.{◌≡◌, ℕ, suc, ◌<◌, List, [], ◌∷◌, ◌++◌, map, length, Bool, true, false, not, nat_eq, nat_lt, Option, None, Some, refl, ap, sym, ◌∙◌, subst, arith}
use Rattle.std.specs.List.{AllByRecursion}
use Rattle.std.proofs.lemmas.Bool.{false≢true, eqb-true}
use Rattle.std.proofs.lemmas.List.{length-map}
use Rattle.sn_core.specs.declared.event.Event.{Event}
use Rattle.sn_core.specs.declared.event.Event.TheVariants.{Packet, ReadOut, Deliver, CloseWindow, Install}
use Rattle.sn_core.specs.declared.event.Why.TheVariants.{NoInput, Full, Reading, NotReading, Empty, Ended, Unfinished, NoAnswer}
use Rattle.sn_core.specs.Nets.{Lane, Net, new_net}
use Rattle.sn_core.specs.declared.supply.Supply.{Supply}
use Rattle.sn_core.specs.declared.supply.Frame.{Frame}
use Rattle.sn_core.specs.declared.supply.Window.{Window}
use Rattle.sn_core.specs.declared.supply.Supply.TheVariants.{Numbered, End}
use Rattle.sn_core.specs.declared.supply.Frame.TheVariants.{Row, Last}
use Rattle.sn_core.specs.declared.supply.Window.TheVariants.{Idle, Begun, Closed}
use Rattle.sn_core.specs.Needs.{first_full, first_need_that_fails, first_open, has_room, is_empty, is_over, needs, needs_of_all, passes}
use Rattle.sn_core.specs.Events.{after_event, all_started, change_at, emptied, given, kept_for, row_frames, window_from, delivered, delivered_of, with_next, with_next_of, with_start, with_tuple, without_answers}
use Rattle.sn_core.specs.Due.{fresh}
use Rattle.sn_core.specs.Standing.{HasEndLast, IsAtRest, IsAtWork, IsNet, IsNoEarlier, KeepsLast, Stands}
use Rattle.sn_core.specs.Workings.{AreLawful, Workings}
use Rattle.sn_core.proofs.Items.{ended_lane}
use Rattle.sn_core.proofs.DueKept.{is_late}
use Rattle.sn_core.proofs.Tests.{all_changed, all_hold, all_mapped, all_same, length_changed, need_holds, none_passes, not_less, some_not_none}

module _ {Item : Type 0} where
  -- before its End a lane may append rows, and then its End
  rows_after : (ended closed : Bool) (frames : List (Frame Item)) (o : Option Item) → ended ≡ false → HasEndLast ended closed frames → HasEndLast ended closed (frames ++ row_frames o)
  rows_after ended true frames o running h = absurd (false≢true (sym running ∙ h.0))
  rows_after ended false [] None running h = h
  rows_after ended false [] (Some item) running h = h
  rows_after ended false (Row item ∷ frames) o running h = rows_after ended false frames o running h
  rows_after ended false (Last ∷ frames) o running h = absurd (false≢true (sym running ∙ h.0))

  end_after : (ended closed : Bool) (frames : List (Frame Item)) → ended ≡ false → HasEndLast ended closed frames → HasEndLast true closed (frames ++ Last ∷ [])
  end_after ended true frames running h = absurd (false≢true (sym running ∙ h.0))
  end_after ended false [] running h = (refl, refl)
  end_after ended false (Row item ∷ frames) running h = end_after ended false frames running h
  end_after ended false (Last ∷ frames) running h = absurd (false≢true (sym running ∙ h.0))

  cons_not_nil : {G : Type 0} (frame : Frame Item) (frames : List (Frame Item)) → frame ∷ frames ≡ [] → G
  cons_not_nil frame frames e = absurd (omega (arith, length_of e))
    where
      length_of : frame ∷ frames ≡ [] → suc (length frames) ≡ 0
      length_of e = ap length e

  -- what is left of a lane when its first frame is taken
  row_taken : (ended closed : Bool) (item : Item) (frames : List (Frame Item)) → HasEndLast ended closed (Row item ∷ frames) → HasEndLast ended closed frames
  row_taken ended true item frames h = cons_not_nil (Row item) frames h.1
  row_taken ended false item frames h = h

  end_taken : (ended closed : Bool) (frames : List (Frame Item)) → HasEndLast ended closed (Last ∷ frames) → (ended ≡ true) × (frames ≡ [])
  end_taken ended true frames h = cons_not_nil Last frames h.1
  end_taken ended false frames h = h

  no_end : (ended closed : Bool) (frames : List (Frame Item)) → ended ≡ false → closed ≡ false → frames ≡ [] → HasEndLast ended closed frames
  no_end ended true frames running closed none = absurd (false≢true (sym closed))
  no_end ended false [] running closed none = running
  no_end ended false (frame ∷ frames) running closed none = cons_not_nil frame frames none

opens : (b : Bool) → not b ≡ true → b ≡ false
opens true e = sym e
opens false e = refl

still_open : (ended over : Bool) → (ended ≡ true → over ≡ true) → over ≡ false → ended ≡ false
still_open true over late e = absurd (false≢true (sym e ∙ late refl))
still_open false over late e = refl

module _ {Pipe Tuple Item Kept Answers : Type 0} (w : Workings Pipe Tuple Item Kept Answers) (law : AreLawful w) where
  tuple_work : (tuple : Tuple) (over : Bool) → over ≡ false → (lane : Lane Pipe Item) → IsAtWork w over lane → IsAtWork w false (with_tuple w tuple lane)
  tuple_work tuple over before lane h =
      let open_end : lane.ended ≡ false = still_open lane.ended over h.ends_late before in
      record {
        end = rows_after lane.ended lane.closed lane.ring (w.item_of lane.pipe tuple) open_end h.end;
        read_out = λ e. absurd (false≢true (sym open_end ∙ e));
        ends_late = λ e. absurd (false≢true (sym open_end ∙ e));
        unread = λ e. law.tuples_are_unread lane.pipe tuple (h.unread before);
      }

  next_work_of : (over : Bool) → over ≡ true → (lane : Lane Pipe Item) (items : List Item) → w.left lane.pipe ≡ items → not lane.ended ≡ true → IsAtWork w over lane → IsAtWork w over (with_next_of w lane items)
  next_work_of over late lane [] left is_open h = record {
    end = end_after lane.ended lane.closed lane.ring (opens lane.ended is_open) h.end;
    read_out = λ e. left;
    ends_late = λ e. late;
    unread = λ e. absurd (false≢true (sym e ∙ late));
  }
  next_work_of over late lane (item ∷ items) left is_open h =
      let open_end : lane.ended ≡ false = opens lane.ended is_open in
      record {
        end = rows_after lane.ended lane.closed lane.ring (Some item) open_end h.end;
        read_out = λ e. absurd (false≢true (sym open_end ∙ e));
        ends_late = λ e. late;
        unread = λ e. absurd (false≢true (sym e ∙ late));
      }

  next_work : (over : Bool) → over ≡ true → (lane : Lane Pipe Item) → not lane.ended ≡ true → IsAtWork w over lane → IsAtWork w over (with_next w lane)
  next_work over late lane is_open h = next_work_of over late lane (w.left lane.pipe) refl is_open h

  first_work_of : (over : Bool) (lane : Lane Pipe Item) (frames : List (Frame Item)) → lane.ring ≡ frames → IsAtWork w over lane → IsAtWork w over (delivered_of lane frames)
  first_work_of over lane [] ring h = h
  first_work_of over lane (Row item ∷ frames) ring h = record {
    end = row_taken lane.ended lane.closed item frames (subst (HasEndLast lane.ended lane.closed) ring h.end);
    read_out = h.read_out;
    ends_late = h.ends_late;
    unread = h.unread;
  }
  first_work_of over lane (Last ∷ frames) ring h = record {
    end = end_taken lane.ended lane.closed frames (subst (HasEndLast lane.ended lane.closed) ring h.end);
    read_out = h.read_out;
    ends_late = h.ends_late;
    unread = h.unread;
  }

  first_work : (over : Bool) (lane : Lane Pipe Item) → not (is_empty lane) ≡ true → IsAtWork w over lane → IsAtWork w over (delivered lane)
  first_work over lane some h = first_work_of over lane lane.ring refl h

  -- a lane at rest has no frame
  none_first : {G : Type 0} (lane : Lane Pipe Item) → not (is_empty lane) ≡ true → lane.ring ≡ [] → G
  none_first lane some none = absurd (false≢true (sym (ap (λ (fs : List (Frame Item)). not (nat_eq (length fs) 0)) none) ∙ some))

  rest_emptied : (over : Bool) (lane : Lane Pipe Item) → not lane.closed ≡ false → IsAtWork w over lane → IsAtRest (emptied lane)
  rest_emptied over lane closed h = record { ring = (ended_lane w law over lane closed h).1; taken = refl; closed = refl }

  all_emptied : (over : Bool) (lanes : List (Lane Pipe Item)) → AllByRecursion (λ lane. not lane.closed ≡ false) lanes → AllByRecursion (IsAtWork w over) lanes → AllByRecursion IsAtRest (map emptied lanes)
  all_emptied over [] closed h = tt
  all_emptied over (lane ∷ lanes) closed h = (rest_emptied over lane closed.0 h.0, all_emptied over lanes closed.1 h.1)

  start_work : (kept : Kept) (lane : Lane Pipe Item) → IsAtRest lane → IsAtWork w false (with_start w kept lane)
  start_work kept lane rest = record {
    end = no_end false lane.closed lane.ring refl rest.closed rest.ring;
    read_out = λ e. absurd (false≢true e);
    ends_late = λ e. e;
    unread = λ e. law.start_is_unread lane.pipe kept;
  }

  started_work : (lanes : List (Lane Pipe Item)) (sets : List Kept) → AllByRecursion IsAtRest lanes → AllByRecursion (IsAtWork w false) (all_started w lanes sets)
  started_work [] sets h = tt
  started_work (lane ∷ lanes) [] h = (start_work w.nothing lane h.0, started_work lanes [] h.1)
  started_work (lane ∷ lanes) (kept ∷ sets) h = (start_work kept lane h.0, started_work lanes sets h.1)

  abbrev lane_with : Pipe → List (Frame Item) → List Item → Bool → Lane Pipe Item
  lane_with pipe ring taken closed = record { pipe = pipe; ended = false; ring = ring; taken = taken; closed = closed }

  start_fresh : (lane : Lane Pipe Item) → IsAtRest lane → fresh w w.nothing (with_start w w.nothing lane) ≡ with_start w w.nothing lane
  start_fresh lane rest =
      let pipe : Pipe = w.start lane.pipe w.nothing in
      ap (λ p. lane_with p [] [] false) (law.starts_again lane.pipe w.nothing w.nothing) ∙ ap (λ fs. lane_with pipe fs [] false) (sym rest.ring)
      ∙ ap (λ xs. lane_with pipe lane.ring xs false) (sym rest.taken) ∙ ap (lane_with pipe lane.ring lane.taken) (sym rest.closed)

  started_fresh : (lanes : List (Lane Pipe Item)) → AllByRecursion IsAtRest lanes → AllByRecursion (λ lane. fresh w w.nothing lane ≡ lane) (all_started w lanes [])
  started_fresh [] h = tt
  started_fresh (lane ∷ lanes) h = (start_fresh lane h.0, started_fresh lanes h.1)

  fresh_ring : (lane : Lane Pipe Item) → fresh w w.nothing lane ≡ lane → lane.ring ≡ []
  fresh_ring lane e = sym (ap (λ (x : Lane Pipe Item). x.ring) e)

  fresh_work : (over : Bool) (lane : Lane Pipe Item) → fresh w w.nothing lane ≡ lane → IsAtWork w over lane
  fresh_work over lane e = subst (IsAtWork w over) e (record {
    end = refl;
    read_out = λ x. absurd (false≢true x);
    ends_late = λ x. absurd (false≢true x);
    unread = λ x. law.start_is_unread lane.pipe w.nothing;
  })

  later_work : (over : Bool) (lane : Lane Pipe Item) → IsAtWork w false lane → IsAtWork w over lane
  later_work over lane h = record { end = h.end; read_out = h.read_out; ends_late = λ e. absurd (false≢true (h.ends_late e)); unread = λ e. h.unread refl }

  pub length_started : (lanes : List (Lane Pipe Item)) (sets : List Kept) → length (all_started w lanes sets) ≡ length lanes
  length_started [] sets = refl
  length_started (lane ∷ lanes) [] = ap suc (length_started lanes [])
  length_started (lane ∷ lanes) (kept ∷ sets) = ap suc (length_started lanes sets)

  module _ (room : ℕ) (lanes : List (Lane Pipe Item)) (installs : List Kept) (last : Option (ℕ × List Kept)) (waiting : Option Answers) where
    abbrev parts : Option (Supply Tuple) → Window → Net Pipe Tuple Item Kept Answers
    parts held window = record { room = room; held = held; window = window; lanes = lanes; installs = installs; last = last; waiting = waiting }

    abbrev Stays : Event → Option (Supply Tuple) → Window → Type 0
    Stays event held window = IsNet w (parts held window) → first_need_that_fails (parts held window) event ≡ None → IsNet w (after_event w (parts held window) event)

    long : (others : List (Lane Pipe Item)) → length others ≡ length lanes → 0 < length lanes → 0 < length others
    long others e some = omega (arith, e, some)

    packet : (held : Option (Supply Tuple)) (window : Window) → Stays Packet held window
    packet held Idle h may = some_not_none NoInput may
    packet held (Closed number) h may = some_not_none NoInput may
    packet None (Begun number) h may = some_not_none NoInput may
    packet (Some End) (Begun number) h may = some_not_none NoInput may
    packet (Some (Numbered n tuple)) (Begun number) h may =
        let same : nat_eq n number ≡ true = (need_holds (nat_eq n number) Reading (needs_of_all (first_full room lanes) Full None) may).0 in
        let equal : n ≡ number = eqb-true n number same in
        record {
          some_room = h.some_room;
          some_lane = long (map (with_tuple w tuple) lanes) (length-map lanes (with_tuple w tuple)) h.some_lane;
          keeps = tt;
          stands = (tt, all_mapped (IsAtWork w (nat_lt number n)) (IsAtWork w false) (with_tuple w tuple) (tuple_work tuple (nat_lt number n) (not_less number n (omega (arith, equal)))) lanes h.stands.1);
        }

    read_out : (lane : ℕ) (held : Option (Supply Tuple)) (window : Window) → Stays (ReadOut lane) held window
    read_out lane held Idle h may = some_not_none NotReading may
    read_out lane held (Closed number) h may = some_not_none NotReading may
    read_out lane held (Begun number) h may =
        let over = need_holds (is_over number held) NotReading (needs (passes (λ x. not x.ended) lanes lane) (Ended lane) (needs (passes (has_room room) lanes lane) (Full lane) None)) may in
        let is_open = need_holds (passes (λ x. not x.ended) lanes lane) (Ended lane) (needs (passes (has_room room) lanes lane) (Full lane) None) over.1 in
        record {
          some_room = h.some_room;
          some_lane = long (change_at (with_next w) lanes lane) (length_changed (with_next w) lanes lane) h.some_lane;
          keeps = tt;
          stands = (h.stands.0, all_changed (IsAtWork w (is_over number held)) (λ x. not x.ended) (with_next w) (next_work (is_over number held) over.0) lanes lane is_open.0 h.stands.1);
        }

    deliver : (lane : ℕ) (held : Option (Supply Tuple)) (window : Window) → Stays (Deliver lane) held window
    deliver lane held Idle h may =
        let some = need_holds (passes (λ x. not (is_empty x)) lanes lane) (Empty lane) None may in
        record {
          some_room = h.some_room;
          some_lane = long (change_at delivered lanes lane) (length_changed delivered lanes lane) h.some_lane;
          keeps = h.keeps;
          stands = (h.stands.0, all_changed (λ x. fresh w w.nothing x ≡ x) (λ x. not (is_empty x)) delivered (λ x full e. none_first x full (fresh_ring x e)) lanes lane some.0 h.stands.1);
        }
    deliver lane held (Closed number) h may =
        let some = need_holds (passes (λ x. not (is_empty x)) lanes lane) (Empty lane) None may in
        record {
          some_room = h.some_room;
          some_lane = long (change_at delivered lanes lane) (length_changed delivered lanes lane) h.some_lane;
          keeps = h.keeps;
          stands = (h.stands.0, all_changed IsAtRest (λ x. not (is_empty x)) delivered (λ x full rest. none_first x full rest.ring) lanes lane some.0 h.stands.1);
        }
    deliver lane held (Begun number) h may =
        let some = need_holds (passes (λ x. not (is_empty x)) lanes lane) (Empty lane) None may in
        record {
          some_room = h.some_room;
          some_lane = long (change_at delivered lanes lane) (length_changed delivered lanes lane) h.some_lane;
          keeps = tt;
          stands = (h.stands.0, all_changed (IsAtWork w (is_over number held)) (λ x. not (is_empty x)) delivered (first_work (is_over number held)) lanes lane some.0 h.stands.1);
        }

    close : (held : Option (Supply Tuple)) (window : Window) → Stays CloseWindow held window
    close held Idle h may = some_not_none NotReading may
    close held (Closed number) h may = some_not_none NotReading may
    close held (Begun number) h may =
        let closed = none_passes (λ (lane : Lane Pipe Item). not lane.closed) lanes (all_hold (first_open lanes) Unfinished _ may).0 in
        record {
          some_room = h.some_room;
          some_lane = long (map emptied lanes) (length-map lanes emptied) h.some_lane;
          keeps = refl;
          stands = (is_late w law (is_over number held) lanes h.some_lane closed h.stands.1, all_emptied (is_over number held) lanes closed h.stands.1);
        }

    install : (held : Option (Supply Tuple)) (window : Window) → Stays Install held window
    install held Idle h may = some_not_none NoAnswer may
    install held (Begun number) h may = some_not_none NoAnswer may
    install None (Closed number) h may = absurd (false≢true h.stands.0)
    install (Some End) (Closed number) h may = record {
      some_room = h.some_room;
      some_lane = long (all_started w lanes []) (length_started lanes []) h.some_lane;
      keeps = λ e. some_not_none End e;
      stands = (refl, started_fresh lanes h.stands.1);
    }
    install (Some (Numbered n tuple)) (Closed number) h may =
        let sets : List Kept = kept_for number installs n in
        record {
          some_room = h.some_room;
          some_lane = long (all_started w lanes sets) (length_started lanes sets) h.some_lane;
          keeps = tt;
          stands = (omega arith, subst (λ b. AllByRecursion (IsAtWork w b) (all_started w lanes sets)) (sym (not_less n n (omega arith))) (started_work lanes sets h.stands.1));
        }

    give : (supply : Supply Tuple) (window : Window) → IsNoEarlier supply window → Stands w None lanes window → Stands w (Some supply) lanes (window_from window supply)
    give End Idle fit h = (refl, h.1)
    give (Numbered n tuple) Idle fit h = (omega arith, all_same (λ x. fresh w w.nothing x ≡ x) (IsAtWork w (nat_lt n n)) (fresh_work (nat_lt n n)) lanes h.1)
    give supply (Begun number) fit h = (fit, all_same (IsAtWork w false) (IsAtWork w (is_over number (Some supply))) (later_work (is_over number (Some supply))) lanes h.1)
    give supply (Closed number) fit h = absurd (false≢true h.0)

    give_keeps : (supply : Supply Tuple) (window : Window) → Stands w None lanes window → KeepsLast {Tuple = Tuple} None installs last window → KeepsLast (Some supply) installs last (window_from window supply)
    give_keeps End Idle h keeps = λ e. some_not_none End e
    give_keeps (Numbered n tuple) Idle h keeps = tt
    give_keeps supply (Begun number) h keeps = tt
    give_keeps supply (Closed number) h keeps = keeps

  pub event_keeps_net : (net : Net Pipe Tuple Item Kept Answers) (event : Event) → IsNet w net → first_need_that_fails net event ≡ None → IsNet w (after_event w net event)
  event_keeps_net net Packet h may = packet net.room net.lanes net.installs net.last net.waiting net.held net.window h may
  event_keeps_net net (ReadOut lane) h may = read_out net.room net.lanes net.installs net.last net.waiting lane net.held net.window h may
  event_keeps_net net (Deliver lane) h may = deliver net.room net.lanes net.installs net.last net.waiting lane net.held net.window h may
  event_keeps_net net CloseWindow h may = close net.room net.lanes net.installs net.last net.waiting net.held net.window h may
  event_keeps_net net Install h may = install net.room net.lanes net.installs net.last net.waiting net.held net.window h may

  pub give_keeps_net : (net : Net Pipe Tuple Item Kept Answers) (supply : Supply Tuple) → IsNet w net → net.held ≡ None → IsNoEarlier supply net.window → IsNet w (given net supply)
  give_keeps_net net supply h none fit = record {
    some_room = h.some_room;
    some_lane = h.some_lane;
    keeps = give_keeps net.room net.lanes net.installs net.last net.waiting supply net.window (subst (λ (o : Option (Supply Tuple)). Stands w o net.lanes net.window) none h.stands) (subst (λ (o : Option (Supply Tuple)). KeepsLast o net.installs net.last net.window) none h.keeps);
    stands = give net.room net.lanes net.installs net.last net.waiting supply net.window fit (subst (λ (o : Option (Supply Tuple)). Stands w o net.lanes net.window) none h.stands);
  }

  pub take_keeps_net : (net : Net Pipe Tuple Item Kept Answers) → IsNet w net → IsNet w (without_answers net)
  take_keeps_net net h = record { some_room = h.some_room; some_lane = h.some_lane; stands = h.stands; keeps = h.keeps }

  all_fresh : (lanes : List (Lane Pipe Item)) → AllByRecursion (λ lane. fresh w w.nothing lane ≡ lane) (map (fresh w w.nothing) lanes)
  all_fresh [] = tt
  all_fresh (lane ∷ lanes) = (ap (λ p. lane_with p [] [] false) (law.starts_again lane.pipe w.nothing w.nothing), all_fresh lanes)

  pub new_is_net : (room : ℕ) (lanes : List (Lane Pipe Item)) → 0 < room → 0 < length lanes → IsNet w (new_net room (map (fresh w w.nothing) lanes))
  new_is_net room lanes some_room some_lane = record {
    some_room = some_room;
    some_lane = omega (arith, some_lane, length-map lanes (fresh w w.nothing));
    keeps = λ e. refl;
    stands = (refl, all_fresh lanes);
  }
