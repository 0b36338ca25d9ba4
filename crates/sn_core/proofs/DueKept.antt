-- Every event leaves what is due.
use Rattle.std.proofs.Common.{◌≡◌, ℕ, ◌<◌, List, [], ◌∷◌, ◌++◌, map, length, Bool, true, false, not, cond, nat_eq, Option, None, Some, refl, ap, ap₂, eq-eqb, sym, ◌∙◌, arith}
use Rattle.std.specs.List.{AllByRecursion}
use Rattle.std.proofs.lemmas.Bool.{false≢true, ltb-true, ne_eqb}
use Rattle.sn_core.specs.declared.event.Event.{Event}
use Rattle.sn_core.specs.declared.event.Event.TheVariants.{Packet, ReadOut, Deliver, CloseWindow, Install}
use Rattle.sn_core.specs.declared.event.Why.TheVariants.{NoInput, Full, Reading, NotReading, Ended, Unfinished, Waiting, NoAnswer}
use Rattle.sn_core.specs.Nets.{Lane, Net}
use Rattle.sn_core.specs.declared.supply.Supply.{Supply}
use Rattle.sn_core.specs.declared.supply.Window.{Window}
use Rattle.sn_core.specs.declared.supply.Supply.TheVariants.{Numbered, End}
use Rattle.sn_core.specs.declared.supply.Window.TheVariants.{Idle, Begun, Closed}
use Rattle.sn_core.specs.Needs.{first_full, first_need_that_fails, first_open, has_room, is_over, needs, needs_of_all, passes}
use Rattle.sn_core.specs.Events.{after_event, all_started, change_at, emptied, given, kept_for, kept_from, delivered, with_next, with_tuple}
use Rattle.sn_core.specs.Due.{all_items, and_later, answers_of, after_window, due, fresh, items_from_start, of_window, windows_of}
use Rattle.sn_core.specs.Standing.{IsAtWork, IsNet, KeepsLast, Stands}
use Rattle.sn_core.specs.Workings.{AreLawful, Workings}
use Rattle.sn_core.proofs.Items.{closed_items, ended_lane, first_items, next_items, started_items, tuple_items}
use Rattle.sn_core.proofs.Starts.{blank, blank_first, blank_next, blank_started, blank_tuple, same_answers}
use Rattle.sn_core.proofs.Tests.{all_hold, change_same, map_same, need_holds, none_passes, some_not_none}
use Rattle.sn_core.proofs.Windows.{first_window}
use Rattle.std.specs.Option.{option_to_list}

module _ {Tuple : Type 0} where
  -- where a window is over, nothing more comes of it
  pub none_of : (window : ℕ) (held : Option (Supply Tuple)) (following : List (Supply Tuple)) → is_over window held ≡ true →
      (of_window window (option_to_list held ++ following) ≡ []) × (after_window window (option_to_list held ++ following) ≡ option_to_list held ++ following)
  none_of window None following over = absurd (false≢true over)
  none_of window (Some End) following over = (refl, refl)
  none_of window (Some (Numbered number tuple)) following over =
      let other : nat_eq number window ≡ false = ne_eqb number window (λ e. omega (arith, e, ltb-true window number over)) in
      (ap (λ b. cond b (tuple ∷ of_window window following) []) other, ap (λ b. cond b (after_window window following) (Numbered number tuple ∷ following)) other)

module _ {Pipe Tuple Item Kept Answers : Type 0} (w : Workings Pipe Tuple Item Kept Answers) (law : AreLawful w) where
  -- the answers of a begun window, and of those after it, by what they rest on
  same_later : (sets : List Kept) (lanes others : List (Lane Pipe Item)) (number : ℕ) (supplies later : List (Supply Tuple)) (items found : List (List Item)) →
      map (blank w) lanes ≡ map (blank w) others → after_window number supplies ≡ after_window number later → items ≡ found →
      and_later w lanes number supplies (w.answers sets number items) ≡ and_later w others number later (w.answers sets number found)
  same_later sets lanes others number supplies later items found blanks following same =
      ap (λ xs. and_later w lanes number supplies (w.answers sets number xs)) same
      ∙ ap (λ ys. w.answers sets number found ∷ ys) (same_answers w law lanes others (Some (number, w.kept_of (w.answers sets number found))) (windows_of (after_window number supplies)) blanks
      ∙ ap (λ (ss : List (Supply Tuple)). answers_of w others (Some (number, w.kept_of (w.answers sets number found))) (windows_of ss)) following)

  module _ (room : ℕ) (lanes : List (Lane Pipe Item)) (installs : List Kept) (last : Option (ℕ × List Kept)) (waiting : Option Answers) where
    abbrev with_parts : Option (Supply Tuple) → Window → Net Pipe Tuple Item Kept Answers
    with_parts held window = record { room = room; held = held; window = window; lanes = lanes; installs = installs; last = last; waiting = waiting }

    abbrev Keeps : Event → Option (Supply Tuple) → Window → List (Supply Tuple) → Type 0
    Keeps event held window following = due w (after_event w (with_parts held window) event) following ≡ due w (with_parts held window) following

    packet : (held : Option (Supply Tuple)) (window : Window) (following : List (Supply Tuple)) → first_need_that_fails (with_parts held window) Packet ≡ None → Keeps Packet held window following
    packet held Idle following may = some_not_none NoInput may
    packet held (Closed number) following may = some_not_none NoInput may
    packet None (Begun number) following may = some_not_none NoInput may
    packet (Some End) (Begun number) following may = some_not_none NoInput may
    packet (Some (Numbered n tuple)) (Begun number) following may =
        let same : nat_eq n number ≡ true = (need_holds (nat_eq n number) Reading (needs_of_all (first_full room lanes) Full None) may).0 in
        ap (λ ys. option_to_list waiting ++ ys) (same_later (kept_from last number) (map (with_tuple w tuple) lanes) lanes number following (Numbered n tuple ∷ following)
        (map (all_items w (of_window number following)) (map (with_tuple w tuple) lanes)) (map (all_items w (of_window number (Numbered n tuple ∷ following))) lanes)
        (map_same (with_tuple w tuple) (blank w) (blank w) (blank_tuple w law tuple) lanes)
        (sym (ap (λ b. cond b (after_window number following) (Numbered n tuple ∷ following)) same))
        (map_same (with_tuple w tuple) (all_items w (of_window number following)) (all_items w (tuple ∷ of_window number following)) (tuple_items w law tuple (of_window number following)) lanes
        ∙ ap (λ ts. map (all_items w ts) lanes) (sym (ap (λ b. cond b (tuple ∷ of_window number following) []) same))))

    read_out : (lane : ℕ) (held : Option (Supply Tuple)) (window : Window) (following : List (Supply Tuple)) → first_need_that_fails (with_parts held window) (ReadOut lane) ≡ None → Keeps (ReadOut lane) held window following
    read_out lane held Idle following may = some_not_none NotReading may
    read_out lane held (Closed number) following may = some_not_none NotReading may
    read_out lane held (Begun number) following may =
        let over : is_over number held ≡ true = (need_holds (is_over number held) NotReading (needs (passes (λ x. not x.ended) lanes lane) (Ended lane) (needs (passes (has_room room) lanes lane) (Full lane) None)) may).0 in
        let none = none_of number held following over in
        let supplies : List (Supply Tuple) = option_to_list held ++ following in
        ap (λ ys. option_to_list waiting ++ ys) (same_later (kept_from last number) (change_at (with_next w) lanes lane) lanes number supplies supplies
        (map (all_items w (of_window number supplies)) (change_at (with_next w) lanes lane)) (map (all_items w (of_window number supplies)) lanes)
        (change_same (with_next w) (blank w) (blank_next w law) lanes lane) refl
        (ap (λ ts. map (all_items w ts) (change_at (with_next w) lanes lane)) none.0
        ∙ change_same (with_next w) (all_items w []) (next_items w law) lanes lane
        ∙ ap (λ ts. map (all_items w ts) lanes) (sym none.0)))

    deliver : (lane : ℕ) (held : Option (Supply Tuple)) (window : Window) (following : List (Supply Tuple)) → Keeps (Deliver lane) held window following
    deliver lane held Idle following =
        ap (λ ys. option_to_list waiting ++ ys) (same_answers w law (change_at delivered lanes lane) lanes None (windows_of (option_to_list held ++ following)) (change_same delivered (blank w) (blank_first w law) lanes lane))
    deliver lane held (Closed number) following =
        ap (λ ys. option_to_list waiting ++ ys) (same_answers w law (change_at delivered lanes lane) lanes (Some (number, installs)) (windows_of (option_to_list held ++ following)) (change_same delivered (blank w) (blank_first w law) lanes lane))
    deliver lane held (Begun number) following =
        let supplies : List (Supply Tuple) = option_to_list held ++ following in
        ap (λ ys. option_to_list waiting ++ ys) (same_later (kept_from last number) (change_at delivered lanes lane) lanes number supplies supplies
        (map (all_items w (of_window number supplies)) (change_at delivered lanes lane)) (map (all_items w (of_window number supplies)) lanes)
        (change_same delivered (blank w) (blank_first w law) lanes lane) refl
        (change_same delivered (all_items w (of_window number supplies)) (first_items w law (of_window number supplies)) lanes lane))

    install : (held : Option (Supply Tuple)) (window : Window) (following : List (Supply Tuple)) → Stands w held lanes window → KeepsLast held installs last window → first_need_that_fails (with_parts held window) Install ≡ None → Keeps Install held window following
    install held Idle following stands keeps may = some_not_none NoAnswer may
    install held (Begun number) following stands keeps may = some_not_none NoAnswer may
    install None (Closed number) following stands keeps may = absurd (false≢true stands.0)
    install (Some End) (Closed number) following stands keeps may = refl
    install (Some (Numbered n tuple)) (Closed number) following stands keeps may =
        let sets : List Kept = kept_for number installs n in
        let supplies : List (Supply Tuple) = Numbered n tuple ∷ following in
        let own : nat_eq n n ≡ true = eq-eqb n n refl in
        ap (λ ys. option_to_list waiting ++ ys) (ap (λ l. and_later w (all_started w lanes sets) n supplies (w.answers (kept_from l n) n (map (all_items w (of_window n supplies)) (all_started w lanes sets)))) keeps
        ∙ same_later sets (all_started w lanes sets) lanes n supplies following
        (map (all_items w (of_window n supplies)) (all_started w lanes sets)) (items_from_start w (tuple ∷ of_window n following) lanes sets)
        (blank_started w law lanes sets) (ap (λ b. cond b (after_window n following) supplies) own)
        (started_items w law (of_window n supplies) lanes sets stands.1
        ∙ ap (λ b. items_from_start w (cond b (tuple ∷ of_window n following) []) lanes sets) own)
        ∙ sym (ap (answers_of w lanes (Some (number, installs))) (first_window n tuple following)))

  -- where all lanes have ended, the window is over
  pub is_late : (over : Bool) (lanes : List (Lane Pipe Item)) → 0 < length lanes → AllByRecursion (λ lane. not lane.closed ≡ false) lanes → AllByRecursion (IsAtWork w over) lanes → over ≡ true
  is_late over [] some closed h = absurd (omega (arith, some))
  is_late over (lane ∷ lanes) some closed h = h.0.ends_late (ended_lane w law over lane closed.0 h.0).0

  module _ (room : ℕ) (lanes : List (Lane Pipe Item)) (installs : List Kept) (last : Option (ℕ × List Kept)) where
    close : (waiting : Option Answers) (held : Option (Supply Tuple)) (window : Window) (following : List (Supply Tuple)) → 0 < length lanes → Stands w held lanes window →
        first_need_that_fails (with_parts room lanes installs last waiting held window) CloseWindow ≡ None → Keeps room lanes installs last waiting CloseWindow held window following
    close waiting held Idle following some stands may = some_not_none NotReading may
    close waiting held (Closed number) following some stands may = some_not_none NotReading may
    close (Some answers) held (Begun number) following some stands may = some_not_none Waiting (all_hold (first_open lanes) Unfinished (Some Waiting) may).1
    close None held (Begun number) following some stands may =
        let closed = none_passes (λ (lane : Lane Pipe Item). not lane.closed) lanes (all_hold (first_open lanes) Unfinished None may).0 in
        let none = none_of number held following (is_late (is_over number held) lanes some closed stands.1) in
        let supplies : List (Supply Tuple) = option_to_list held ++ following in
        let items : map (all_items w (of_window number supplies)) lanes ≡ map (λ lane. lane.taken) lanes = ap (λ ts. map (all_items w ts) lanes) none.0 ∙ closed_items w law (is_over number held) lanes closed stands.1 in
        let answers : Answers = w.answers (kept_from last number) number (map (λ lane. lane.taken) lanes) in
        ap (λ ys. answers ∷ ys) (same_answers w law (map emptied lanes) lanes (Some (number, w.kept_of answers)) (windows_of supplies) (map_same emptied (blank w) (blank w) (λ lane. refl) lanes)
        ∙ ap (λ (ss : List (Supply Tuple)). answers_of w lanes (Some (number, w.kept_of answers)) (windows_of ss)) (sym none.1))
        ∙ ap (λ xs. and_later w lanes number supplies (w.answers (kept_from last number) number xs)) (sym items)

  fresh_items : (tuples : List Tuple) (lanes : List (Lane Pipe Item)) → AllByRecursion (λ lane. fresh w w.nothing lane ≡ lane) lanes → map (all_items w tuples) lanes ≡ items_from_start w tuples lanes []
  fresh_items tuples [] h = refl
  fresh_items tuples (lane ∷ lanes) h = ap₂ (λ x xs. x ∷ xs) (sym (ap (all_items w tuples) h.0)) (fresh_items tuples lanes h.1)

  module _ (room : ℕ) (lanes : List (Lane Pipe Item)) (installs : List Kept) (last : Option (ℕ × List Kept)) (waiting : Option Answers) where
    give : (supply : Supply Tuple) (window : Window) (following : List (Supply Tuple)) → Stands w None lanes window → KeepsLast {Tuple = Tuple} None installs last window →
        due w (given (with_parts room lanes installs last waiting None window) supply) following ≡ due w (with_parts room lanes installs last waiting None window) (supply ∷ following)
    give End Idle following stands keeps = refl
    give (Numbered n tuple) Idle following stands keeps =
        let supplies : List (Supply Tuple) = Numbered n tuple ∷ following in
        let own : nat_eq n n ≡ true = eq-eqb n n refl in
        ap (λ ys. option_to_list waiting ++ ys) (ap (λ l. and_later w lanes n supplies (w.answers (kept_from l n) n (map (all_items w (of_window n supplies)) lanes))) (keeps refl)
        ∙ same_later [] lanes lanes n supplies following
        (map (all_items w (of_window n supplies)) lanes) (items_from_start w (tuple ∷ of_window n following) lanes [])
        refl (ap (λ b. cond b (after_window n following) supplies) own)
        (fresh_items (of_window n supplies) lanes stands.1 ∙ ap (λ b. items_from_start w (cond b (tuple ∷ of_window n following) []) lanes []) own)
        ∙ sym (ap (answers_of w lanes None) (first_window n tuple following)))
    give supply (Begun number) following stands keeps = refl
    give supply (Closed number) following stands keeps = refl

    give_by : (supply : Supply Tuple) (held : Option (Supply Tuple)) (window : Window) (following : List (Supply Tuple)) → held ≡ None → Stands w held lanes window → KeepsLast held installs last window →
        due w (given (with_parts room lanes installs last waiting held window) supply) following ≡ due w (with_parts room lanes installs last waiting held window) (supply ∷ following)
    give_by supply None window following none stands keeps = give supply window following stands keeps
    give_by supply (Some held) window following none stands keeps = some_not_none held none

  -- what is given moves from what follows into the net
  pub give_keeps_due : (net : Net Pipe Tuple Item Kept Answers) (supply : Supply Tuple) (following : List (Supply Tuple)) → IsNet w net → net.held ≡ None → due w (given net supply) following ≡ due w net (supply ∷ following)
  give_keeps_due net supply following h none = give_by net.room net.lanes net.installs net.last net.waiting supply net.held net.window following none h.stands h.keeps

  pub event_keeps_due : (net : Net Pipe Tuple Item Kept Answers) (event : Event) (following : List (Supply Tuple)) → IsNet w net → first_need_that_fails net event ≡ None → due w (after_event w net event) following ≡ due w net following
  event_keeps_due net Packet following h may = packet net.room net.lanes net.installs net.last net.waiting net.held net.window following may
  event_keeps_due net (ReadOut lane) following h may = read_out net.room net.lanes net.installs net.last net.waiting lane net.held net.window following may
  event_keeps_due net (Deliver lane) following h may = deliver net.room net.lanes net.installs net.last net.waiting lane net.held net.window following
  event_keeps_due net CloseWindow following h may = close net.room net.lanes net.installs net.last net.waiting net.held net.window following h.some_lane h.stands may
  event_keeps_due net Install following h may = install net.room net.lanes net.installs net.last net.waiting net.held net.window following h.stands h.keeps may
