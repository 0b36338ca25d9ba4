-- How each call changes the debt, and that every step does some of the work.
use Rattle.std.proofs.Common.{◌≡◌, ℕ, suc, ◌+◌, ◌*◌, ◌<◌, ◌≤◌, List, [], ◌∷◌, ◌++◌, map, length, Bool, true, not, cond, nat_eq, Option, None, Some, refl, ap, sym, subst, arith, eq-eqb}
use Rattle.std.proofs.Math.Nat.{mul-suc}
use Rattle.std.proofs.lemmas.Bool.{false≢true}
use Rattle.std.proofs.lemmas.List.{length-map}
use Rattle.sn_core.specs.declared.event.Event.{Event}
use Rattle.sn_core.specs.declared.event.Event.TheVariants.{Packet, ReadOut, Deliver, CloseWindow, Install}
use Rattle.sn_core.specs.declared.event.Why.TheVariants.{NoInput, Full, Reading, NotReading, Empty, Ended, Unfinished, NoAnswer}
use Rattle.sn_core.specs.Nets.{Lane, Net}
use Rattle.sn_core.specs.declared.supply.Supply.{Supply}
use Rattle.sn_core.specs.declared.supply.Window.{Window}
use Rattle.sn_core.specs.declared.supply.Supply.TheVariants.{Numbered, End}
use Rattle.sn_core.specs.declared.supply.Window.TheVariants.{Idle, Begun, Closed}
use Rattle.sn_core.specs.Needs.{first_full, first_need_that_fails, first_open, has_room, is_empty, is_over, needs, needs_of_all, passes}
use Rattle.sn_core.specs.Events.{after_event, all_started, change_at, emptied, given, kept_for, delivered, with_next, with_tuple}
use Rattle.sn_core.specs.Due.{after_window, windows_of}
use Rattle.sn_core.specs.Debt.{debt, debt_of_lanes, tuples_in, windows_in, work}
use Rattle.sn_core.specs.Standing.{IsNet, Stands}
use Rattle.sn_core.specs.Workings.{AreLawful, Workings}
use Rattle.sn_core.proofs.DueKept.{is_late, none_of}
use Rattle.sn_core.proofs.StandingKept.{length_started}
use Rattle.sn_core.proofs.Sums.{begun_debt, changed_one, emptied_debt, first_debt, mapped_none, mapped_two, next_debt, started_debt, stopped_debt, tuple_debt}
use Rattle.sn_core.proofs.Tests.{all_hold, length_changed, need_holds, none_passes, some_not_none}
use Rattle.sn_core.proofs.Windows.{first_window}
use Rattle.std.specs.Option.{option_to_list}

-- a step that lowers the debt, or that uses up a tuple or a window
lower : (d e a b : ℕ) → suc d ≤ e → suc (d + a + b) ≤ e + a + b
lower d e a b le = omega (arith, le)

with_tuple_used : (d e l a more b : ℕ) → d ≤ e + 2 * l → more ≡ a + (2 * l + 1) → suc (d + a + b) ≤ e + more + b
with_tuple_used d e l a more b le is = omega (arith, le, is)

with_window_used : (d e l a b more : ℕ) → d ≤ e + 2 * l + 1 → more ≡ b + (2 * l + 2) → suc (d + a + b) ≤ e + a + more
with_window_used d e l a b more le is = omega (arith, le, is)

with_first_window : (d e l a b more : ℕ) → d ≤ e + 2 * l + 2 → more ≡ b + (2 * l + 2) → d + a + b ≤ e + a + more
with_first_window d e l a b more le is = omega (arith, le, is)

-- the work by its parts: a debt, and how many lanes, tuples and windows
abbrev whole : ℕ → ℕ → ℕ → ℕ → ℕ
whole debt lanes tuples windows = debt + (2 * lanes + 1) * tuples + (2 * lanes + 2) * windows

module _ {Pipe Tuple Item Kept Answers : Type 0} (w : Workings Pipe Tuple Item Kept Answers) (law : AreLawful w) where
  module _ (room : ℕ) (lanes : List (Lane Pipe Item)) (installs : List Kept) (last : Option (ℕ × List Kept)) (waiting : Option Answers) where
    abbrev net_of : Option (Supply Tuple) → Window → Net Pipe Tuple Item Kept Answers
    net_of held window = record { room = room; held = held; window = window; lanes = lanes; installs = installs; last = last; waiting = waiting }

    abbrev Works : Event → Option (Supply Tuple) → Window → List (Supply Tuple) → Type 0
    Works event held window following = Stands w held lanes window → first_need_that_fails (net_of held window) event ≡ None → suc (work w (after_event w (net_of held window) event) following) ≤ work w (net_of held window) following

    packet : (held : Option (Supply Tuple)) (window : Window) (following : List (Supply Tuple)) → Works Packet held window following
    packet held Idle following stands may = some_not_none NoInput may
    packet held (Closed number) following stands may = some_not_none NoInput may
    packet None (Begun number) following stands may = some_not_none NoInput may
    packet (Some End) (Begun number) following stands may = some_not_none NoInput may
    packet (Some (Numbered n tuple)) (Begun number) following stands may =
        let same : nat_eq n number ≡ true = (need_holds (nat_eq n number) Reading (needs_of_all (first_full room lanes) Full None) may).0 in
        let l : ℕ = length lanes in
        let t : ℕ = tuples_in following in
        let k : ℕ = windows_in (Begun number) following in
        let d : ℕ = debt_of_lanes w (Begun number) (map (with_tuple w tuple) lanes) + 2 in
        let e : ℕ = debt_of_lanes w (Begun number) lanes + 2 in
        let lanes_debt : debt_of_lanes w (Begun number) (map (with_tuple w tuple) lanes) ≤ debt_of_lanes w (Begun number) lanes + 2 * length lanes = mapped_two w law (Begun number) (Begun number) (with_tuple w tuple) (tuple_debt w law (Begun number) tuple) lanes in
        subst (λ (m : ℕ). suc (whole d m t k) ≤ whole e l (suc t) (length (windows_of (after_window number (Numbered n tuple ∷ following))))) (sym (length-map lanes (with_tuple w tuple)))
        (subst (λ (b : Bool). suc (whole d l t k) ≤ whole e l (suc t) (length (windows_of (cond b (after_window number following) (Numbered n tuple ∷ following))))) (sym same)
        (with_tuple_used d e l ((2 * l + 1) * t) ((2 * l + 1) * suc t) ((2 * l + 2) * k) (omega (arith, lanes_debt)) (mul-suc (2 * l + 1) t)))

    read_out : (lane : ℕ) (held : Option (Supply Tuple)) (window : Window) (following : List (Supply Tuple)) → Works (ReadOut lane) held window following
    read_out lane held Idle following stands may = some_not_none NotReading may
    read_out lane held (Closed number) following stands may = some_not_none NotReading may
    read_out lane held (Begun number) following stands may =
        let over = need_holds (is_over number held) NotReading (needs (passes (λ x. not x.ended) lanes lane) (Ended lane) (needs (passes (has_room room) lanes lane) (Full lane) None)) may in
        let is_open = need_holds (passes (λ x. not x.ended) lanes lane) (Ended lane) (needs (passes (has_room room) lanes lane) (Full lane) None) over.1 in
        let l : ℕ = length lanes in
        let t : ℕ = tuples_in (option_to_list held ++ following) in
        let k : ℕ = windows_in (Begun number) (option_to_list held ++ following) in
        let less = changed_one w law (Begun number) (with_next w) (λ x. not x.ended) (next_debt w law number) lanes lane is_open.0 in
        subst (λ (m : ℕ). suc (whole (debt_of_lanes w (Begun number) (change_at (with_next w) lanes lane) + 2) m t k) ≤ whole (debt_of_lanes w (Begun number) lanes + 2) l t k) (sym (length_changed (with_next w) lanes lane))
        (lower (debt_of_lanes w (Begun number) (change_at (with_next w) lanes lane) + 2) (debt_of_lanes w (Begun number) lanes + 2) ((2 * l + 1) * t) ((2 * l + 2) * k) (omega (arith, less)))

    delivers : (lane : ℕ) (window : Window) (c t k : ℕ) → passes (λ x. not (is_empty x)) lanes lane ≡ true →
        suc (whole (debt_of_lanes w window (change_at delivered lanes lane) + c) (length (change_at delivered lanes lane)) t k) ≤ whole (debt_of_lanes w window lanes + c) (length lanes) t k
    delivers lane window c t k some =
        let l : ℕ = length lanes in
        let less = changed_one w law window delivered (λ x. not (is_empty x)) (first_debt w law window) lanes lane some in
        subst (λ (m : ℕ). suc (whole (debt_of_lanes w window (change_at delivered lanes lane) + c) m t k) ≤ whole (debt_of_lanes w window lanes + c) l t k) (sym (length_changed delivered lanes lane))
        (lower (debt_of_lanes w window (change_at delivered lanes lane) + c) (debt_of_lanes w window lanes + c) ((2 * l + 1) * t) ((2 * l + 2) * k) (omega (arith, less)))

    deliver : (lane : ℕ) (held : Option (Supply Tuple)) (window : Window) (following : List (Supply Tuple)) → Works (Deliver lane) held window following
    deliver lane held Idle following stands may =
        delivers lane Idle 0 (tuples_in (option_to_list held ++ following)) (windows_in Idle (option_to_list held ++ following)) (need_holds (passes (λ x. not (is_empty x)) lanes lane) (Empty lane) None may).0
    deliver lane held (Begun number) following stands may =
        delivers lane (Begun number) 2 (tuples_in (option_to_list held ++ following)) (windows_in (Begun number) (option_to_list held ++ following)) (need_holds (passes (λ x. not (is_empty x)) lanes lane) (Empty lane) None may).0
    deliver lane held (Closed number) following stands may =
        delivers lane (Closed number) 1 (tuples_in (option_to_list held ++ following)) (windows_in (Closed number) (option_to_list held ++ following)) (need_holds (passes (λ x. not (is_empty x)) lanes lane) (Empty lane) None may).0

    close : (held : Option (Supply Tuple)) (window : Window) (following : List (Supply Tuple)) → 0 < length lanes → Works CloseWindow held window following
    close held Idle following some stands may = some_not_none NotReading may
    close held (Closed number) following some stands may = some_not_none NotReading may
    close held (Begun number) following some stands may =
        let closed = none_passes (λ (lane : Lane Pipe Item). not lane.closed) lanes (all_hold (first_open lanes) Unfinished _ may).0 in
        let none = none_of number held following (is_late w law (is_over number held) lanes some closed stands.1) in
        let supplies : List (Supply Tuple) = option_to_list held ++ following in
        let l : ℕ = length lanes in
        let t : ℕ = tuples_in supplies in
        let d : ℕ = debt_of_lanes w (Closed number) (map emptied lanes) + 1 in
        let e : ℕ = debt_of_lanes w (Begun number) lanes + 2 in
        let less = mapped_none w law (Begun number) (Closed number) emptied (emptied_debt w law number) lanes in
        subst (λ (m : ℕ). suc (whole d m t (length (windows_of supplies))) ≤ whole e l t (length (windows_of (after_window number supplies)))) (sym (length-map lanes emptied))
        (subst (λ (ss : List (Supply Tuple)). suc (whole d l t (length (windows_of supplies))) ≤ whole e l t (length (windows_of ss))) (sym none.1)
        (lower d e ((2 * l + 1) * t) ((2 * l + 2) * length (windows_of supplies)) (omega (arith, less))))

    install : (held : Option (Supply Tuple)) (window : Window) (following : List (Supply Tuple)) → Works Install held window following
    install held Idle following stands may = some_not_none NoAnswer may
    install held (Begun number) following stands may = some_not_none NoAnswer may
    install None (Closed number) following stands may = absurd (false≢true stands.0)
    install (Some End) (Closed number) following stands may =
        let l : ℕ = length lanes in
        let less = stopped_debt w law number lanes in
        subst (λ (m : ℕ). suc (whole (debt_of_lanes w Idle (all_started w lanes []) + 0) m 0 0) ≤ whole (debt_of_lanes w (Closed number) lanes + 1) l 0 0) (sym (length_started w law lanes []))
        (lower (debt_of_lanes w Idle (all_started w lanes []) + 0) (debt_of_lanes w (Closed number) lanes + 1) ((2 * l + 1) * 0) ((2 * l + 2) * 0) (omega (arith, less)))
    install (Some (Numbered n tuple)) (Closed number) following stands may =
        let sets : List Kept = kept_for number installs n in
        let supplies : List (Supply Tuple) = Numbered n tuple ∷ following in
        let own : nat_eq n n ≡ true = eq-eqb n n refl in
        let l : ℕ = length lanes in
        let t : ℕ = tuples_in supplies in
        let k : ℕ = length (windows_of (after_window n following)) in
        let d : ℕ = debt_of_lanes w (Begun n) (all_started w lanes sets) + 2 in
        let e : ℕ = debt_of_lanes w (Closed number) lanes + 1 in
        let more = started_debt w law n number lanes sets in
        subst (λ (m : ℕ). suc (whole d m t (length (windows_of (after_window n supplies)))) ≤ whole e l t (length (windows_of supplies))) (sym (length_started w law lanes sets))
        (subst (λ (b : Bool). suc (whole d l t (length (windows_of (cond b (after_window n following) supplies)))) ≤ whole e l t (length (windows_of supplies))) (sym own)
        (subst (λ (c : ℕ). suc (whole d l t k) ≤ whole e l t c) (sym (ap length (first_window n tuple following)))
        (with_window_used d e l ((2 * l + 1) * t) ((2 * l + 2) * k) ((2 * l + 2) * suc k) (omega (arith, more)) (mul-suc (2 * l + 2) k))))

    -- a supply that is given moves from what follows, and its window begins
    give : (supply : Supply Tuple) (held : Option (Supply Tuple)) (window : Window) (following : List (Supply Tuple)) → held ≡ None →
        work w (given (net_of held window) supply) following ≤ work w (net_of held window) (supply ∷ following)
    give supply (Some other) window following none = some_not_none other none
    give End None Idle following none = omega arith
    give supply None (Begun number) following none = omega arith
    give supply None (Closed number) following none = omega arith
    give (Numbered n tuple) None Idle following none =
        let supplies : List (Supply Tuple) = Numbered n tuple ∷ following in
        let own : nat_eq n n ≡ true = eq-eqb n n refl in
        let l : ℕ = length lanes in
        let t : ℕ = tuples_in supplies in
        let k : ℕ = length (windows_of (after_window n following)) in
        let d : ℕ = debt_of_lanes w (Begun n) lanes + 2 in
        let e : ℕ = debt_of_lanes w Idle lanes + 0 in
        let more = begun_debt w law n lanes in
        subst (λ (b : Bool). whole d l t (length (windows_of (cond b (after_window n following) supplies))) ≤ whole e l t (length (windows_of supplies))) (sym own)
        (subst (λ (c : ℕ). whole d l t k ≤ whole e l t c) (sym (ap length (first_window n tuple following)))
        (with_first_window d e l ((2 * l + 1) * t) ((2 * l + 2) * k) ((2 * l + 2) * suc k) (omega (arith, more)) (mul-suc (2 * l + 2) k)))

  pub step_works : (net : Net Pipe Tuple Item Kept Answers) (event : Event) (following : List (Supply Tuple)) → IsNet w net → first_need_that_fails net event ≡ None → suc (work w (after_event w net event) following) ≤ work w net following
  step_works net Packet following h may = packet net.room net.lanes net.installs net.last net.waiting net.held net.window following h.stands may
  step_works net (ReadOut lane) following h may = read_out net.room net.lanes net.installs net.last net.waiting lane net.held net.window following h.stands may
  step_works net (Deliver lane) following h may = deliver net.room net.lanes net.installs net.last net.waiting lane net.held net.window following h.stands may
  step_works net CloseWindow following h may = close net.room net.lanes net.installs net.last net.waiting net.held net.window following h.some_lane h.stands may
  step_works net Install following h may = install net.room net.lanes net.installs net.last net.waiting net.held net.window following h.stands may

  pub give_works : (net : Net Pipe Tuple Item Kept Answers) (supply : Supply Tuple) (following : List (Supply Tuple)) → net.held ≡ None → work w (given net supply) following ≤ work w net (supply ∷ following)
  give_works net supply following none = give net.room net.lanes net.installs net.last net.waiting supply net.held net.window following none
