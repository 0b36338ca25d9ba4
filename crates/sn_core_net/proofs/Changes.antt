-- What each event does to the state.
use Rattle.std.proofs.Common.{◌≡◌, ℕ, ◌<◌, List, [], map, drop, length, true, not, is_none, nat_eq, nat_lt, get_or, set, slice_get, Option, None, Some, refl, ap, ap₂, sym, ◌∙◌, subst}
use Rattle.std.proofs.lemmas.List.{length-map}
use Rattle.sn_core.proofs.Tests.{all_hold, need_holds, none_passes}
use Rattle.sn_core.specs.Events as core
use Rattle.sn_core.specs.Events.{after_close, after_event, after_install, after_packet, all_started, closes_with, kept_for_held, kept_from, window_of_held, delivered, with_next, with_tuple}
use Rattle.sn_core.specs.Needs.{first_full, first_need_that_fails, first_open, has_room, is_begun_with, is_empty, is_of, is_over, is_tuple, needs, needs_of_all, passes}
use Rattle.sn_core.specs.Nets.{Lane}
use Rattle.sn_core.specs.declared.event.Event.TheVariants as event
use Rattle.sn_core.specs.declared.event.Why.TheVariants.{Empty, Ended, Full, NoInput, NotReading, Reading, Unfinished, Waiting}
use Rattle.sn_core.specs.declared.supply.Supply.{Supply}
use Rattle.sn_core.specs.declared.supply.Supply.TheVariants.{Numbered}
use Rattle.sn_core.specs.declared.supply.Window.{Window}
use Rattle.sn_core.specs.declared.supply.Window.TheVariants.{Begun, Closed}
use Rattle.sn_engine_lockstep.specs.declared.source.Source.{Source}
use Rattle.sn_engine_lockstep.specs.Sources.{prefixes_in}
use Rattle.sn_engine_lockstep.specs.Work.{taken}
use Rattle.sn_emit.specs.declared.sender.Sender.{Sender}
use Rattle.sn_engine.specs.Answers.{answers_of}
use Rattle.sn_engine.specs.Intakes.{emptied}
use Rattle.sn_engine.specs.declared.intake.Intake.{Intake}
use Rattle.sn_core_net.specs.PlanWorkings.{all_ended}
use Rattle.sn_core_net.specs.Settled.{settled}
use Rattle.sn_pipe.specs.Pipes.{PipeState}
use Rattle.sn_report.specs.Items.{Frame as Report}
use Rattle.sn_report.specs.Items.{Item}
use Rattle.sn_types.specs.declared.answers.Answers.{Answers}
use Rattle.sn_types.specs.declared.typed_query.TypedQuery.{TypedQuery}
use Rattle.sn_core_net.specs.declared.holder.Holder.{Holder}
use Rattle.sn_core_net.specs.Facts.{are_roomy, are_unread, ends_agree}
use Rattle.sn_core_net.specs.Holders.{all_begun, all_took}
use Rattle.sn_core_net.specs.States.{State, Works, lane_of, lanes_of, state_of, works_of}
use Rattle.sn_core_net.specs.Reports.{frame_of, report_of}
use Rattle.sn_core_net.proofs.Both.{Set, begun_lanes, emptied_lanes, ended_again, took_lanes}
use Rattle.sn_core_net.proofs.Zips.{change_both, change_left, first_moves, passes_left}

module _ (queries : List TypedQuery) (intakes : List Intake) (sources : List Source) where
  abbrev works : Works
  works = works_of queries intakes sources

  module _ (room : ℕ) (hs : List Holder) (xs : List Intake) (matched : length hs ≡ length xs) (installs : List Set) (last : Option (ℕ × List Set)) (waiting : Option Answers) where
    abbrev at : Option (Supply (List ℕ)) → Window → State
    at held window = state_of room held window hs xs installs last waiting

    -- what holds where a tuple may be taken
    pub packet_may : (held : Option (Supply (List ℕ))) (window : Window) → first_need_that_fails (at held window) event.Packet ≡ None →
        (is_begun_with (λ number. is_of number held) window ≡ true) × (first_full room (lanes_of hs xs) ≡ None)
    packet_may held window may =
        let free = needs_of_all (first_full room (lanes_of hs xs)) Full None in
        let some = need_holds (is_begun_with (λ number. is_tuple held) window) NoInput (needs (is_begun_with (λ number. is_of number held) window) Reading free) may in
        let own = need_holds (is_begun_with (λ number. is_of number held) window) Reading free some.1 in
        (own.0, (all_hold (first_full room (lanes_of hs xs)) Full None own.1).0)

    pub packet_changes : (held : Option (Supply (List ℕ))) (window : Window) (number : ℕ) (tuple : List ℕ) → held ≡ Some (Numbered number tuple) → first_need_that_fails (at held window) event.Packet ≡ None → are_roomy room hs ≡ true → are_unread hs ≡ true →
        state_of room None window (all_took tuple hs) xs installs last waiting ≡ after_event works (at held window) event.Packet
    packet_changes held window number tuple is may roomy unread =
        let none = none_passes (λ (lane : Lane PipeState Item). not (has_room room lane)) (lanes_of hs xs) (packet_may held window may).1 in
        ap (λ (lanes : List (Lane PipeState Item)). record (at held window) { held = None; lanes = lanes }) (took_lanes queries (map emptied intakes) sources room tuple hs xs roomy unread none)
        ∙ sym (ap (after_packet works (at held window)) is)

    module _ (held : Option (Supply (List ℕ))) (window : Window) (n : ℕ) (within : n < length hs) (h : Holder) (own : h ≡ get_or hs n h) where
      -- what holds where a lane may be read out
      pub read_out_may : first_need_that_fails (at held window) (event.ReadOut n) ≡ None → (is_begun_with (λ number. is_over number held) window ≡ true) × (nat_lt (length h.ring.items) room ≡ true) × (not h.sender.ended ≡ true)
      read_out_may may =
          let full = needs (passes (has_room room) (lanes_of hs xs) n) (Full n) None in
          let reading = need_holds (is_begun_with (λ number. is_over number held) window) NotReading (needs (passes (λ x. not x.ended) (lanes_of hs xs) n) (Ended n) full) may in
          let running = need_holds (passes (λ x. not x.ended) (lanes_of hs xs) n) (Ended n) full reading.1 in
          let less = need_holds (passes (has_room room) (lanes_of hs xs) n) (Full n) None running.1 in (
            reading.0,
            ap (λ (x : Holder). nat_lt (length x.ring.items) room) own ∙ sym (passes_left (λ x. nat_lt (length x.ring.items) room) (has_room room) (λ x y. ap (λ m. nat_lt m room) (length-map x.ring.items frame_of)) hs xs n h matched within) ∙ less.0,
            ap (λ (x : Holder). not x.sender.ended) own ∙ sym (passes_left (λ x. not x.sender.ended) (λ x. not x.ended) (λ x y. refl) hs xs n h matched within) ∙ running.0,
          )

      pub read_out_changes : (next : Holder) → ((x : Intake) → lane_of next x ≡ with_next works (lane_of h x)) → state_of room held window (set hs n next) xs installs last waiting ≡ after_event works (at held window) (event.ReadOut n)
      read_out_changes next is =
          ap (λ (lanes : List (Lane PipeState Item)). record (at held window) { lanes = lanes })
          (change_left (with_next works) hs xs n h next matched within (λ x. ap (λ (k : Holder). with_next works (lane_of k x)) (sym own) ∙ sym (is x)))

      -- what holds where the engine may take a frame
      pub deliver_may : first_need_that_fails (at held window) (event.Deliver n) ≡ None → not (nat_eq (length h.ring.items) 0) ≡ true
      deliver_may may =
          let some = need_holds (passes (λ x. not (is_empty x)) (lanes_of hs xs) n) (Empty n) None may in
          ap (λ (x : Holder). not (nat_eq (length x.ring.items) 0)) own
          ∙ sym (passes_left (λ x. not (nat_eq (length x.ring.items) 0)) (λ x. not (is_empty x)) (λ x y. ap (λ m. not (nat_eq m 0)) (length-map x.ring.items frame_of)) hs xs n h matched within) ∙ some.0

      pub deliver_changes : (next : Holder) (number : ℕ) (frame : Report) → slice_get h.ring.items 0 ≡ Some frame → next.sender ≡ h.sender → next.ring.items ≡ drop 1 h.ring.items →
          state_of room held window (set hs n next) (core.change_at (λ x. taken x (report_of h.sender.lane number (frame_of frame))) xs n) installs last waiting ≡ after_event works (at held window) (event.Deliver n)
      deliver_changes next number frame first sender ring =
          let change : Intake → Intake = λ x. taken x (report_of h.sender.lane number (frame_of frame)) in
          ap (λ (lanes : List (Lane PipeState Item)). record (at held window) { lanes = lanes })
          (change_both delivered change hs xs n h next matched within (λ x.
          ap (λ (k : Holder). delivered (lane_of k x)) (sym own) ∙ first_moves h.sender.lane number h x frame h.ring.items first
          ∙ ap (λ (s : Sender). record (lane_of next (change x)) { pipe = settled s.pipe; ended = s.ended; ring = map frame_of (drop 1 h.ring.items) }) (sym sender)
          ∙ ap (λ (frames : List Report). record (lane_of next (change x)) { ring = map frame_of frames }) (sym ring)))

    -- the lanes of the engine have ended the window
    pub close_may : (held : Option (Supply (List ℕ))) (window : Window) (number : ℕ) → intakes ≡ xs → window ≡ Begun number → first_need_that_fails (at held window) event.CloseWindow ≡ None → ends_agree window xs ≡ true →
        all_ended number (map emptied intakes) (map (λ lane. lane.taken) (lanes_of hs xs)) ≡ xs
    close_may held window number here is may agreed =
        let following = need_holds (is_begun_with (λ n. true) window) NotReading (needs_of_all (first_open (lanes_of hs xs)) Unfinished (needs (is_none waiting) Waiting None)) may in
        let closed = none_passes (λ (lane : Lane PipeState Item). not lane.closed) (lanes_of hs xs) (all_hold (first_open (lanes_of hs xs)) Unfinished (needs (is_none waiting) Waiting None) following.1).0 in
        ap (λ (is : List Intake). all_ended number (map emptied is) (map (λ lane. lane.taken) (lanes_of hs xs))) here ∙ ended_again number hs xs matched closed (subst (λ (w : Window). ends_agree w xs ≡ true) is agreed)

    -- the answers are those of the items that the lanes have
    pub close_changes : (held : Option (Supply (List ℕ))) (window : Window) (number : ℕ) (answers : Answers) (sets others : List Set) → intakes ≡ xs → window ≡ Begun number → first_need_that_fails (at held window) event.CloseWindow ≡ None → ends_agree window xs ≡ true →
        answers ≡ answers_of queries (kept_from last number) xs → sets ≡ map (prefixes_in queries answers.parts) sources → others ≡ map (prefixes_in queries answers.parts) sources →
        state_of room held (Closed number) hs (map emptied xs) sets (Some (number, others)) (Some answers) ≡ after_event works (at held window) event.CloseWindow
    close_changes held window number answers sets others here is may agreed value kept also =
        let again = close_may held window number here is may agreed in
        ap (λ (lanes : List (Lane PipeState Item)). record (at held window) { window = Closed number; lanes = lanes; installs = sets; last = Some (number, others); waiting = Some answers }) (emptied_lanes hs xs)
        ∙ ap₂ (λ (ks ls : List Set). record (at held window) { window = Closed number; lanes = map core.emptied (lanes_of hs xs); installs = ks; last = Some (number, ls); waiting = Some answers }) kept also
        ∙ ap (closes_with works (at held window) number) (value ∙ ap (answers_of queries (kept_from last number)) (sym again))
        ∙ sym (ap (after_close works (at held window)) is)

    pub install_changes : (held : Option (Supply (List ℕ))) (window : Window) (closed : ℕ) (lanes : List Holder) → window ≡ Closed closed → lanes ≡ all_begun hs (kept_for_held closed installs held) →
        state_of room held (window_of_held held) lanes xs [] last waiting ≡ after_event works (at held window) event.Install
    install_changes held window closed lanes is begun =
        let kepts : List Set = kept_for_held closed installs held in
        ap (λ (ks : List Holder). record (at held window) { window = window_of_held held; lanes = lanes_of ks xs; installs = [] }) begun
        ∙ ap (λ (ls : List (Lane PipeState Item)). record (at held window) { window = window_of_held held; lanes = ls; installs = [] }) (begun_lanes queries (map emptied intakes) sources hs xs kepts)
        ∙ sym (ap (after_install works (at held window)) is)
