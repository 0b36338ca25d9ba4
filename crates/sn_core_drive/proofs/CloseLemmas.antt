-- What happens up to the close of a window doesn't depend on what is held, where nothing more comes of the window.
use Rattle.std.proofs.Common.{◌≡◌, ℕ, zero, suc, ◌+◌, ◌≤◌, ◌%◌, List, [], ◌∷◌, ◌++◌, length, slice_get, Bool, true, false, not, is_none, nat_eq, nat_lt, Option, None, Some, refl, ap, sym, ◌∙◌, subst, arith}
use Rattle.std.specs.Option.{option_map_or}
use Rattle.std.proofs.lemmas.Bool.{false≢true, le-ltb, ne_eqb}
use Rattle.sn_core.proofs.Falls.{step_works}
use Rattle.sn_core.proofs.StandingKept.{event_keeps_net, take_keeps_net}
use Rattle.sn_core.proofs.Tests.{some_not_none}
use Rattle.sn_core.specs.Debt.{work}
use Rattle.sn_core.specs.Events.{after_event, change_at, given, window_from, delivered, with_next, without_answers}
use Rattle.sn_core.specs.Needs.{has_room, is_over, needs, passes}
use Rattle.sn_core.specs.Standing.{IsNet}
use Rattle.sn_core.specs.Workings.{AreLawful}
use Rattle.sn_core.specs.declared.event.Event.{Event}
use Rattle.sn_core.specs.declared.event.Event.TheVariants.{Packet, ReadOut, Deliver, CloseWindow, Install}
use Rattle.sn_core.specs.declared.event.Why.{Why}
use Rattle.sn_core.specs.declared.event.Why.TheVariants.{Ended, Full, NoAnswer, NotReading}
use Rattle.sn_core.specs.declared.supply.Supply.{Supply}
use Rattle.sn_core.specs.declared.supply.Supply.TheVariants.{Numbered, End}
use Rattle.sn_core.specs.declared.supply.Window.{Window}
use Rattle.sn_core.specs.declared.supply.Window.TheVariants.{Begun}
use Rattle.sn_core_drive.specs.Schedules.{events_of, is_still, may_happen, picked}
use Rattle.sn_gen.specs.Generated.{drawn, next_number}
use Rattle.sn_core_net.specs.States.{State, Works}
use Rattle.sn_core_drive.specs.Turns.{Turns, led_by, no_turn, parted, turns, turns_on}
use Rattle.sn_core_drive.proofs.TurnLemmas.{one_turn}
use Rattle.sn_base.proofs.Lists.{filter_same}
use Rattle.sn_core_drive.proofs.Running.{picked_may}

none_turned : (w : Works) (n x : ℕ) (s : State) → picked s (drawn (next_number x)) ≡ None → is_still s ≡ false → turns w (suc n) x s ≡ no_turn x s
none_turned w n x s none going = rw going (ap (λ (o : Option Event). option_map_or (λ event. led_by event (turns w n (next_number x) (without_answers (after_event w s event)))) o (no_turn x s)) none)

some_work : (a b c : ℕ) → a + 2 + b + c ≤ 0 → ⊥
some_work a b c le = omega (arith, le)

not_below : (n : ℕ) → nat_lt n n ≡ true → ⊥
not_below n e = false≢true (sym (le-ltb n n (omega arith)) ∙ e)

-- a later number is another one
later_is : (m number : ℕ) → nat_lt number m ≡ true → nat_eq m number ≡ false
later_is m number over = ne_eqb m number (λ e. not_below number (ap (nat_lt number) (sym e) ∙ over))

module _ (number : ℕ) where
  -- a state in this window, with this held
  abbrev at : State → Option (Supply (List ℕ)) → State
  at s held = record s { held = held; window = Begun number }

  no_packet : (s : State) (held : Option (Supply (List ℕ))) → is_over number held ≡ true → may_happen (at s held) Packet ≡ false
  no_packet s None over = absurd (false≢true over)
  no_packet s (Some End) over = refl
  no_packet s (Some (Numbered m tuple)) over = let later = later_is m number over in rw later refl

  goes : (s : State) (held : Option (Supply (List ℕ))) → is_over number held ≡ true → is_still (at s held) ≡ false
  goes s None over = absurd (false≢true over)
  goes s (Some End) over = refl
  goes s (Some (Numbered m tuple)) over = refl

  module _ (one two : Option (Supply (List ℕ))) (first : is_over number one ≡ true) (second : is_over number two ≡ true) where
    same_may : (s : State) (event : Event) → may_happen (at s one) event ≡ may_happen (at s two) event
    same_may s Packet = no_packet s one first ∙ sym (no_packet s two second)
    same_may s (ReadOut lane) = ap (λ (b : Bool). is_none (needs b NotReading (needs (passes (λ x. not x.ended) s.lanes lane) (Ended lane) (needs (passes (has_room s.room) s.lanes lane) (Full lane) None)))) (first ∙ sym second)
    same_may s (Deliver lane) = refl
    same_may s CloseWindow = refl
    same_may s Install = refl

    same_picked : (s : State) (draw : ℕ) → picked (at s one) draw ≡ picked (at s two) draw
    same_picked s draw =
        ap (λ (events : List Event). slice_get events (draw % length events)) (filter_same (may_happen (at s one)) (may_happen (at s two)) (same_may s) (events_of (length s.lanes)))

    module _ (w : Works) (law : AreLawful w) where
      fronts : (n m x : ℕ) (since : List Event) (s : State) → IsNet w (at s one) → IsNet w (at s two) → work w (at s one) [] ≤ n → work w (at s two) [] ≤ m
          → (parted since (turns w n x (at s one)).events).0 ≡ (parted since (turns w m x (at s two)).events).0
      fronts zero m x since s net also le more = absurd (some_work _ _ _ le)
      fronts (suc n) zero x since s net also le more = absurd (some_work _ _ _ more)
      fronts (suc n) (suc m) x since s net also le more = by (fronts n m (next_number x)) (picked (at s one) draw) refl (sym (same_picked s draw))
        where
          draw : ℕ
          draw = drawn (next_number x)

          cut : Turns → List Event
          cut r = (parted since r.events).0

          lower : (a b c : ℕ) → suc a ≤ b → b ≤ suc c → a ≤ c
          lower a b c lt le = omega (arith, lt, le)

          by : ((more : List Event) (t : State) → IsNet w (at t one) → IsNet w (at t two) → work w (at t one) [] ≤ n → work w (at t two) [] ≤ m
              → (parted more (turns w n (next_number x) (at t one)).events).0 ≡ (parted more (turns w m (next_number x) (at t two)).events).0)
              → (o : Option Event) → picked (at s one) draw ≡ o → picked (at s two) draw ≡ o → (parted since (turns w (suc n) x (at s one)).events).0 ≡ (parted since (turns w (suc m) x (at s two)).events).0
          by again None e f = ap cut (none_turned w n x (at s one) e (goes s one first)) ∙ sym (ap cut (none_turned w m x (at s two) f (goes s two second)))
          by again (Some Packet) e f = absurd (false≢true (sym (no_packet s one first) ∙ ap (λ (o : Option Why). is_none o) (picked_may (at s one) draw Packet e)))
          by again (Some (ReadOut lane)) e f =
              let may = picked_may (at s one) draw (ReadOut lane) e in
              let might = picked_may (at s two) draw (ReadOut lane) f in
              ap cut (one_turn w n x (at s one) (ReadOut lane) (goes s one first) e)
              ∙ again (since ++ ReadOut lane ∷ []) (record s { lanes = change_at (with_next w) s.lanes lane; waiting = None })
              (take_keeps_net w law (after_event w (at s one) (ReadOut lane)) (event_keeps_net w law (at s one) (ReadOut lane) net may))
              (take_keeps_net w law (after_event w (at s two) (ReadOut lane)) (event_keeps_net w law (at s two) (ReadOut lane) also might))
              (lower _ _ n (step_works w law (at s one) (ReadOut lane) [] net may) le)
              (lower _ _ m (step_works w law (at s two) (ReadOut lane) [] also might) more)
              ∙ sym (ap cut (one_turn w m x (at s two) (ReadOut lane) (goes s two second) f))
          by again (Some (Deliver lane)) e f =
              let may = picked_may (at s one) draw (Deliver lane) e in
              let might = picked_may (at s two) draw (Deliver lane) f in
              ap cut (one_turn w n x (at s one) (Deliver lane) (goes s one first) e)
              ∙ again (since ++ Deliver lane ∷ []) (record s { lanes = change_at delivered s.lanes lane; waiting = None })
              (take_keeps_net w law (after_event w (at s one) (Deliver lane)) (event_keeps_net w law (at s one) (Deliver lane) net may))
              (take_keeps_net w law (after_event w (at s two) (Deliver lane)) (event_keeps_net w law (at s two) (Deliver lane) also might))
              (lower _ _ n (step_works w law (at s one) (Deliver lane) [] net may) le)
              (lower _ _ m (step_works w law (at s two) (Deliver lane) [] also might) more)
              ∙ sym (ap cut (one_turn w m x (at s two) (Deliver lane) (goes s two second) f))
          by again (Some CloseWindow) e f = ap cut (one_turn w n x (at s one) CloseWindow (goes s one first) e) ∙ sym (ap cut (one_turn w m x (at s two) CloseWindow (goes s two second) f))
          by again (Some Install) e f = some_not_none NoAnswer (picked_may (at s one) draw Install e)

-- Up to the close of the window that is begun, what is given next doesn't matter, where nothing more comes of the window.
pub same_front : (w : Works) → AreLawful w → (since : List Event) (x : ℕ) (s : State) (next : Supply (List ℕ)) (number : ℕ) → s.window ≡ Begun number → is_over number (Some next) ≡ true → IsNet w (given s next) → IsNet w (given s End)
    → (parted since (turns_on w x s next).events).0 ≡ (parted since (turns_on w x s End).events).0
same_front w law since x s next number window over net also =
    let here : given s next ≡ at number s (Some next) = ap (λ (win : Window). record s { held = Some next; window = window_from win next }) window in
    let there : given s End ≡ at number s (Some End) = ap (λ (win : Window). record s { held = Some End; window = window_from {Tuple = List ℕ} win End }) window in
    ap (λ (now : State). (parted since (turns w (work w now []) x now).events).0) here
    ∙ fronts number (Some next) (Some End) over refl w law (work w (at number s (Some next)) []) (work w (at number s (Some End)) []) x since s (subst (IsNet w) here net) (subst (IsNet w) there also) (omega arith) (omega arith)
    ∙ sym (ap (λ (now : State). (parted since (turns w (work w now []) x now).events).0) there)
