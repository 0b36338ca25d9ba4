-- What a run leaves: what was given is used up.
use Rattle.std.proofs.Common.{◌≡◌, ℕ, ◌||◌, ◌&&◌, List, [], ◌∷◌, true, is_none, Option, None, Some, refl, ap, sym, ◌∙◌, subst}
use Rattle.std.proofs.lemmas.Bool.{false≢true, eqb-true}
use Rattle.sn_core.proofs.Tests.{need_holds, some_not_none}
use Rattle.sn_core.specs.Events.{after_close, after_event, after_install, after_packet, given, without_answers}
use Rattle.sn_core.specs.Needs.{first_full, first_need_that_fails, is_begun_with, is_done, is_end, is_idle, is_of, is_tuple, needs, needs_of_all}
use Rattle.sn_core.specs.declared.event.Event.TheVariants.{Packet, ReadOut, Deliver, CloseWindow, Install}
use Rattle.sn_core.specs.declared.event.Why.TheVariants.{Full, NoInput, Reading}
use Rattle.sn_core.specs.declared.supply.Supply.{Supply}
use Rattle.sn_core.specs.declared.supply.Supply.TheVariants.{Numbered, End}
use Rattle.sn_core.specs.declared.supply.Window.{Window}
use Rattle.sn_core.specs.declared.supply.Window.TheVariants.{Idle, Begun, Closed}
use Rattle.sn_gen.specs.Generated.{drawn, next_number}
use Rattle.sn_core_net.specs.States.{State, Works}
use Rattle.sn_types.specs.declared.answers.Answers.{Answers}
use Rattle.sn_core_drive.specs.Schedules.{IsAfter, IsRun}
use Rattle.sn_core_drive.specs.declared.note.Note.{Note}
use Rattle.sn_core_drive.specs.declared.note.Note.TheVariants.{Happened, Reported}
use Rattle.sn_core_drive.proofs.Running.{picked_may}

-- a packet is of the window that is begun
packet_of : (s : State) → first_need_that_fails s Packet ≡ None → is_begun_with (λ number. is_of number s.held) s.window ≡ true
packet_of s may =
    let free = needs_of_all (first_full s.room s.lanes) Full None in
    let some = need_holds (is_begun_with (λ number. is_tuple s.held) s.window) NoInput (needs (is_begun_with (λ number. is_of number s.held) s.window) Reading free) may in
    (need_holds (is_begun_with (λ number. is_of number s.held) s.window) Reading free some.1).0

begun_is : (number : ℕ) (tuple : List ℕ) (window : Window) → is_begun_with (λ m. is_of m (Some (Numbered number tuple))) window ≡ true → window ≡ Begun number
begun_is number tuple Idle e = absurd (false≢true e)
begun_is number tuple (Begun m) e = ap (λ (k : ℕ). Begun k) (sym (eqb-true number m e))
begun_is number tuple (Closed m) e = absurd (false≢true e)

no_packet : (window : Window) → is_begun_with (λ m. is_of {Tuple = List ℕ} m (Some End)) window ≡ true → ⊥
no_packet Idle e = false≢true e
no_packet (Begun m) e = false≢true e
no_packet (Closed m) e = false≢true e

module _ (w : Works) where
  close_held : (s : State) (window : Window) → (after_close w s window).held ≡ s.held
  close_held s Idle = refl
  close_held s (Begun number) = refl
  close_held s (Closed number) = refl

  install_held : (s : State) (window : Window) → (after_install w s window).held ≡ s.held
  install_held s Idle = refl
  install_held s (Begun number) = refl
  install_held s (Closed number) = refl

module _ (w : Works) (reported : Answers → Answers) where
  -- where a supply is wanted, nothing more happens
  nothing_more : (x : ℕ) (s : State) (notes : List Note) (y : ℕ) (t : State) → s.held ≡ None → s.waiting ≡ None → IsRun w reported x s notes y t → t ≡ s
  nothing_more x s [] y t held taken run = run.3
  nothing_more x s (Happened event ∷ notes) y t held taken run = absurd (false≢true (sym run.1 ∙ ap (λ (o : Option (Supply (List ℕ))). is_none o || is_done s) held))
  nothing_more x s (Reported answers ∷ notes) y t held taken run = some_not_none run.0.0 (sym run.0.1 ∙ taken)

  module _ (number : ℕ) (tuple : List ℕ) where
    abbrev Used : State → Type 0
    Used t = (t.held ≡ None) × (t.window ≡ Begun number)

    packet_used : (x : ℕ) (s : State) (notes : List Note) (y : ℕ) (t : State) → s.held ≡ Some (Numbered number tuple) → s.waiting ≡ None → first_need_that_fails s Packet ≡ None → IsRun w reported x (after_event w s Packet) notes y t → Used t
    packet_used x s notes y t held taken may run =
        let one : after_event w s Packet ≡ after_packet w s (Some (Numbered number tuple)) = ap (after_packet w s) held in
        let end : t ≡ after_packet w s (Some (Numbered number tuple)) = nothing_more x (after_packet w s (Some (Numbered number tuple))) notes y t refl taken (subst (λ (r : State). IsRun w reported x r notes y t) one run) in (
          ap (λ (r : State). r.held) end,
          ap (λ (r : State). r.window) end ∙ begun_is number tuple s.window (subst (λ (o : Option (Supply (List ℕ))). is_begun_with (λ m. is_of m o) s.window ≡ true) held (packet_of s may)),
        )

    tuple_used : (x : ℕ) (s : State) (notes : List Note) (y : ℕ) (t : State) → s.held ≡ Some (Numbered number tuple) → IsRun w reported x s notes y t → Used t
    tuple_used x s [] y t held run =
        absurd (false≢true (sym (ap (λ (o : Option (Supply (List ℕ))). is_none o || (is_end o && is_idle s.window && is_none s.waiting)) held) ∙ run.1))
    tuple_used x s (Happened Packet ∷ notes) y t held run = packet_used (next_number x) s notes y t held run.0 (picked_may s (drawn (next_number x)) Packet run.2) run.3
    tuple_used x s (Happened (ReadOut lane) ∷ notes) y t held run = tuple_used (next_number x) (after_event w s (ReadOut lane)) notes y t held run.3
    tuple_used x s (Happened (Deliver lane) ∷ notes) y t held run = tuple_used (next_number x) (after_event w s (Deliver lane)) notes y t held run.3
    tuple_used x s (Happened CloseWindow ∷ notes) y t held run = tuple_used (next_number x) (after_event w s CloseWindow) notes y t (close_held w s s.window ∙ held) run.3
    tuple_used x s (Happened Install ∷ notes) y t held run = tuple_used (next_number x) (after_event w s Install) notes y t (install_held w s s.window ∙ held) run.3
    tuple_used x s (Reported answers ∷ notes) y t held run = tuple_used x (without_answers s) notes y t held run.1

  end_used : (x : ℕ) (s : State) (notes : List Note) (y : ℕ) (t : State) → s.held ≡ Some End → IsRun w reported x s notes y t → is_done t ≡ true
  end_used x s [] y t held run =
      ap (λ (r : State). is_done r) run.3 ∙ sym (ap (λ (o : Option (Supply (List ℕ))). is_none o || is_done s) held) ∙ run.1
  end_used x s (Happened Packet ∷ notes) y t held run =
      absurd (no_packet s.window (subst (λ (o : Option (Supply (List ℕ))). is_begun_with (λ m. is_of m o) s.window ≡ true) held (packet_of s (picked_may s (drawn (next_number x)) Packet run.2))))
  end_used x s (Happened (ReadOut lane) ∷ notes) y t held run = end_used (next_number x) (after_event w s (ReadOut lane)) notes y t held run.3
  end_used x s (Happened (Deliver lane) ∷ notes) y t held run = end_used (next_number x) (after_event w s (Deliver lane)) notes y t held run.3
  end_used x s (Happened CloseWindow ∷ notes) y t held run = end_used (next_number x) (after_event w s CloseWindow) notes y t (close_held w s s.window ∙ held) run.3
  end_used x s (Happened Install ∷ notes) y t held run = end_used (next_number x) (after_event w s Install) notes y t (install_held w s s.window ∙ held) run.3
  end_used x s (Reported answers ∷ notes) y t held run = end_used x (without_answers s) notes y t held run.1

  pub run_after : (x : ℕ) (s : State) (next : Supply (List ℕ)) (notes : List Note) (y : ℕ) (t : State) → IsRun w reported x (given s next) notes y t → IsAfter next t
  run_after x s (Numbered number tuple) notes y t run = tuple_used number tuple x (given s (Numbered number tuple)) notes y t refl run
  run_after x s End notes y t run = end_used x (given s End) notes y t refl run
