-- Runs are turns.
use Rattle.std.proofs.Common.{◌≡◌, ℕ, zero, suc, ◌≤◌, List, [], ◌∷◌, true, false, Option, None, Some, refl, ap, sym, ◌∙◌, arith}
use Rattle.std.specs.Option.{option_map_or}
use Rattle.sn_core.proofs.Falls.{step_works}
use Rattle.sn_core.proofs.StandingKept.{event_keeps_net, take_keeps_net}
use Rattle.sn_core.specs.Debt.{work}
use Rattle.sn_core.specs.Events.{after_event, given, without_answers}
use Rattle.sn_core.specs.Standing.{IsNet}
use Rattle.sn_core.specs.Workings.{AreLawful}
use Rattle.sn_core.specs.declared.event.Event.{Event}
use Rattle.sn_core.specs.declared.supply.Supply.{Supply}
use Rattle.sn_core_drive.specs.Schedules.{IsRun, is_still, picked}
use Rattle.sn_core_drive.specs.declared.note.Note.{Note}
use Rattle.sn_core_drive.specs.declared.note.Note.TheVariants.{Happened, Reported}
use Rattle.sn_gen.specs.Generated.{drawn, next_number}
use Rattle.sn_core_net.specs.States.{State, Works}
use Rattle.sn_types.specs.declared.answers.Answers.{Answers}
use Rattle.sn_core_drive.specs.Turns.{Turns, led_by, events_in, no_turn, turns, turns_on}
use Rattle.sn_core_drive.proofs.Running.{picked_may}

none_taken : (s : State) → s.waiting ≡ None → without_answers s ≡ s
none_taken s e = ap (λ (o : Option Answers). record s { waiting = o }) (sym e)

abbrev pub of_run : List Note → ℕ → State → Turns
of_run notes y t = record { events = events_in notes; number = y; state = t }

pub one_turn : (w : Works) (n x : ℕ) (s : State) (event : Event) → is_still s ≡ false → picked s (drawn (next_number x)) ≡ Some event
    → turns w (suc n) x s ≡ led_by event (turns w n (next_number x) (without_answers (after_event w s event)))
one_turn w n x s event going pick = rw going (ap (λ (o : Option Event). option_map_or (λ event. led_by event (turns w n (next_number x) (without_answers (after_event w s event)))) o (no_turn x s)) pick)

pub still_turns : (w : Works) (n x : ℕ) (s : State) → is_still s ≡ true → turns w n x s ≡ no_turn x s
still_turns w zero x s still = refl
still_turns w (suc n) x s still = rw still refl

module _ (w : Works) (law : AreLawful w) (reported : Answers → Answers) where
  pub run_turns : (n x : ℕ) (s : State) (notes : List Note) (y : ℕ) (t : State) → IsNet w s → work w (without_answers s) [] ≤ n → IsRun w reported x s notes y t → turns w n x (without_answers s) ≡ of_run notes y t
  run_turns n x s [] y t net le run =
      ap (turns w n x) (none_taken s run.0) ∙ still_turns w n x s run.1 ∙ ap (λ (m : ℕ). no_turn m s) (sym run.2) ∙ ap (no_turn y) (sym run.3)
  run_turns zero x s (Happened event ∷ notes) y t net le run =
      let less = step_works w law s event [] net (picked_may s (drawn (next_number x)) event run.2) in
      absurd (omega (arith, less, le))
  run_turns (suc n) x s (Happened event ∷ notes) y t net le run =
      let may = picked_may s (drawn (next_number x)) event run.2 in
      let less = step_works w law s event [] net may in
      ap (turns w (suc n) x) (none_taken s run.0) ∙ one_turn w n x s event run.1 run.2
      ∙ ap (led_by event) (run_turns n (next_number x) (after_event w s event) notes y t (event_keeps_net w law s event net may) (omega (arith, less, le)) run.3)
  run_turns n x s (Reported answers ∷ notes) y t net le run = run_turns n x (without_answers s) notes y t (take_keeps_net w law s net) le run.1

  -- what a run from a supply notes, draws and leaves are its turns
  pub run_turns_on : (x : ℕ) (s : State) (next : Supply (List ℕ)) (notes : List Note) (y : ℕ) (t : State) → s.waiting ≡ None → IsNet w (given s next) → IsRun w reported x (given s next) notes y t → turns_on w x s next ≡ of_run notes y t
  run_turns_on x s next notes y t taken net run =
      ap (turns w (work w (given s next) []) x) (sym (none_taken (given s next) taken)) ∙ run_turns (work w (given s next) []) x (given s next) notes y t net (omega arith) run
