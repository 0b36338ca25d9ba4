-- A machine that is watched, over plain values.
use Rattle.std.proofs.Common.{◌≡◌, ℕ, ◌<◌, List, [], ◌∷◌, ◌++◌, map, None, Some, true, refl, ap, ap₂, sym, ◌∙◌, arith}
use Rattle.std.specs.Prelude.{length}
use Rattle.sn_command_capture.specs.Gathering.{all_of}
use Rattle.sn_windows.specs.Rising.{AreRising, Window}
use Rattle.sn_core.specs.Events.{given}
use Rattle.sn_core.specs.Needs.{is_over}
use Rattle.sn_core.specs.Standing.{IsNet}
use Rattle.sn_core.specs.declared.supply.Supply.{Supply}
use Rattle.sn_core.specs.declared.supply.Supply.TheVariants.{Numbered, End}
use Rattle.sn_core.specs.declared.supply.Window.TheVariants.{Begun}
use Rattle.sn_core_drive.specs.Schedules.{IsRun}
use Rattle.sn_core_drive.specs.declared.note.Note.{Note}
use Rattle.sn_engine_lockstep.specs.Sources.{source_of}
use Rattle.sn_engine_lockstep.specs.Work.{intake_of}
use Rattle.sn_emit.specs.Plans.{pieces_from}
use Rattle.sn_core_net.specs.States.{State, Works}
use Rattle.sn_core_net.proofs.Lawful.{lawful}
use Rattle.sn_command_run.specs.Along.{supplies_of}
use Rattle.sn_command_run.specs.Planned.{Planned, Telling}
use Rattle.sn_command_run.proofs.SupplyLemmas.{one_supply}
use Rattle.sn_core_drive.specs.Lines.{lines_of}
use Rattle.sn_core_drive.specs.Plain.{plain_state, plain_turns}
use Rattle.sn_core_drive.specs.Turns.{Turns, Watch, events_in, parted, turns_on, up_to_close, watch_on, watch_over, watched_on}
use Rattle.sn_core_drive.proofs.CloseLemmas.{same_front}
use Rattle.sn_core_drive.proofs.StateLemmas.{turns_on_same}
use Rattle.sn_core_drive.proofs.TurnLemmas.{run_turns_on}
use Rattle.sn_command_run.specs.TraceCausal.{up_to_front}
use Rattle.sn_command_run.specs.TraceWording.{at_first, after_windows, lines_before, works_of}

-- ---- supplies

over_both : (w : Works) (watch : Watch) (xs ys : List (Supply (List ℕ))) → watch_over w watch (xs ++ ys) ≡ watch_over w (watch_over w watch xs) ys
over_both w watch [] ys = refl
over_both w watch (x ∷ xs) ys = over_both w (watch_on w watch x) xs ys

pub all_of_some : (number : ℕ) (closed : List Window) (tuples : List (List ℕ)) → 0 < length tuples → all_of number closed tuples ≡ closed ++ (number, tuples) ∷ []
all_of_some number closed [] lt = absurd (omega arith)
all_of_some number closed (t ∷ ts) lt = refl

all_of_more : (number : ℕ) (closed : List Window) (tuples : List (List ℕ)) (tuple : List ℕ) → all_of number closed (tuples ++ tuple ∷ []) ≡ closed ++ (number, tuples ++ tuple ∷ []) ∷ []
all_of_more number closed [] tuple = refl
all_of_more number closed (t ∷ ts) tuple = refl

module _ (schedule : ℕ) (p : Planned) where
  -- after one tuple more
  pub after_more : (closed : List Window) (number : ℕ) (tuples : List (List ℕ)) (tuple : List ℕ)
      → after_windows schedule p (all_of number closed (tuples ++ tuple ∷ [])) ≡ watch_on (works_of p) (after_windows schedule p (all_of number closed tuples)) (Numbered number tuple)
  after_more closed number tuples tuple =
      ap (after_windows schedule p) (all_of_more number closed tuples tuple)
      ∙ ap (watch_over (works_of p) (at_first schedule p)) (one_supply closed number tuples tuple)
      ∙ over_both (works_of p) (at_first schedule p) (supplies_of (all_of number closed tuples)) (Numbered number tuple ∷ [])

  -- the lines before the block of the last window
  pub before_last : (closed : List Window) (number : ℕ) (tuples : List (List ℕ)) → 0 < length tuples → AreRising None (closed ++ (number, tuples) ∷ [])
      → lines_before schedule p (closed ++ (number, tuples) ∷ []) number ≡ lines_of (up_to_close (works_of p) (after_windows schedule p (all_of number closed tuples)) End)
  before_last closed number tuples some rising =
      ap (λ (windows : List Window). lines_of (up_to_close (works_of p) (after_windows schedule p windows) End)) (up_to_front None closed number tuples [] rising ∙ sym (all_of_some number closed tuples some))

-- ---- one supply more

module _ (p : Planned) (reported : Telling) (watch : Watch) (x : ℕ) (s : State) (number_is : watch.number ≡ x) (state_is : watch.state ≡ plain_state s) where
  abbrev turned : (Supply (List ℕ)) → Turns
  turned next = turns_on (works_of p) x s next

  pub watched_is : (next : Supply (List ℕ)) → watched_on (works_of p) watch next ≡ plain_turns (turned next)
  watched_is next =
      ap₂ (λ (number : ℕ) (state : State). turns_on (works_of p) number state next) number_is state_is
      ∙ turns_on_same p.queries (map intake_of (pieces_from 0 p.entries)) (map source_of (pieces_from 0 p.entries)) x s next

  -- what is known after a run
  pub ran : (next : Supply (List ℕ)) (notes : List Note) (y : ℕ) (t : State) → s.waiting ≡ None → IsNet (works_of p) (given s next) → IsRun (works_of p) reported x (given s next) notes y t
      → watched_on (works_of p) watch next ≡ record { events = events_in notes; number = y; state = plain_state t }
  ran next notes y t taken net run = watched_is next ∙ ap plain_turns (run_turns_on (works_of p) (lawful p.queries p.entries) reported x s next notes y t taken net run)

  -- the lines up to the close of a window are the same, whichever later tuple comes
  pub front_is : (next : Supply (List ℕ)) (number : ℕ) → s.window ≡ Begun number → is_over number (Some next) ≡ true → IsNet (works_of p) (given s next) → IsNet (works_of p) (given s End)
      → up_to_close (works_of p) watch next ≡ up_to_close (works_of p) watch End
  front_is next number window over net also =
      ap (λ (r : Turns). (parted watch.since r.events).0) (watched_is next)
      ∙ same_front (works_of p) (lawful p.queries p.entries) watch.since x s next number window over net also
      ∙ sym (ap (λ (r : Turns). (parted watch.since r.events).0) (watched_is End))
