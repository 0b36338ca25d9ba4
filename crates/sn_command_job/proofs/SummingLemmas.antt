-- What is shown of windows that come one after another.
use Rattle.std.proofs.Common.{◌≡◌, ℕ, List, [], ◌∷◌, ◌++◌, map, None, inl, inr, refl, ap, sym, ◌∙◌, append-nil}
use Rattle.std.specs.List.{flat_map}
use Rattle.std.proofs.lemmas.Grind.{flat_map-append}
use Rattle.sn_command_capture.specs.Wording.{Closed}
use Rattle.sn_core_drive.specs.declared.machine.Machine.{Ghosts as MachineOf}
use Rattle.sn_plan_fit.specs.Fits.{AreEntriesOf}
use Rattle.sn_types.specs.declared.answers.Answers.{Answers}
use Rattle.sn_command_run.specs.Along.{plan_of, reported_of}
use Rattle.sn_command_run.specs.Planned.{Planned, Telling, reported_at, reported_emitted_in}
use Rattle.sn_command_run.proofs.AlongLemmas.{next_answers, next_right, rising_again, rising_front, reported_more, reported_right}
use Rattle.sn_command_run.proofs.HandLemmas.{all_emitted}
use Rattle.sn_command_job.specs.declared.summing.Summing.{Summing}
use Rattle.sn_command_job.specs.Summary.{shown, shown_in}
use Rattle.sn_command_job.specs.Summing.{IsAtWork, IsIdle, shown_of}
use Rattle.sn_windows.specs.Rising.{AreRising, Window}

flat_map_map : {X Y Z : Type 0} (f : Y → List Z) (g : X → Y) (xs : List X) → flat_map f (map g xs) ≡ flat_map (λ x. f (g x)) xs
flat_map_map f g [] = refl
flat_map_map f g (x ∷ xs) = ap (λ rest. f (g x) ++ rest) (flat_map_map f g xs)

module _ (reported : Telling) (p : Planned) where
  -- one window more
  pub shown_more : (closed : List Window) (number : ℕ) (tuples : List (List ℕ)) → AreEntriesOf p.queries p.entries → AreRising None (closed ++ (number, tuples) ∷ [])
      → shown_of reported p closed ++ shown p.queries (reported_at reported p (closed ++ (number, tuples) ∷ []) number) ≡ shown_of reported p (closed ++ (number, tuples) ∷ [])
  shown_more closed number tuples h rising =
      let now : Answers = next_answers p closed number tuples in
      ap (λ (a : Answers). shown_of reported p closed ++ shown p.queries (reported a)) (sym (next_right p closed number tuples h rising))
      ∙ ap (λ (rest : List ℕ). shown_of reported p closed ++ rest) (sym (append-nil (shown p.queries (reported now))))
      ∙ sym (flat_map-append (shown p.queries) (reported_of reported p closed) (reported now ∷ []))
      ∙ ap (flat_map (shown p.queries)) (sym (reported_more p reported closed number tuples))

  -- all windows
  pub shown_right : (closed : List Window) → AreEntriesOf p.queries p.entries → AreRising None closed → shown_of reported p closed ≡ shown_in reported p closed
  shown_right closed h rising =
      ap (flat_map (shown p.queries)) (reported_right p reported closed h rising) ∙ flat_map_map (shown p.queries) (λ (w : Window). reported_at reported p closed w.0) closed

module _ {M : Type 0} (machine : MachineOf M) (a : Summing M) where
  pub all_shown : (closed : List Window) → Closed (IsIdle machine a) (IsAtWork machine a) closed → a.shown.items ≡ shown_in machine.reported (plan_of a.along) closed
  all_shown closed (inl idle) = idle.shown ∙ shown_right machine.reported (plan_of a.along) closed idle.along.entries idle.along.rising
  all_shown closed (inr at) = at.1.shown ∙ shown_right machine.reported (plan_of a.along) closed at.1.along.fed.entries (rising_front None closed ((at.0, []) ∷ []) at.1.along.rising)

  pub all_sent : (closed : List Window) → Closed (IsIdle machine a) (IsAtWork machine a) closed → a.along.emitted ≡ reported_emitted_in machine.reported (plan_of a.along) closed
  all_sent closed (inl idle) = all_emitted machine a.along closed (inl idle.along)
  all_sent closed (inr at) = all_emitted machine a.along closed (inr (at.0, at.1.along))

  -- a current window stands after those that were closed
  pub rising_at : (closed : List Window) (number : ℕ) (tuples : List (List ℕ)) → IsAtWork machine a closed number tuples → AreRising None (closed ++ (number, tuples) ∷ [])
  rising_at closed number tuples h = rising_again None closed number [] tuples h.along.rising

  -- what is shown of one window more
  pub shown_next : (closed : List Window) (number : ℕ) (tuples : List (List ℕ)) (answers : Answers) (text : List ℕ) (p : Planned) → p ≡ plan_of a.along → IsAtWork machine a closed number tuples
      → answers ≡ reported_at machine.reported (plan_of a.along) (closed ++ (number, tuples) ∷ []) number → text ≡ a.shown.items ++ shown p.queries answers → text ≡ shown_of machine.reported p (closed ++ (number, tuples) ∷ [])
  shown_next closed number tuples answers text p same h is added =
      let q : Planned = plan_of a.along in
      let reported : Telling = machine.reported in
      added
      ∙ ap (λ (front : List ℕ). front ++ shown p.queries answers) h.shown
      ∙ ap (λ (r : Planned). shown_of reported q closed ++ shown r.queries answers) same
      ∙ ap (λ (b : Answers). shown_of reported q closed ++ shown q.queries b) is
      ∙ shown_more reported q closed number tuples h.along.fed.entries (rising_at closed number tuples h)
      ∙ ap (λ (r : Planned). shown_of reported r (closed ++ (number, tuples) ∷ [])) (sym same)
