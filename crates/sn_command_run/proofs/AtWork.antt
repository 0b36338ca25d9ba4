-- A plan at work whose machine is watched and given one supply more, over plain values.
use Rattle.std.proofs.Common.{◌≡◌, ℕ, ◌<◌, ◌&&◌, List, [], ◌∷◌, ◌++◌, Option, None, is_none, inl, inr, ap, sym, subst, ◌∙◌, arith}
use Rattle.std.specs.Prelude.{length}
use Rattle.std.proofs.lemmas.Bool.{lt-ltb}
use Rattle.sn_command_capture.specs.Gathering.{all_of}
use Rattle.sn_command_capture.specs.Wording.{Closed}
use Rattle.sn_core.proofs.StandingKept.{give_keeps_net}
use Rattle.sn_core.specs.Debt.{work}
use Rattle.sn_core.specs.Events.{given, window_from}
use Rattle.sn_core.specs.Needs.{is_idle}
use Rattle.sn_core.specs.Standing.{IsNet, IsNoEarlier}
use Rattle.sn_core.specs.declared.event.Event.{Event}
use Rattle.sn_core.specs.declared.supply.Supply.{Supply}
use Rattle.sn_core.specs.declared.supply.Supply.TheVariants.{Numbered, End}
use Rattle.sn_core.specs.declared.supply.Window.{Window as At}
use Rattle.sn_core.specs.declared.supply.Window.TheVariants.{Begun, Idle}
use Rattle.sn_core_drive.specs.Schedules.{IsRun}
use Rattle.sn_core_drive.specs.declared.machine.Machine.{Ghosts as MachineOf}
use Rattle.sn_core_drive.specs.declared.note.Note.{Note}
use Rattle.sn_core_net.specs.States.{State, Works}
use Rattle.sn_core_net.proofs.Lawful.{lawful}
use Rattle.sn_command_run.specs.Along.{IsUsed, plan_of}
use Rattle.sn_command_run.specs.Planned.{Planned, reported_emitted_in}
use Rattle.sn_command_run.proofs.AlongLemmas.{rising_again}
use Rattle.sn_command_run.proofs.HandLemmas.{all_emitted, used_earlier, used_end}
use Rattle.sn_core_drive.specs.Lines.{lines_of}
use Rattle.sn_core_drive.specs.Plain.{plain_state}
use Rattle.sn_core_drive.specs.Turns.{Turns, Watch, events_in, no_turn, parted, turns_on, up_to_close, watch_on, watched_on}
use Rattle.sn_types.specs.declared.answers.Answers.{Answers}
use Rattle.sn_command_run.specs.TraceWatching.{IsAtWork, IsIdle, IsWatched}
use Rattle.sn_command_run.specs.TraceWording.{after_windows, lines_before, lines_after, works_of}
use Rattle.sn_command_run.specs.declared.traced.Traced.{Traced}
use Rattle.sn_command_run.proofs.WatchLemmas.{all_of_some, before_last, after_more, front_is, ran}
use Rattle.sn_windows.specs.Rising.{AreRising, Window}
use Rattle.sn_core_drive.proofs.TurnLemmas.{still_turns}

used_held : (number : ℕ) (tuples : List (List ℕ)) (s : State) → IsUsed number tuples s → s.held ≡ None
used_held number [] s h = h.0
used_held number (t ∷ ts) s h = h.0

used_window : (number : ℕ) (tuples : List (List ℕ)) (s : State) → 0 < length tuples → IsUsed number tuples s → s.window ≡ Begun number
used_window number [] s lt h = absurd (omega (arith, lt))
used_window number (t ∷ ts) s lt h = h.1

module _ {M : Type 0} (machine : MachineOf M) (a : Traced M) (closed : List Window) (number : ℕ) (tuples : List (List ℕ)) (h : IsAtWork machine a closed number tuples) where
  abbrev p : Planned
  p = plan_of a.along

  abbrev s : State
  s = machine.state a.along.machine

  abbrev watch : Watch
  watch = after_windows a.schedule p (all_of number closed tuples)

  stands : (next : Supply (List ℕ)) → IsNoEarlier next s.window → IsNet (works_of p) (given s next)
  stands next rises =
      give_keeps_net (works_of p) (lawful p.queries p.entries) s next (subst (λ (w : Works). IsNet w s) h.works h.along.fed.stands) (used_held number tuples s h.along.used) rises

  -- what came of one supply more: these notes were taken, and these lines are apart and kept
  pub record Came (next : Supply (List ℕ)) (m : M) (drawn : ℕ) (kept front : List ℕ) (notes : List Note) : Type 0 where
    pub run : IsRun (machine.works a.along.machine) machine.reported a.along.draws.number (given s next) notes drawn (machine.state m)
    pub seen : List Note
    pub same : seen ≡ notes
    pub lines : (since : List Event) → a.lines.items ≡ lines_of since → (front ≡ lines_of (parted since (events_in seen)).0) × (kept ≡ lines_of (parted since (events_in seen)).1)

  module _ (next : Supply (List ℕ)) (m : M) (drawn : ℕ) (kept front : List ℕ) (notes : List Note) (came : Came next m drawn kept front notes) (rises : IsNoEarlier next s.window) where
    turned : watched_on (works_of p) watch next ≡ record { events = events_in came.seen; number = drawn; state = plain_state (machine.state m) }
    turned =
        ran p machine.reported watch a.along.draws.number s h.watched.number_is h.watched.state_is next came.seen drawn (machine.state m) h.along.fed.taken (stands next rises)
        (subst (λ (w : Works). IsRun w machine.reported a.along.draws.number (given s next) came.seen drawn (machine.state m)) h.works
        (subst (λ (ns : List Note). IsRun (machine.works a.along.machine) machine.reported a.along.draws.number (given s next) ns drawn (machine.state m)) (sym came.same) came.run))

    front_came : front ≡ lines_of (up_to_close (works_of p) watch next)
    front_came = (came.lines watch.since h.watched.lines_are).0 ∙ sym (ap (λ (r : Turns). lines_of (parted watch.since r.events).0) turned)

    kept_came : kept ≡ lines_of (watch_on (works_of p) watch next).since
    kept_came = (came.lines watch.since h.watched.lines_are).1 ∙ sym (ap (λ (r : Turns). lines_of (parted watch.since r.events).1) turned)

    watched_came : IsWatched machine m drawn kept (watch_on (works_of p) watch next)
    watched_came = record { lines_are = kept_came; number_is = ap (λ (r : Turns). r.number) turned; state_is = ap (λ (r : Turns). r.state) turned }

  -- one more tuple of the current window
  pub took : (tuple : List ℕ) (m : M) (drawn : ℕ) (kept front : List ℕ) (notes : List Note) → Came (Numbered number tuple) m drawn kept front notes → IsWatched machine m drawn kept (after_windows a.schedule p (all_of number closed (tuples ++ tuple ∷ [])))
  took tuple m drawn kept front notes came =
      subst (IsWatched machine m drawn kept) (sym (after_more a.schedule p closed number tuples tuple))
      (watched_came (Numbered number tuple) m drawn kept front notes came (used_earlier number number tuples tuple s (omega arith) h.along.used))

  module _ (some : 0 < length tuples) where
    abbrev whole : List Window
    whole = closed ++ (number, tuples) ∷ []

    rising : AreRising None whole
    rising = rising_again None closed number [] tuples h.along.rising

    end_rises : IsNoEarlier {Tuple = List ℕ} End s.window
    end_rises = used_end number tuples s h.along.used

    -- the first tuple of a later window
    module _ (later : ℕ) (above : number < later) (tuple : List ℕ) (m : M) (drawn : ℕ) (kept front : List ℕ) (notes : List Note) (came : Came (Numbered later tuple) m drawn kept front notes) where
      rises : IsNoEarlier (Numbered later tuple) s.window
      rises = used_earlier number later tuples tuple s (omega (arith, above)) h.along.used

      pub passed_front : front ≡ lines_before a.schedule p whole number
      passed_front =
          front_came (Numbered later tuple) m drawn kept front notes came rises
          ∙ ap lines_of (front_is p machine.reported watch a.along.draws.number s h.watched.number_is h.watched.state_is (Numbered later tuple) number (used_window number tuples s some h.along.used) (lt-ltb number later above) (stands (Numbered later tuple) rises) (stands End end_rises))
          ∙ sym (before_last a.schedule p closed number tuples some rising)

      pub passed : IsWatched machine m drawn kept (after_windows a.schedule p (all_of later whole (tuple ∷ [])))
      passed =
          subst (IsWatched machine m drawn kept) (ap (λ (windows : List Window). watch_on (works_of p) (after_windows a.schedule p windows) (Numbered later tuple)) (all_of_some number closed tuples some) ∙ sym (after_more a.schedule p whole later [] tuple))
          (watched_came (Numbered later tuple) m drawn kept front notes came rises)

    -- the end
    module _ (m : M) (drawn : ℕ) (kept front : List ℕ) (notes : List Note) (came : Came End m drawn kept front notes) where
      pub ended_front : front ≡ lines_before a.schedule p whole number
      ended_front = front_came End m drawn kept front notes came end_rises ∙ sym (before_last a.schedule p closed number tuples some rising)

      pub ended : kept ≡ lines_after a.schedule p whole
      ended =
          kept_came End m drawn kept front notes came end_rises
          ∙ ap (λ (windows : List Window). lines_of (watch_on (works_of p) (after_windows a.schedule p windows) End).since) (all_of_some number closed tuples some)

-- ---- where the records end

-- a machine to which nothing was given is done where the end comes
idle_end : (w : Works) (x : ℕ) (s : State) → s.window ≡ Idle → s.waiting ≡ None → turns_on w x s End ≡ no_turn x (given s End)
idle_end w x s window waiting =
    still_turns w (work w (given s End) []) x (given s End)
    (ap (λ (at : At). is_idle (window_from {Tuple = List ℕ} at End) && is_none s.waiting) window ∙ ap (λ (o : Option Answers). is_none o) waiting)

module _ {M : Type 0} (machine : MachineOf M) (a : Traced M) (closed : List Window) where
  none_more : (number : ℕ) → IsAtWork machine a closed number [] → a.lines.items ≡ lines_after a.schedule (plan_of a.along) closed
  none_more number h =
      let w : Works = works_of (plan_of a.along) in
      let watch : Watch = after_windows a.schedule (plan_of a.along) closed in
      let idle = h.along.used in
      h.watched.lines_are
      ∙ sym (ap (λ (r : Turns). lines_of (parted watch.since r.events).1)
      (idle_end w watch.number watch.state (ap (λ (s : State). s.window) h.watched.state_is ∙ idle.1) (ap (λ (s : State). s.waiting) h.watched.state_is ∙ h.along.fed.taken)))

  pub last_lines_are : Closed (IsIdle machine a) (IsAtWork machine a) closed → a.lines.items ≡ lines_after a.schedule (plan_of a.along) closed
  last_lines_are (inl idle) = idle.lines
  last_lines_are (inr at) = none_more at.0 at.1

  pub all_sent : Closed (IsIdle machine a) (IsAtWork machine a) closed → a.along.emitted ≡ reported_emitted_in machine.reported (plan_of a.along) closed
  all_sent (inl idle) = all_emitted machine a.along closed (inl idle.along)
  all_sent (inr at) = all_emitted machine a.along closed (inr (at.0, (at.1).along))
