-- A plan whose machine is given tuple after tuple, over plain values.
use Rattle.std.proofs.Common.{◌≡◌, ℕ, ◌+◌, ◌<◌, List, [], ◌∷◌, ◌++◌, map, Option, None, Some, inl, inr, true, refl, ap, sym, subst, ◌∙◌, arith}
use Rattle.std.specs.Prelude.{◌≤◌, is_none, length}
use Rattle.std.specs.List.{AllByRecursion}
use Rattle.sn_base.proofs.Lists.{all_append, all_weaker}
use Rattle.sn_command_capture.proofs.RisingLemmas.{rising_next}
use Rattle.sn_command_capture.specs.Gathering.{all_of}
use Rattle.sn_command_capture.specs.Wording.{Closed}
use Rattle.sn_core.specs.Due.{due}
use Rattle.sn_core.specs.Needs.{is_done, wants}
use Rattle.sn_core.specs.Standing.{IsNet, IsNoEarlier}
use Rattle.sn_core.specs.Workings.{AreLawful}
use Rattle.sn_core.specs.declared.supply.Supply.{Supply}
use Rattle.sn_core.specs.declared.supply.Supply.TheVariants.{Numbered, End}
use Rattle.sn_core.specs.declared.supply.Window.TheVariants.{Begun}
use Rattle.sn_core_drive.specs.Telling.{IsSortedPart, Tells}
use Rattle.sn_core_drive.specs.declared.machine.Machine.{Ghosts as MachineOf}
use Rattle.sn_gen.specs.declared.draws.Draws.{Draws}
use Rattle.sn_core_net.specs.States.{State, Works}
use Rattle.sn_out.specs.Text.{IsPartOf}
use Rattle.sn_types.specs.declared.answers.Answers.{Answers}
use Rattle.sn_types.specs.declared.answers.Part.{Part}
use Rattle.sn_types.specs.declared.typed_query.TypedQuery.{TypedQuery}
use Rattle.sn_types.specs.Typed.{HasWidths}
use Rattle.sn_engine_lockstep.specs.Sources.{kept_in}
use Rattle.sn_command_run.specs.declared.along.Along.{Along}
use Rattle.sn_engine_lockstep.specs.Known.{last_from}
use Rattle.sn_command_run.specs.Along.{IsAtHand, IsFed, IsIdle, IsSound, IsUsed, Owes, last_of, plan_of, sent_in, supplies_of, reported_of}
use Rattle.sn_command_run.specs.Planned.{Planned, Telling, reported_at, reported_emitted_in}
use Rattle.sn_command_run.proofs.AlongLemmas.{next_answers, next_right, rising_again, rising_front, sent_more, sent_right}
use Rattle.sn_command_run.proofs.MachineLemmas.{end_reported, found_is, tuple_owes, tuple_reported}
use Rattle.sn_command_run.proofs.PartLemmas.{parts_fit}
use Rattle.sn_windows.specs.Rising.{AreRising, Window}

-- ---- windows

all_of_some : (number : ℕ) (closed : List Window) (tuples : List (List ℕ)) → 0 < length tuples → all_of number closed tuples ≡ closed ++ (number, tuples) ∷ []
all_of_some number closed [] lt = absurd (omega arith)
all_of_some number closed (t ∷ ts) lt = refl

all_of_more : (number : ℕ) (closed : List Window) (tuples : List (List ℕ)) (tuple : List ℕ) → all_of number closed (tuples ++ tuple ∷ []) ≡ closed ++ (number, tuples ++ tuple ∷ []) ∷ []
all_of_more number closed [] tuple = refl
all_of_more number closed (t ∷ ts) tuple = refl

sound_more : (closed : List Window) (number : ℕ) (tuples : List (List ℕ)) (tuple : List ℕ) → AllByRecursion IsSound (all_of number closed tuples) → HasWidths tuple → AllByRecursion IsSound (closed ++ (number, tuples ++ tuple ∷ []) ∷ [])
sound_more closed number [] tuple h width = all_append IsSound closed ((number, tuple ∷ []) ∷ []) h (record { some = omega arith; widths = (width, tt) }, tt)
sound_more closed number (t ∷ ts) tuple h width = again closed h
  where
    again : (ws : List Window) → AllByRecursion IsSound (ws ++ (number, t ∷ ts) ∷ []) → AllByRecursion IsSound (ws ++ (number, (t ∷ ts) ++ tuple ∷ []) ∷ [])
    again [] k = (record { some = omega arith; widths = all_append HasWidths (t ∷ ts) (tuple ∷ []) k.0.widths (width, tt) }, tt)
    again (w ∷ ws) k = (k.0, again ws k.1)

used_more : (number : ℕ) (tuples : List (List ℕ)) (tuple : List ℕ) (s : State) → (s.held ≡ None) × (s.window ≡ Begun number) → IsUsed number (tuples ++ tuple ∷ []) s
used_more number [] tuple s h = h
used_more number (t ∷ ts) tuple s h = h

pub used_wants : (number : ℕ) (tuples : List (List ℕ)) (s : State) → IsUsed number tuples s → wants s ≡ true
used_wants number [] s h = ap (λ (o : Option (Supply (List ℕ))). is_none o) h.0
used_wants number (t ∷ ts) s h = ap (λ (o : Option (Supply (List ℕ))). is_none o) h.0

pub used_earlier : (number later : ℕ) (tuples : List (List ℕ)) (tuple : List ℕ) (s : State) → number ≤ later → IsUsed number tuples s → IsNoEarlier (Numbered later tuple) s.window
used_earlier number later [] tuple s le h = subst (IsNoEarlier (Numbered later tuple)) (sym h.1) tt
used_earlier number later (t ∷ ts) tuple s le h = subst (IsNoEarlier (Numbered later tuple)) (sym h.1) le

pub used_end : (number : ℕ) (tuples : List (List ℕ)) (s : State) → IsUsed number tuples s → IsNoEarlier {Tuple = List ℕ} End s.window
used_end number [] s h = subst (IsNoEarlier {Tuple = List ℕ} End) (sym h.1) tt
used_end number (t ∷ ts) s h = subst (IsNoEarlier {Tuple = List ℕ} End) (sym h.1) tt

last_sound : (closed : List Window) (number : ℕ) (tuples : List (List ℕ)) → AllByRecursion IsSound (closed ++ (number, tuples) ∷ []) → AllByRecursion HasWidths tuples
last_sound [] number tuples h = h.0.widths
last_sound (w ∷ ws) number tuples h = last_sound ws number tuples h.1

-- ---- answers

pub one_reported : (a b : Answers) (o : Option Answers) (found : List Answers) → o ≡ last_from None found → o ≡ Some a → found ≡ b ∷ [] → a ≡ b
one_reported a b o found is some one = some_is a b (sym some ∙ is ∙ ap (last_from None) one)
  where
    some_is : (x y : Answers) → Some x ≡ Some y → x ≡ y
    some_is x y e = cc

pub none_reported : (b : Answers) (o : Option Answers) (found : List Answers) → o ≡ last_from None found → o ≡ None → found ≡ b ∷ [] → ⊥
none_reported b o found is none one = no b (sym none ∙ is ∙ ap (last_from None) one)
  where
    no : (x : Answers) → None ≡ Some x → ⊥
    no x e = cc

module _ {M : Type 0} (machine : MachineOf M) (a : Along M) where
  abbrev p : Planned
  p = plan_of a

  abbrev reported : Telling
  reported = machine.reported

  abbrev s : State
  s = machine.state a.machine

  abbrev with_machine : M → Draws → ℕ → Along M
  with_machine m d emitted = record { alloc = a.alloc; typed = a.typed; plan = a.plan; tables = a.tables; machine = m; draws = d; form = a.form; emitted = emitted }

  -- what a machine found that was given one supply more
  pub record Found (next : Supply (List ℕ)) (found : List Answers) (m : M) : Type 0 where
    pub works : machine.works m ≡ machine.works a.machine
    pub stands : IsNet (machine.works a.machine) (machine.state m)
    pub taken : (machine.state m).waiting ≡ None
    pub moves : (following : List (Supply (List ℕ))) → map reported (due (machine.works a.machine) s (next ∷ following)) ≡ found ++ map reported (due (machine.works a.machine) (machine.state m) following)

  fed_more : {given closed : List Window} (before taken : List Window) → IsFed machine a before taken → (m : M) (d : Draws) (emitted : ℕ) {next : Supply (List ℕ)} {found : List Answers} → Found next found m
      → AllByRecursion IsSound given → Owes (machine.works a.machine) reported p (supplies_of given) (reported_of reported p closed) (machine.state m) → emitted ≡ sent_in reported p closed → IsFed machine (with_machine m d emitted) given closed
  fed_more {given} {closed} before taken h m d emitted f sound owes sent = record {
    typed_for = h.typed_for;
    typed = h.typed;
    entries = h.entries;
    stands = subst (λ (w : Works). IsNet w (machine.state m)) (sym f.works) f.stands;
    taken = f.taken;
    sound = sound;
    owes = subst (λ (w : Works). Owes w reported p (supplies_of given) (reported_of reported p closed) (machine.state m)) (sym f.works) owes;
    emitted = sent;
  }

  -- a tuple of the current window was given
  pub given_hand : (closed : List Window) (number : ℕ) (tuples : List (List ℕ)) (tuple : List ℕ) (found : List Answers) (m : M) (d : Draws) → IsAtHand machine a closed number tuples → HasWidths tuple → Found (Numbered number tuple) found m
      → ((machine.state m).held ≡ None) × ((machine.state m).window ≡ Begun number) → IsAtHand machine (with_machine m d a.emitted) closed number (tuples ++ tuple ∷ [])
  given_hand closed number tuples tuple found m d h width f used =
      let now : List Window = closed ++ (number, tuples ++ tuple ∷ []) ∷ [] in
      let sound : AllByRecursion IsSound now = sound_more closed number tuples tuple h.fed.sound width in
      let owes = tuple_owes (machine.works a.machine) reported p closed number tuples tuple (reported_of reported p closed) found s (machine.state m) h.fed.entries (rising_again None closed number [] (tuples ++ tuple ∷ []) h.rising) sound
      h.fed.owes f.moves used.0 used.1 f.taken in
      record {
        fed = subst (λ (given : List Window). IsFed machine (with_machine m d a.emitted) given closed) (sym (all_of_more number closed tuples tuple)) (fed_more (all_of number closed tuples) closed h.fed m d a.emitted f sound owes h.fed.emitted);
        used = used_more number tuples tuple (machine.state m) used;
        rising = h.rising;
      }

  module _ (closed : List Window) (at_hand : ℕ) (tuples : List (List ℕ)) (some : 0 < length tuples) (h : IsAtHand machine a closed at_hand tuples) where
    abbrev whole : List Window
    whole = closed ++ (at_hand, tuples) ∷ []

    abbrev next : Answers
    next = next_answers p closed at_hand tuples

    rising : AreRising None whole
    rising = rising_again None closed at_hand [] tuples h.rising

    sound : AllByRecursion IsSound whole
    sound = subst (AllByRecursion IsSound) (all_of_some at_hand closed tuples some) h.fed.sound

    owes : Owes (machine.works a.machine) reported p (supplies_of whole) (reported_of reported p closed) s
    owes = subst (λ (given : List Window). Owes (machine.works a.machine) reported p (supplies_of given) (reported_of reported p closed) s) (all_of_some at_hand closed tuples some) h.fed.owes

    -- the answers of the current window
    pub answers_right : reported next ≡ reported_at reported p whole at_hand
    answers_right = ap reported (next_right p closed at_hand tuples h.fed.entries rising)

    pub answers_fit : ((queries : List TypedQuery) (answers : Answers) → Tells queries answers (reported answers)) → AllByRecursion (IsPartOf a.typed.queries) (reported next).parts
    answers_fit tells =
        all_weaker (IsSortedPart a.typed.queries) (IsPartOf a.typed.queries) (λ (x : Part) (part : IsSortedPart a.typed.queries x). part.part) (reported next).parts
        ((tells a.typed.queries next).rows (parts_fit h.fed.typed_for a.typed.queries h.fed.typed tuples (last_sound closed at_hand tuples sound) (kept_in a.typed.queries (last_of p closed) at_hand) a.plan.entries h.fed.entries))

    sent : (emitted : ℕ) → emitted ≡ a.emitted + (reported next).emitted → emitted ≡ sent_in reported p whole
    sent emitted is = is ∙ ap (λ (n : ℕ). n + (reported next).emitted) h.fed.emitted ∙ sym (sent_more p reported closed at_hand tuples)

    -- a tuple of a later window was given
    module _ (number : ℕ) (tuple : List ℕ) (above : at_hand < number) (width : HasWidths tuple) (found : List Answers) (m : M) (f : Found (Numbered number tuple) found m) (used : ((machine.state m).held ≡ None) × ((machine.state m).window ≡ Begun number)) where
      begins : AreRising None (whole ++ (number, []) ∷ [])
      begins = rising_next closed at_hand number tuples [] rising above

      starts : AreRising None (whole ++ (number, tuple ∷ []) ∷ [])
      starts = rising_next closed at_hand number tuples (tuple ∷ []) rising above

      more : AllByRecursion IsSound (whole ++ (number, tuple ∷ []) ∷ [])
      more = sound_more whole number [] tuple sound width

      pub pass_found : found ≡ reported next ∷ []
      pass_found =
          found_is (machine.works a.machine) reported p closed at_hand tuples found
          (tuple_reported (machine.works a.machine) reported p whole number [] tuple (reported_of reported p closed) found s (machine.state m) h.fed.entries starts more owes f.moves used.0 used.1 f.taken)

      pub pass_hand : (d : Draws) (emitted : ℕ) → emitted ≡ a.emitted + (reported next).emitted → IsAtHand machine (with_machine m d emitted) whole number (tuple ∷ [])
      pass_hand d emitted is = record {
        fed = fed_more (all_of at_hand closed tuples) closed h.fed m d emitted f more
            (tuple_owes (machine.works a.machine) reported p whole number [] tuple (reported_of reported p closed) found s (machine.state m) h.fed.entries starts more owes f.moves used.0 used.1 f.taken) (sent emitted is);
        used = used;
        rising = begins;
      }

    -- the end was given
    module _ (law : AreLawful (machine.works a.machine)) (found : List Answers) (m : M) (f : Found End found m) (done : is_done (machine.state m) ≡ true) where
      pub end_found : found ≡ reported next ∷ []
      end_found =
          found_is (machine.works a.machine) reported p closed at_hand tuples found
          (end_reported (machine.works a.machine) reported p law whole (reported_of reported p closed) found s (machine.state m) h.fed.entries rising sound owes f.moves done)

      pub end_idle : (d : Draws) (emitted : ℕ) → emitted ≡ a.emitted + (reported next).emitted → IsIdle machine (with_machine m d emitted) whole
      end_idle d emitted is = record { entries = h.fed.entries; emitted = sent emitted is; rising = rising }

  -- the items of all windows
  pub all_emitted : (closed : List Window) → Closed (IsIdle machine a) (IsAtHand machine a) closed → a.emitted ≡ reported_emitted_in reported p closed
  all_emitted closed (inl idle) = idle.emitted ∙ sent_right p reported closed idle.entries idle.rising
  all_emitted closed (inr at) = let h = at.1 in h.fed.emitted ∙ sent_right p reported closed h.fed.entries (rising_front None closed ((at.0, []) ∷ []) h.rising)
