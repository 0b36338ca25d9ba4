-- Runs: what they note, and what is due after them.
use Rattle.std.proofs.Common.{◌≡◌, ℕ, List, [], ◌∷◌, ◌++◌, map, true, false, Option, None, Some, refl, ap, sym, ◌∙◌, subst, append_assoc, append-nil}
use Rattle.std.specs.Option.{option_map}
use Rattle.sn_base.proofs.Lists.{none_some, some_same, none_is as is_none_none}
use Rattle.sn_core.proofs.DueKept.{event_keeps_due, give_keeps_due}
use Rattle.sn_core.proofs.StandingKept.{event_keeps_net, take_keeps_net}
use Rattle.sn_core.specs.Due.{due}
use Rattle.sn_core.specs.Events.{after_event, given, without_answers}
use Rattle.sn_core.specs.Needs.{first_need_that_fails, wants}
use Rattle.sn_core.specs.Standing.{IsNet}
use Rattle.sn_core.specs.Workings.{AreLawful}
use Rattle.sn_core.specs.declared.event.Event.{Event}
use Rattle.sn_core.specs.declared.supply.Supply.{Supply}
use Rattle.sn_gen.specs.Generated.{drawn, next_number}
use Rattle.sn_core_net.specs.States.{State, Works}
use Rattle.sn_types.specs.declared.answers.Answers.{Answers}
use Rattle.sn_core_drive.specs.Schedules.{IsRun, Leads, answers_in, events_of, is_still, may_happen, picked}
use Rattle.sn_core_drive.specs.declared.note.Note.{Note}
use Rattle.sn_core_drive.specs.declared.note.Note.TheVariants.{Happened, Reported}
use Rattle.sn_core_drive.proofs.Listing.{got_passes}

pub picked_may : (s : State) (draw : ℕ) (event : Event) → picked s draw ≡ Some event → first_need_that_fails s event ≡ None
picked_may s draw event e = is_none_none (first_need_that_fails s event) (got_passes (may_happen s) (events_of _) _ event e)

-- ---- what leads from one state to another

module _ (w : Works) (reported : Answers → Answers) where
  pub event_leads : (x y : ℕ) (s before after : State) (notes more : List Note) (event : Event) → Leads w reported x s notes y before → before.waiting ≡ None → is_still before ≡ false → picked before (drawn (next_number y)) ≡ Some event →
      after ≡ after_event w before event → more ≡ notes ++ Happened event ∷ [] → Leads w reported x s more (next_number y) after
  event_leads x y s before after notes more event leads taken going pick is noted = λ later z u run.
      subst (λ (ns : List Note). IsRun w reported x s (ns ++ later) z u) (sym noted)
      (subst (λ (ns : List Note). IsRun w reported x s ns z u) (sym (append_assoc notes (Happened event ∷ []) later))
      (leads (Happened event ∷ later) z u (taken, going, pick, subst (λ (t : State). IsRun w reported (next_number y) t later z u) is run)))

  pub reported_leads : (x y : ℕ) (s before after : State) (notes more : List Note) (answers : Answers) → Leads w reported x s notes y before → Some answers ≡ option_map reported before.waiting → after ≡ without_answers before →
      more ≡ notes ++ Reported answers ∷ [] → Leads w reported x s more y after
  reported_leads x y s before after notes more answers leads waits is noted = λ later z u run.
      subst (λ (ns : List Note). IsRun w reported x s (ns ++ later) z u) (sym noted)
      (subst (λ (ns : List Note). IsRun w reported x s ns z u) (sym (append_assoc notes (Reported answers ∷ []) later))
      (leads (Reported answers ∷ later) z u (found before.waiting refl waits, subst (λ (t : State). IsRun w reported y t later z u) is run)))
    where
      found : (o : Option Answers) → before.waiting ≡ o → Some answers ≡ option_map reported o → (a : Answers) × (before.waiting ≡ Some a) × (answers ≡ reported a)
      found None e none = absurd (none_some (sym none))
      found (Some a) e same = (a, e, some_same answers (reported a) same)

  pub none_leads : (x y : ℕ) (s before after : State) (notes : List Note) → Leads w reported x s notes y before → None ≡ option_map reported before.waiting → after ≡ without_answers before → Leads w reported x s notes y after
  none_leads x y s before after notes leads none is = λ later z u run.
      leads later z u (subst (λ (t : State). IsRun w reported y t later z u) (is ∙ same before.waiting refl none) run)
    where
      same : (o : Option Answers) → before.waiting ≡ o → None ≡ option_map reported o → without_answers before ≡ before
      same None e h = ap (λ (waiting : Option Answers). record before { waiting = waiting }) (sym e)
      same (Some a) e h = absurd (none_some h)

  pub still_run : (x y : ℕ) (s t : State) (notes : List Note) → Leads w reported x s notes y t → t.waiting ≡ None → is_still t ≡ true → IsRun w reported x s notes y t
  still_run x y s t notes leads taken still = subst (λ (ns : List Note). IsRun w reported x s ns y t) (append-nil notes) (leads [] y t (taken, still, refl, refl))

  pub none_lead : (x : ℕ) (s : State) → Leads w reported x s [] x s
  none_lead x s = λ more z u run. run

pub same_leads : (w v : Works) (reported same : Answers → Answers) (x y : ℕ) (s t : State) (notes : List Note) → w ≡ v → reported ≡ same → Leads w reported x s notes y t → Leads v same x s notes y t
same_leads w v reported same x y s t notes works tells h =
    subst (λ (a : Works). Leads a same x s notes y t) works (subst (λ (f : Answers → Answers). Leads w f x s notes y t) tells h)

pub same_run : (w v : Works) (reported same : Answers → Answers) (x y : ℕ) (s one t : State) (notes : List Note) → w ≡ v → reported ≡ same → one ≡ s → IsRun w reported x one notes y t → IsRun v same x s notes y t
same_run w v reported same x y s one t notes works tells is h =
    subst (λ (a : Works). IsRun a same x s notes y t) works (subst (λ (f : Answers → Answers). IsRun w f x s notes y t) tells (subst (λ (r : State). IsRun w reported x r notes y t) is h))

-- ---- what is due

module _ (w : Works) (law : AreLawful w) (reported : Answers → Answers) where
  waiting_due : (s : State) (a : Answers) (following : List (Supply (List ℕ))) → s.waiting ≡ Some a → map reported (due w s following) ≡ reported a ∷ map reported (due w (without_answers s) following)
  waiting_due s a following e = ap (λ (o : Option Answers). map reported (due w (record s { waiting = o }) following)) e

  -- what was due before a run is what was reported in it, and then what is due after it
  pub run_due : (x : ℕ) (s : State) (notes : List Note) (y : ℕ) (t : State) (following : List (Supply (List ℕ))) → IsNet w s → IsRun w reported x s notes y t → map reported (due w s following) ≡ answers_in notes ++ map reported (due w t following)
  run_due x s [] y t following net run = ap (λ (u : State). map reported (due w u following)) (sym run.3)
  run_due x s (Happened event ∷ notes) y t following net run =
      let may = picked_may s (drawn (next_number x)) event run.2 in
      ap (map reported) (sym (event_keeps_due w law s event following net may))
      ∙ run_due (next_number x) (after_event w s event) notes y t following (event_keeps_net w law s event net may) run.3
  run_due x s (Reported answers ∷ notes) y t following net run =
      waiting_due s run.0.0 following run.0.1
      ∙ ap (λ (a : Answers). a ∷ map reported (due w (without_answers s) following)) (sym run.0.2)
      ∙ ap (λ (later : List Answers). answers ∷ later) (run_due x (without_answers s) notes y t following (take_keeps_net w law s net) run.1)

  pub supplied_due : (x : ℕ) (s : State) (next : Supply (List ℕ)) (notes : List Note) (y : ℕ) (t : State) (following : List (Supply (List ℕ))) → IsNet w s → wants s ≡ true → IsNet w (given s next) → IsRun w reported x (given s next) notes y t →
      map reported (due w s (next ∷ following)) ≡ answers_in notes ++ map reported (due w t following)
  supplied_due x s next notes y t following net want stands run =
      ap (map reported) (sym (give_keeps_due w law s next following net (is_none_none s.held want))) ∙ run_due x (given s next) notes y t following stands run
