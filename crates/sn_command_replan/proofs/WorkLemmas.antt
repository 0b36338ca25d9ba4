-- Windows that are answered along the plans of their epochs, over plain values.
use Rattle.std.proofs.Common.{◌≡◌, ℕ, zero, suc, ◌+◌, List, [], ◌∷◌, ◌++◌, Bool, true, false, cond, length, Option, None, Some, Result, Ok, Err, inl, inr, refl, ap, sym, ◌∙◌, subst, arith, length-append}
use Rattle.std.specs.List.{AllByRecursion}
use Rattle.sn_base.proofs.Lists.{all_weaker}
use Rattle.sn_command.specs.declared.fault.Fault.{Fault}
use Rattle.sn_command_capture.specs.Wording.{Closed}
use Rattle.sn_command_run.specs.Along.{last_of}
use Rattle.sn_command_run.specs.Planned.{Planned, answers_at, emitted_in}
use Rattle.sn_command_run.specs.TraceCausal.{up_to_front}
use Rattle.sn_command_run.specs.TraceWording.{up_to}
use Rattle.sn_command_run.proofs.AlongLemmas.{next_answers, next_right, rising_again}
use Rattle.sn_command_run.proofs.PartLemmas.{parts_fit}
use Rattle.sn_command_search.specs.declared.certificate.Certificate.{Certificate}
use Rattle.sn_command_replan.specs.Replan.{Followed, along, entries_of, epoch_text, epochs_of, last_block, planned_on, replan_wording, sent_in}
use Rattle.sn_command_replan.specs.Standing.{Current, Standing, after_in, going, heading_next, sent_by, sent_by_in, stands_after, turned, with_next, with_next_in}
use Rattle.sn_command_replan.specs.Working.{IsAnswered, IsAtHand, IsClosed, IsGoing, IsIdle, Stands, StandsIn, Work, followed, work_of}
use Rattle.sn_command_replan.specs.declared.replanning.Replanning.{Replanning}
use Rattle.sn_command_replan.proofs.BlockLemmas.{emitted_more, heading_is, last_is, sent_front}
use Rattle.sn_command_replan.proofs.StandingLemmas.{refused_is, spans_are, stands_next}
use Rattle.sn_core_drive.specs.Telling.{IsSortedPart}
use Rattle.sn_engine_lockstep.specs.Sources.{kept_in}
use Rattle.sn_out.specs.Text.{IsPartOf, block_text}
use Rattle.sn_plan_fit.specs.Fits.{AreEntriesOf}
use Rattle.sn_plan_grammar.specs.declared.plan.Entry.{Entry}
use Rattle.sn_replan.specs.Epochs.{Span, span}
use Rattle.sn_replan.specs.Running.{Runs, RestsIn, last_window}
use Rattle.sn_replan.specs.declared.epoch.Epoch.{Epoch}
use Rattle.sn_replan.specs.declared.epochs.Epochs.{Epochs}
use Rattle.sn_switch.specs.Texts.{IsSwitch}
use Rattle.sn_types.specs.declared.answers.Answers.{Answers}
use Rattle.sn_types.specs.declared.answers.Part.{Part}
use Rattle.sn_types.specs.declared.typed_query.TypedQuery.{TypedQuery}
use Rattle.sn_windows.specs.Rising.{AreRising, IsAbove, Window}
use Rattle.sn_emit.specs.declared.tables.Tables.{Tables}
use Rattle.sn_emit.specs.Plans.{tables_of}

none_some : {A : Type 0} (fault : Fault) → ◌≡◌ {A = Option Fault} None (Some fault) → A
none_some fault e = absurd cc

-- an epoch at work has windows that rise
pub runs_rising : (queries : List TypedQuery) (tables : Tables) (entries : List Entry) (windows : List Window) (e : Epochs) → Runs queries tables entries windows e → AreRising None windows
runs_rising queries tables entries windows e runs = of e.epoch runs
  where
    of : (o : Option Epoch) → RestsIn queries tables entries windows o → AreRising None windows
    of None none = absurd none
    of (Some epoch) rests = rests.rising

-- ---- a window is answered, or stops

pub record Going (w : Work) (front : List (Span Certificate)) (current : Result Current Fault) (number : ℕ) : Type 0 where
  pub c : Current
  pub is : current ≡ Ok c
  pub going : IsGoing w front c number

pub going_in : (w : Work) (front : List (Span Certificate)) (current : Result Current Fault) (number : ℕ) → StandsIn w front current number → w.refused ≡ None → Going w front current number
going_in w front (Ok c) number stands none = record { c = c; is = refl; going = stands }
going_in w front (Err fault) number stands none = none_some fault (sym none ∙ stands)

refused_in : (w : Work) (front : List (Span Certificate)) (current : Result Current Fault) (number : ℕ) (v : Window) (fault : Fault) → StandsIn w front current number → w.refused ≡ Some fault
    → (with_next_in front current v).refused ≡ Some fault
refused_in w front (Ok c) number v fault stands some = none_some fault (sym stands.none ∙ some)
refused_in w front (Err other) number v fault stands some = sym stands ∙ some

module _ (a : Replanning) (closed : List Window) (number : ℕ) (tuples : List (List ℕ)) (h : IsAtHand a closed number tuples) where
  abbrev f : Followed
  f = followed a

  abbrev s : Standing
  s = stands_after f closed

  abbrev v : Window
  v = (number, tuples)

  abbrev all : List Window
  all = closed ++ v ∷ []

  up : up_to number all ≡ all
  up = up_to_front None closed number tuples [] (rising_again None closed number [] tuples h.rising)

  stops_are : (replan_wording f).stops all number tuples ≡ (with_next s v).refused
  stops_are = ap (λ (ws : List Window). (epochs_of f ws).refused) up ∙ refused_is f closed v

  -- there is no plan for the window
  pub stops : (fault : Fault) → a.refused ≡ Some fault → (replan_wording f).stops all number tuples ≡ Some fault
  stops fault some = stops_are ∙ refused_in (work_of a) s.front s.current number v fault h.stands some

  module _ (none : a.refused ≡ None) where
    pub going_now : Going (work_of a) s.front s.current number
    going_now = going_in (work_of a) s.front s.current number h.stands none

    abbrev c : Current
    c = going_now.c

    abbrev p : Planned
    p = along f c.plan

    abbrev now : List Window
    now = c.before ++ v ∷ []

    -- there is one
    pub goes_on : (replan_wording f).stops all number tuples ≡ None
    goes_on = stops_are ∙ ap (λ (current : Result Current Fault). (with_next_in s.front current v).refused) going_now.is

    spans : (epochs_of f (up_to number all)).spans ≡ s.front ++ span c.plan now ∷ []
    spans = ap (λ (ws : List Window). (epochs_of f ws).spans) up ∙ spans_are f closed v ∙ ap (λ (current : Result Current Fault). (with_next_in s.front current v).spans) going_now.is

    pub block_is : (replan_wording f).block all number tuples ≡ a.heading ++ block_text f.queries (answers_at p now number) true
    block_is =
        ap (λ (xs : List (Span Certificate)). last_block f 0 xs number) spans
        ∙ last_is f s.front (span c.plan now) number
        ∙ ap (λ (text : List ℕ). text ++ block_text f.queries (answers_at p now number) true)
        (heading_is c.before v (length s.front) c.plan ∙ sym (going_now.going.heading ∙ ap (λ (n : ℕ). heading_next c.before n c.plan) going_now.going.count))

    module _ (answers : Answers) (rising : AreRising None now) (is : answers ≡ answers_at p now number) where
      -- its answers can be printed
      pub answers_fit : AllByRecursion (IsPartOf a.typed.queries) answers.parts
      answers_fit =
          let next : Answers = next_answers p c.before number tuples in
          subst (λ (x : Answers). AllByRecursion (IsPartOf a.typed.queries) x.parts) (next_right p c.before number tuples going_now.going.entries rising ∙ sym is)
          (all_weaker (IsSortedPart a.typed.queries) (IsPartOf a.typed.queries) (λ (x : Part) (part : IsSortedPart a.typed.queries x). part.part) next.parts
          (parts_fit a.typed.window_us a.typed.queries a.typed.typed tuples h.widths (kept_in a.typed.queries (last_of p c.before) number) c.plan.plan.entries going_now.going.entries))

      -- its items are counted
      pub sent_now : (emitted : ℕ) → emitted ≡ a.emitted + answers.emitted → emitted ≡ sent_in f (s.front ++ span c.plan now ∷ [])
      sent_now emitted sum =
          let before : a.emitted ≡ sent_in f s.front + emitted_in p c.before = h.sent ∙ ap (sent_by_in f s.front) going_now.is in
          let more : emitted_in p now ≡ emitted_in p c.before + (answers_at p now number).emitted = emitted_more p c.before number tuples going_now.going.entries rising in
          let own : answers.emitted ≡ (answers_at p now number).emitted = ap (λ (x : Answers). x.emitted) is in
          let whole = sent_front f s.front (span c.plan now) in
          omega arith

-- ---- after a window

heading_none : (before : List Window) (v : Window) (number : ℕ) (plan : Certificate) → heading_next (before ++ v ∷ []) number plan ≡ []
heading_none [] v zero plan = refl
heading_none [] v (suc number) plan = refl
heading_none (w ∷ ws) v zero plan = refl
heading_none (w ∷ ws) v (suc number) plan = refl

heading_new : (before number : ℕ) (plan : Certificate) → number ≡ before + 1 → heading_next [] number plan ≡ epoch_text number plan
heading_new before zero plan e = absurd (omega arith)
heading_new before (suc number) plan e = refl

module _ (f : Followed) (a : Replanning) (closed : List Window) (number : ℕ) (tuples : List (List ℕ)) where
  abbrev stood : Standing
  stood = stands_after f closed

  abbrev given : Window
  given = (number, tuples)

  module _ (over : Bool) (h : IsAnswered f a closed number tuples over) where
    abbrev done : List (Span Certificate)
    done = stood.front ++ span h.c.plan (h.c.before ++ given ∷ []) ∷ []

    after_it : stands_after f (closed ++ given ∷ []) ≡ cond over (turned done (planned_on f given)) (going stood.front h.c.plan (h.c.before ++ given ∷ []))
    after_it =
        stands_next f closed given
        ∙ ap (λ (current : Result Current Fault). after_in f stood.front current given) h.current
        ∙ ap (λ b. cond b (turned done (planned_on f given)) (going stood.front h.c.plan (h.c.before ++ given ∷ []))) (sym h.over_is)

    -- the last window comes to this
    pub idle_is : a.emitted ≡ sent_in f (epochs_of f (closed ++ given ∷ [])).spans
    idle_is =
        h.sent ∙ sym (ap (sent_in f) (spans_are f closed given ∙ ap (λ (current : Result Current Fault). (with_next_in stood.front current given).spans) h.current))

  -- it isn't over
  pub goes_further : IsAnswered f a closed number tuples false → IsClosed f a (closed ++ given ∷ []) number
  goes_further h =
      let now : List Window = h.c.before ++ given ∷ [] in
      let is = after_it false h in
      record {
        switch = h.switch;
        stands = λ later above. subst (λ (s : Standing). Stands (work_of a) s later) (sym is) (record {
          none = h.none;
          runs = h.runs;
          above = subst (λ (o : Option ℕ). IsAbove o later) (sym h.last) above;
          entries = h.entries;
          count = h.count;
          heading = h.heading ∙ sym (heading_none h.c.before given a.number h.c.plan);
        });
        sent = h.sent ∙ sent_front f stood.front (span h.c.plan now) ∙ sym (ap (sent_by f) is);
      }

  -- it is, and this was planned on it
  module _ (h : IsAnswered f a closed number tuples true) (b : Replanning) where
    abbrev past : List (Span Certificate)
    past = stood.front ++ span h.c.plan (h.c.before ++ given ∷ []) ∷ []

    turned_to : (verdict : Result Certificate Fault) → verdict ≡ planned_on f given → stands_after f (closed ++ given ∷ []) ≡ turned past verdict
    turned_to verdict is = after_it true h ∙ ap (turned past) (sym is)

    pub begins_next : (next : Certificate) → Ok next ≡ planned_on f given → IsSwitch b.limits → b.refused ≡ a.refused → b.emitted ≡ a.emitted → b.number ≡ a.number + 1
        → b.heading ≡ epoch_text b.number next → AreEntriesOf b.typed.queries (entries_of next) → Runs b.typed.queries (tables_of b.limits) (entries_of next) [] b.epochs → last_window b.epochs ≡ None
        → IsClosed f b (closed ++ given ∷ []) number
    begins_next next is switch refused emitted count heading entries runs last =
        let stands = turned_to (Ok next) is in
        let long : length past ≡ length stood.front + 1 = length-append stood.front (span h.c.plan (h.c.before ++ given ∷ []) ∷ []) in
        let own = h.count in
        record {
          switch = switch;
          stands = λ later above. subst (λ (s : Standing). Stands (work_of b) s later) (sym stands) (record {
            none = refused ∙ h.none;
            runs = runs;
            above = subst (λ (o : Option ℕ). IsAbove o later) (sym last) tt;
            entries = entries;
            count = omega arith;
            heading = heading ∙ sym (heading_new a.number b.number next count);
          });
          sent = emitted ∙ h.sent ∙ (let e : sent_in f past ≡ sent_in f past + 0 = omega arith in e) ∙ sym (ap (sent_by f) stands);
        }

    pub begins_none : (fault : Fault) → Err fault ≡ planned_on f given → IsSwitch b.limits → b.refused ≡ Some fault → b.emitted ≡ a.emitted → IsClosed f b (closed ++ given ∷ []) number
    begins_none fault is switch refused emitted =
        let stands = turned_to (Err fault) is in
        record {
          switch = switch;
          stands = λ later above. subst (λ (s : Standing). Stands (work_of b) s later) (sym stands) refused;
          sent = emitted ∙ h.sent ∙ sym (ap (sent_by f) stands);
        }

-- ---- the last lines

pub not_empty : {A : Type 0} (tuples : List (List ℕ)) (t : List ℕ) → tuples ++ t ∷ [] ≡ [] → A
not_empty [] t e = absurd cc
not_empty (u ∷ us) t e = absurd cc

pub all_sent : (a : Replanning) (closed : List Window) → Closed (IsIdle a) (IsAtHand a) closed → a.emitted ≡ sent_in (followed a) (epochs_of (followed a) closed).spans
all_sent a closed (inl idle) = idle
all_sent a closed (inr at) =
    let h = at.1 in
    let f : Followed = followed a in
    let none : closed ≡ [] = h.new refl in
    let zero : a.emitted ≡ sent_by f (stands_after f []) = subst (λ (ws : List Window). a.emitted ≡ sent_by f (stands_after f ws)) none h.sent in
    let first : sent_by f (stands_after f []) ≡ sent_in f (epochs_of f []).spans = refl in
    subst (λ (ws : List Window). a.emitted ≡ sent_in f (epochs_of f ws).spans) (sym none) (zero ∙ first)
