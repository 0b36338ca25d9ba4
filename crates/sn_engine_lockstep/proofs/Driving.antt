-- A driver of a plan, from one window to the next, over plain values.
use Rattle.std.proofs.Common.{◌≡◌, ℕ, List, [], ◌∷◌, ◌++◌, map, length, Option, None, Some, refl, ap, sym, ◌∙◌, subst}
use Rattle.std.specs.List.{AllByRecursion}
use Rattle.std.proofs.lemmas.List.{map-append}
use Rattle.sn_emit.specs.declared.sender.Sender.{Sender}
use Rattle.sn_emit.specs.Plans.{AreLanesOf, Placed, pieces_from}
use Rattle.sn_emit.specs.declared.tables.Tables.{Tables}
use Rattle.sn_engine.specs.declared.intake.Intake.{Intake}
use Rattle.sn_plan_fit.specs.Fits.{AreEntriesOf}
use Rattle.sn_plan_grammar.specs.declared.plan.Entry.{Entry}
use Rattle.sn_refine.specs.Steps.{Set, windows_of}
use Rattle.sn_types.specs.declared.answers.Answers.{Answers}
use Rattle.sn_types.specs.declared.typed_query.TypedQuery.{TypedQuery}
use Rattle.sn_types.specs.Typed.{HasWidths}
use Rattle.sn_engine_lockstep.specs.declared.driver.Driver.{Driver}
use Rattle.sn_engine_lockstep.specs.Driving.{IsDriverOf}
use Rattle.sn_engine_lockstep.specs.Known.{AreKnown, last_from}
use Rattle.sn_engine_lockstep.specs.Sources.{kept_in, source_of, sources_of}
use Rattle.sn_engine_lockstep.specs.Windows.{answers_from, plan_answers, window_answers}
use Rattle.sn_engine_lockstep.specs.Work.{AreAtWork, AreIdle, Recalls}
use Rattle.sn_engine_lockstep.proofs.Beginning.{sources_are}
use Rattle.sn_engine_lockstep.proofs.Laws.{Closed, Emptied, Recalled, all_windows, made_known, window_is}
use Rattle.sn_windows.specs.Rising.{AreRising, Window}

module _ (queries : List TypedQuery) (tables : Tables) (entries : List Entry) (d : Driver) (h : IsDriverOf queries entries d) where
  abbrev pieces : List Placed
  pieces = pieces_from 0 entries

  pub driver_after : (later : Driver) → later.engine.t.queries ≡ d.engine.t.queries → later.sources ≡ d.sources → length later.emitter ≡ length d.emitter → IsDriverOf queries entries later
  driver_after later same sources count = record {
    typed_for = h.typed_for;
    typed = h.typed;
    entries = h.entries;
    can = h.can;
    queries = same ∙ h.queries;
    sources = sources ∙ h.sources;
    many = ap length sources ∙ h.many ∙ sym count;
  }

  pub known_of : AreKnown d.engine.t.queries d.sources
  known_of = subst (AreKnown d.engine.t.queries) (sym h.sources) (subst (λ (qs : List TypedQuery). AreKnown qs (sources_of 0 entries)) (sym h.queries) (made_known queries entries h.can))

  -- a window is begun
  pub begun_at : (last : Option Answers) (number : ℕ) (senders : List Sender) (intakes : List Intake) → AreIdle queries tables pieces d.emitter d.engine.lanes.items
      → ((n : Tables) (xs : List Placed) → d.sources ≡ map source_of xs → AreIdle d.engine.t.queries n xs d.emitter d.engine.lanes.items → AreAtWork d.engine.t.queries n xs (kept_in d.engine.t.queries last number) [] senders intakes)
      → AreAtWork queries tables pieces (kept_in queries last number) [] senders intakes
  begun_at last number senders intakes idle f =
      subst (λ (qs : List TypedQuery). AreAtWork qs tables pieces (kept_in qs last number) [] senders intakes) h.queries
      (f tables pieces (h.sources ∙ sources_are 0 entries) (subst (λ (qs : List TypedQuery). AreIdle qs tables pieces d.emitter d.engine.lanes.items) (sym h.queries) idle))

  module _ (last : Option Answers) (number : ℕ) (tuples : List (List ℕ)) (widths : AllByRecursion HasWidths tuples) (work : AreAtWork queries tables pieces (kept_in queries last number) tuples d.emitter d.engine.lanes.items) where
    -- it is closed
    pub answers_are : (a : Answers) → a.window ≡ number → Recalls queries pieces last d.engine.closed d.engine.kept
        → Closed d.engine.t.queries number d.engine.closed d.engine.kept d.emitter d.engine.lanes.items a → a ≡ window_answers queries tables entries (kept_in queries last number) number tuples
    answers_are a is recalls closed =
        let f : Closed queries number d.engine.closed d.engine.kept d.emitter d.engine.lanes.items a =
        subst (λ (qs : List TypedQuery). Closed qs number d.engine.closed d.engine.kept d.emitter d.engine.lanes.items a) h.queries closed in
        let found = f h.typed_for tables pieces (kept_in queries last number) tuples h.typed h.can widths work in
        window_is h.typed_for tables number queries entries (kept_in queries last number) tuples a h.typed h.entries h.can widths is found.0 (found.1 (recalls number))

    -- the engine keeps what it answered
    pub recalls_after : (a : Answers) (closed : Option ℕ) (sets : List Set) → Recalled d.engine.t.queries d.emitter d.engine.lanes.items closed sets a → Recalls queries pieces (Some a) closed sets
    recalls_after a closed sets recalled =
        let f : Recalled queries d.emitter d.engine.lanes.items closed sets a = subst (λ (qs : List TypedQuery). Recalled qs d.emitter d.engine.lanes.items closed sets a) h.queries recalled in
        f h.typed_for tables pieces (kept_in queries last number) tuples h.typed h.can widths work

    pub idle_after : (senders : List Sender) (intakes : List Intake) → AreLanesOf queries tables pieces d.emitter → Emptied d.engine.t.queries d.emitter d.engine.lanes.items senders intakes → AreIdle queries tables pieces senders intakes
    idle_after senders intakes lanes emptied =
        let f : Emptied queries d.emitter d.engine.lanes.items senders intakes = subst (λ (qs : List TypedQuery). Emptied qs d.emitter d.engine.lanes.items senders intakes) h.queries emptied in
        f h.typed_for tables pieces (kept_in queries last number) tuples h.typed h.can widths work lanes

-- ---- the last one

module _ {X : Type 0} where
  abbrev pub end_of : X → List X → X
  end_of d [] = d
  end_of d (a ∷ xs) = end_of a xs

  pub end_is : (d : X) (xs : List X) (x : X) → end_of d (xs ++ x ∷ []) ≡ x
  end_is d [] x = refl
  end_is d (a ∷ xs) x = end_is a xs x

pub last_is : (before : Option Answers) (xs : List Answers) (x : Answers) → last_from before (xs ++ x ∷ []) ≡ Some x
last_is before [] x = refl
last_is before (a ∷ xs) x = last_is (Some a) xs x

module _ (queries : List TypedQuery) (tables : Tables) (entries : List Entry) where
  -- the answers of one window more
  abbrev pub answers_next : List Window → ℕ → List (List ℕ) → Answers
  answers_next closed number tuples = window_answers queries tables entries (kept_in queries (last_from None (answers_from queries tables entries None closed)) number) number tuples

  pub one_more : (last : Option Answers) (closed : List Window) (number : ℕ) (tuples : List (List ℕ))
      → answers_from queries tables entries last (closed ++ (number, tuples) ∷ [])
      ≡ answers_from queries tables entries last closed ++ window_answers queries tables entries (kept_in queries (last_from last (answers_from queries tables entries last closed)) number) number tuples ∷ []
  one_more last [] number tuples = refl
  one_more last (w ∷ closed) number tuples =
      let first : Answers = window_answers queries tables entries (kept_in queries last w.0) w.0 w.1 in
      ap (λ (xs : List Answers). first ∷ xs) (one_more (Some first) closed number tuples)

  pub last_more : (closed : List Window) (number : ℕ) (tuples : List (List ℕ)) → last_from None (answers_from queries tables entries None (closed ++ (number, tuples) ∷ [])) ≡ Some (answers_next closed number tuples)
  last_more closed number tuples = ap (last_from None) (one_more None closed number tuples) ∙ last_is None (answers_from queries tables entries None closed) (answers_next closed number tuples)

  -- they are the answers along the plan
  pub next_right : (closed : List Window) (number : ℕ) (tuples : List (List ℕ)) → AreEntriesOf queries entries → AreRising None (closed ++ (number, tuples) ∷ [])
      → answers_next closed number tuples ≡ plan_answers queries tables entries (windows_of (closed ++ (number, tuples) ∷ [])) number
  next_right closed number tuples h rising =
      let all : List Window = closed ++ (number, tuples) ∷ [] in
      let right : Window → Answers = λ g. plan_answers queries tables entries (windows_of all) g.0 in
      let now : Answers = answers_next closed number tuples in
      let e : answers_from queries tables entries None closed ++ now ∷ [] ≡ map right closed ++ right (number, tuples) ∷ [] =
      sym (one_more None closed number tuples) ∙ all_windows queries tables entries all h rising ∙ map-append right closed ((number, tuples) ∷ []) in
      sym (end_is now (answers_from queries tables entries None closed) now) ∙ ap (end_of now) e ∙ end_is now (map right closed) (right (number, tuples))
