-- One window of several switches after another.
use Rattle.std.proofs.Common.{◌≡◌, ℕ, ◌+◌, ◌≤◌, List, [], ◌∷◌, ◌++◌, map, sum, length, Option, None, Some, Result, Ok, Err, false, ap, sym, ◌∙◌, subst, arith}
use Rattle.std.specs.List.{AllByRecursion}
use Rattle.std.specs.Result.{OnOk}
use Rattle.std.proofs.lemmas.List.{map-append}
use Rattle.std.proofs.lemmas.List.Sums.{sum_by-append, sum_by-cons}
use Rattle.sn_base.proofs.Lists.{all_rest, all_weaker}
use Rattle.sn_command_captures.proofs.AnswerLemmas.{all_rise}
use Rattle.sn_command_captures.specs.Answered.{Shared, windows_in}
use Rattle.sn_command_captures.specs.Counted.{left_of}
use Rattle.sn_command_captures.specs.Shares.{IsSound}
use Rattle.sn_command_captures.specs.declared.share.Share.{Share}
use Rattle.sn_command_many.proofs.GiveLemmas.{all_given}
use Rattle.sn_command_many.proofs.RiseLemmas.{IsNext, is_next, last_push}
use Rattle.sn_command_many.specs.Giving.{HasTaken, given_each}
use Rattle.sn_command_many.specs.Joining.{IsAfter, plan_of}
use Rattle.sn_command_many.specs.Together.{answers_in, emitted_at, emitted_in, held_in}
use Rattle.sn_command_many.specs.declared.joint.Joint.{Joint}
use Rattle.sn_command_run.proofs.PartLemmas.{parts_fit}
use Rattle.sn_core_drive.specs.Telling.{IsSortedPart}
use Rattle.sn_emit.specs.Making.{CanMake}
use Rattle.sn_emit.specs.Plans.{pieces_from}
use Rattle.sn_emit.specs.declared.tables.Tables.{Tables}
use Rattle.sn_engine_lockstep.proofs.Along.{window_right}
use Rattle.sn_engine_lockstep.specs.Sources.{kept_in}
use Rattle.sn_engine_lockstep.specs.Windows.{Follows, Remembers, parts_from, refined_from, window_of}
use Rattle.sn_engine_lockstep.specs.declared.source.Source.{Source}
use Rattle.sn_engine_many.proofs.Seen.{sent_right}
use Rattle.sn_engine_many.specs.Answers.{in_one, shared_sent}
use Rattle.sn_engine_many.specs.Phases.{AreBegun, AreBetween, is_begun, is_between}
use Rattle.sn_engine_many.specs.Switches.{no_tuples}
use Rattle.sn_engine_many.specs.declared.many.Many.{Many}
use Rattle.sn_engine_many.specs.declared.phase.Phase.{Phase}
use Rattle.sn_engine_many.specs.declared.phase.Phase.TheVariants.{Between, Begun}
use Rattle.sn_multi.specs.Branches.{together}
use Rattle.sn_out.specs.Text.{IsPartOf}
use Rattle.sn_plan_fit.specs.Fits.{AreEntriesOf}
use Rattle.sn_plan_grammar.specs.declared.plan.Entry.{Entry}
use Rattle.sn_refine.specs.Steps.{Set}
use Rattle.sn_types.specs.Typed.{HasWidths, IsTyped}
use Rattle.sn_types.specs.declared.answers.Answers.{Answers}
use Rattle.sn_types.specs.declared.answers.Part.{Part}
use Rattle.sn_types.specs.declared.typed_query.TypedQuery.{TypedQuery}
use Rattle.sn_windows.specs.Rising.{AreRising, IsAbove}
use Rattle.sn_windows.specs.Windows.{in_window}
use Rattle.sn_windows_together.proofs.MergeLemmas.{windows_step}
use Rattle.sn_windows_together.specs.Merging.{after_window, next_in}
use Rattle.sn_windows_together.specs.Together.{windows_of}

abbrev Captures : Type 0
Captures = List (List (List ℕ))

-- what holds whatever is answered holds of a success
pub on_ok : {X Y : Type 0} {P : Type 0} (r : Result X Y) → P → OnOk r P
on_ok (Ok x) h = h
on_ok (Err e) h = tt

pub between_isnt_begun : (phase : Phase) → phase ≡ Between → is_begun phase ≡ false
between_isnt_begun phase e = ap is_begun e

pub begun_isnt_between : (phase : Phase) (window : ℕ) → phase ≡ Begun window → is_between phase ≡ false
begun_isnt_between phase window e = ap is_between e

pub begun_same : (a b : ℕ) → ◌≡◌ {A = Phase} (Begun a) (Begun b) → a ≡ b
begun_same a b e = cc

-- what a window is begun as
abbrev pub Begins : Many → Many → ℕ → Type 0
Begins before now number = (queries : List TypedQuery) (tables : Tables) (entries : List Entry) → AreBetween queries tables entries before.last before.switches.items before.engine
    → AreBegun queries tables entries (kept_in queries before.last number) number (no_tuples before.switches.items) now.switches.items now.engine

-- what it is closed as
abbrev pub Closes : List TypedQuery → Many → Answers → Type 0
Closes queries before answers = (typed_for : ℕ) (tables : Tables) (entries : List Entry) (kept : Source → Set) (captures : Captures)
    → ∥ IsTyped typed_for queries ∥₁ → AreEntriesOf queries entries → AllByRecursion (CanMake queries) (pieces_from 0 entries) → AllByRecursion HasWidths (together captures)
    → AreBegun queries tables entries kept answers.window captures before.switches.items before.engine
    → (answers.emitted ≡ shared_sent queries tables (pieces_from 0 entries) kept captures) × (answers.parts ≡ parts_from queries kept (together captures) 0 entries)

abbrev pub Empties : List TypedQuery → Many → Answers → Many → Type 0
Empties queries before answers now = (typed_for : ℕ) (tables : Tables) (entries : List Entry) (kept : Source → Set) (captures : Captures)
    → ∥ IsTyped typed_for queries ∥₁ → AreEntriesOf queries entries → AllByRecursion (CanMake queries) (pieces_from 0 entries) → AllByRecursion HasWidths (together captures)
    → AreBegun queries tables entries kept answers.window captures before.switches.items before.engine
    → AreBetween queries tables entries (Some answers) now.switches.items now.engine

-- The switches were as these before the window of this number. It was begun, these tuples came, and it was closed, with these answers.
pub record WasClosed (a : Joint) (number : ℕ) (captures : Captures) (now : Many) (answers : Answers) : Type 0 where
  pub begun : Many
  pub taken : Many
  pub begins : Begins a.many begun number
  pub phase : begun.phase ≡ Begun number
  pub begun_count : length begun.switches.items ≡ length a.many.switches.items
  pub begun_queries : begun.engine.t.queries ≡ a.many.engine.t.queries
  pub came : HasTaken (given_each 0 captures) begun taken
  pub widths : AllByRecursion HasWidths (together captures)
  pub closes : Closes taken.engine.t.queries taken answers
  pub ends : taken.phase ≡ Begun answers.window
  pub empties : Empties taken.engine.t.queries taken answers now
  pub between : now.phase ≡ Between
  pub last : now.last ≡ Some answers
  pub count : length now.switches.items ≡ length taken.switches.items
  pub queries : now.engine.t.queries ≡ taken.engine.t.queries

-- the windows that are left begin with the next one
pub next_stands : (shares : List Share) (number : ℕ) (all done : List Shared) → AllByRecursion IsSound shares → next_in (map left_of shares) ≡ Some number → all ≡ done ++ windows_in shares
    → all ≡ done ++ (number, map (in_window number) (map left_of shares)) ∷ windows_of (map (after_window number) (map left_of shares))
next_stands shares number all done sound next parts = parts ∙ ap (λ (ws : List Shared). done ++ ws) (windows_step (map left_of shares) number (all_rise shares sound) next)

answers_same : (a b : Answers) → a.window ≡ b.window → a.emitted ≡ b.emitted → a.parts ≡ b.parts → a ≡ b
answers_same a b e f g = ap (λ n. made n a.emitted a.parts) e ∙ ap (λ n. made b.window n a.parts) f ∙ ap (made b.window b.emitted) g
  where
    made : ℕ → ℕ → List Part → Answers
    made window emitted parts = record { window = window; emitted = emitted; parts = parts }

-- One window: the switches were as they are here before it, it was begun, its tuples came, and it was closed.
module _ (a : Joint) (all done rest : List Shared) (number : ℕ) (captures : Captures) (h : IsAfter a all done) (whole : all ≡ done ++ (number, captures) ∷ rest) where
  abbrev window : Shared
  window = (number, captures)

  abbrev queries : List TypedQuery
  queries = a.typed.queries

  abbrev entries : List Entry
  entries = a.plan.entries

  abbrev kept : Source → Set
  kept = kept_in queries a.many.last number

  next : IsNext None done window rest
  next = is_next None done window rest (subst (λ (ws : List Shared). AreRising None (map in_one ws)) whole h.rises)

  holds : held_in all number ≡ Some (together captures)
  holds = ap (λ (ws : List Shared). held_in ws number) whole ∙ next.holds

  follows : Follows (held_in all) a.many.last number
  follows = record {
    above = subst (λ o. IsAbove o number) (sym h.last) next.above;
    none = λ v above lt. ap (λ (ws : List Shared). held_in ws v) whole ∙ next.none v (subst (λ o. IsAbove o v) h.last above) lt;
  }

  -- each switch has its own tuples
  pub as_many : length captures ≡ length a.many.switches.items
  as_many = (all_rest (λ (w : Shared). length w.1 ≡ length a.many.switches.items) done (window ∷ rest) (subst (AllByRecursion (λ (w : Shared). length w.1 ≡ length a.many.switches.items)) whole h.each)).0

  module _ {now : Many} {answers : Answers} (k : WasClosed a number captures now answers) where
    number_is : answers.window ≡ number
    number_is = sym (begun_same number answers.window (sym k.phase ∙ sym k.came.phase ∙ k.ends))

    all_came : AreBegun queries a.tables entries kept answers.window captures k.taken.switches.items k.taken.engine
    all_came =
        subst (λ (n : ℕ). AreBegun queries a.tables entries kept n captures k.taken.switches.items k.taken.engine) (sym number_is)
        (subst (λ (c : Captures). AreBegun queries a.tables entries kept number c k.taken.switches.items k.taken.engine) (all_given a.many.switches.items captures as_many)
        (k.came.work queries a.tables entries kept number (no_tuples a.many.switches.items) (k.begins queries a.tables entries h.between)))

    taken_queries : k.taken.engine.t.queries ≡ queries
    taken_queries = k.came.queries ∙ k.begun_queries ∙ h.queries

    found : (answers.emitted ≡ shared_sent queries a.tables (pieces_from 0 entries) kept captures) × (answers.parts ≡ parts_from queries kept (together captures) 0 entries)
    found = subst (λ (qs : List TypedQuery). Closes qs k.taken answers) taken_queries k.closes h.typed_for a.tables entries kept captures h.typed h.entries h.can k.widths all_came

    parts_along : answers.parts ≡ refined_from queries (held_in all) number 0 entries
    parts_along = found.1 ∙ ap (λ (x : Answers). x.parts) (window_right queries a.tables entries (held_in all) a.many.last number (together captures) h.entries holds follows h.remembers)

    -- its answers are those along the plan
    pub answers_right : answers ≡ answers_in (plan_of a) all window
    answers_right =
        answers_same answers (answers_in (plan_of a) all window) number_is
        (found.0 ∙ sent_right queries a.tables entries (held_in all) a.many.last number captures h.entries follows h.remembers) parts_along

    pub answers_fit : AllByRecursion (IsPartOf queries) answers.parts
    answers_fit =
        subst (AllByRecursion (IsPartOf queries)) (sym found.1)
        (all_weaker (IsSortedPart queries) (IsPartOf queries) (λ part mine. mine.part) (parts_from queries kept (together captures) 0 entries)
        (parts_fit h.typed_for queries h.typed (together captures) k.widths kept entries h.entries))

    -- and it is over
    pub window_over : (emitted : ℕ) → emitted ≡ a.emitted + answers.emitted → IsAfter (record a { many = now; emitted = emitted }) all (done ++ window ∷ [])
    window_over emitted sum_is =
        let as_before : length now.switches.items ≡ length a.many.switches.items = k.count ∙ k.came.count ∙ k.begun_count in
        record {
          typed_for = h.typed_for;
          typed = h.typed;
          entries = h.entries;
          can = h.can;
          queries = k.queries ∙ taken_queries;
          few = subst (λ n. n ≤ 8) (sym as_before) h.few;
          each = subst (λ (n : ℕ). AllByRecursion (λ (w : Shared). length w.1 ≡ n) all) (sym as_before) h.each;
          rises = h.rises;
          phase = k.between;
          between = subst (λ (o : Option Answers). AreBetween queries a.tables entries o now.switches.items now.engine) (sym k.last)
              (subst (λ (qs : List TypedQuery). Empties qs k.taken answers now) taken_queries k.empties h.typed_for a.tables entries kept captures h.typed h.entries h.can k.widths all_came);
          remembers = subst (Remembers queries entries (held_in all)) (sym k.last) (parts_along ∙ ap (λ n. refined_from queries (held_in all) n 0 entries) (sym number_is));
          last = ap window_of k.last ∙ ap Some number_is ∙ sym (last_push None done window);
          emitted = sum_is ∙ ap (λ n. n + answers.emitted) h.emitted ∙ ap (λ (x : Answers). emitted_in (plan_of a) all done + x.emitted) answers_right ∙ sym more_sum;
        }
      where
        none_more : (n : ℕ) → n + 0 ≡ n
        none_more n = omega arith

        more_sum : emitted_in (plan_of a) all (done ++ window ∷ []) ≡ emitted_in (plan_of a) all done + emitted_at (plan_of a) all window
        more_sum =
            ap sum (map-append (emitted_at (plan_of a) all) done (window ∷ []))
            ∙ sum_by-append (λ n. n) (map (emitted_at (plan_of a) all) done) (emitted_at (plan_of a) all window ∷ [])
            ∙ ap (λ n. emitted_in (plan_of a) all done + n) (sum_by-cons (λ n. n) (emitted_at (plan_of a) all window) [] ∙ none_more (emitted_at (plan_of a) all window))
