-- What the laws say.
use Rattle.std.proofs.Common.{◌≡◌, ℕ, suc, ◌+◌, ◌<◌, ◌≤◌, List, [], ◌∷◌, ◌++◌, map, Option, Some, None, length, subst, refl, ap, sym, ◌∙◌, arith}
use Rattle.std.specs.List.{AllByRecursion}
use Rattle.std.proofs.lemmas.List.{map-append}
use Rattle.sn_base.proofs.Lists.{all_map, all_weaker, map_both}
use Rattle.sn_emit.specs.declared.sender.Sender.{Sender}
use Rattle.sn_emit.specs.Making.{CanMake}
use Rattle.sn_emit.specs.Plans.{AreLanesOf, AreNewLanes, Placed, pieces_from, placed}
use Rattle.sn_emit.proofs.PlanFacts.{all_can}
use Rattle.sn_emit.proofs.PlanLanes.{lanes_count, lanes_of_new}
use Rattle.sn_emit.specs.declared.tables.Tables.{Tables}
use Rattle.sn_engine.specs.declared.intake.Intake.{Intake}
use Rattle.sn_engine.proofs.Lanes.{as_many_entries}
use Rattle.sn_engine.specs.Answers.{parts_of}
use Rattle.sn_engine.specs.Intakes.{intakes_of, total}
use Rattle.sn_engine.specs.Keeping.{kept_for}
use Rattle.sn_plan_fit.specs.Fits.{AreEntriesOf, Fits}
use Rattle.sn_plan_grammar.specs.declared.plan.Entry.{Entry}
use Rattle.sn_refine.specs.Refined.{Windows}
use Rattle.sn_refine.specs.Steps.{Set, windows_of}
use Rattle.sn_refine.proofs.Windows.{above_last, earlier, here, later}
use Rattle.sn_switch.specs.declared.switch.Switch.{Switch}
use Rattle.sn_switch.specs.Texts.{IsSwitch}
use Rattle.sn_types.proofs.Facts.{few_queries}
use Rattle.sn_types.specs.declared.answers.Answers.{Answers}
use Rattle.sn_types.specs.declared.answers.Part.{Part}
use Rattle.sn_types.specs.declared.typed_query.TypedQuery.{TypedQuery}
use Rattle.sn_types.specs.Typed.{HasWidths, IsTyped}
use Rattle.sn_engine_lockstep.specs.declared.source.Source.{Source}
use Rattle.sn_engine_lockstep.specs.Sources.{kept_in, source_of, sources_of}
use Rattle.sn_engine_lockstep.specs.Windows.{Remembers, answers_from, parts_from, plan_answers, sent_by, window_answers, window_of}
use Rattle.sn_engine_lockstep.specs.Work.{AreAtWork, AreIdle, AreKept, Recalls, done, intake_of, left_done}
use Rattle.sn_engine_lockstep.proofs.Along.{window_right}
use Rattle.sn_engine_lockstep.proofs.Apart.{pieces_apart}
use Rattle.sn_engine_lockstep.proofs.Beginning.{map_length, sources_are}
use Rattle.sn_engine_lockstep.proofs.Parts.{all_parts, all_sent}
use Rattle.sn_windows.specs.Rising.{AreRising, IsAbove, Window}

-- ---- a plan as it is made

pub intakes_are : (q : ℕ) (es : List Entry) → intakes_of q es ≡ map intake_of (pieces_from q es)
intakes_are q [] = refl
intakes_are q (e ∷ es) =
    ap (λ ls. ls ++ intakes_of (q + 1) es) (sym (map_both (placed q e.levels) intake_of e.pieces))
    ∙ ap (λ ls. map intake_of (map (placed q e.levels) e.pieces) ++ ls) (ap (λ n. intakes_of n es) next ∙ intakes_are (suc q) es)
    ∙ sym (map-append intake_of (map (placed q e.levels) e.pieces) (pieces_from (suc q) es))
  where
    next : q + 1 ≡ suc q
    next = omega arith

pub new_idle : (queries : List TypedQuery) (tables : Tables) (es : List Entry) (senders : List Sender) → AreEntriesOf queries es → AreNewLanes queries tables (pieces_from 0 es) senders
    → AreIdle queries tables (pieces_from 0 es) senders (intakes_of 0 es)
new_idle queries tables es senders h new = record {
  apart = pieces_apart queries 0 es h;
  lanes = lanes_of_new queries tables (pieces_from 0 es) senders new;
  empty = intakes_are 0 es;
}

pub plan_made : (window : ℕ) (queries : List TypedQuery) (s : Switch) (es : List Entry) → ∥ IsTyped window queries ∥₁ → IsSwitch s → Fits queries s es → AllByRecursion (CanMake queries) (pieces_from 0 es)
plan_made window queries s es t is fits = all_can window queries s t is es fits.paths fits.pieces

-- there are at most eight entries
pub few_of : (window : ℕ) (queries : List TypedQuery) (es : List Entry) → ∥ IsTyped window queries ∥₁ → AreEntriesOf queries es → length es ≤ 8
few_of window queries es t h = let many = as_many_entries queries es h in let few = few_queries window queries t in omega (arith, many, few)

-- a source for each lane, of a query that is there
pub made_many : (queries : List TypedQuery) (tables : Tables) (es : List Entry) (senders : List Sender) → AreNewLanes queries tables (pieces_from 0 es) senders → length (sources_of 0 es) ≡ length senders
made_many queries tables es senders new =
    ap length (sources_are 0 es) ∙ map_length source_of (pieces_from 0 es) ∙ sym (lanes_count queries tables (pieces_from 0 es) senders new)

pub made_known : (queries : List TypedQuery) (es : List Entry) → AllByRecursion (CanMake queries) (pieces_from 0 es) → AllByRecursion (λ (source : Source). source.query < length queries) (sources_of 0 es)
made_known queries es can =
    subst (AllByRecursion (λ (source : Source). source.query < length queries)) (sym (sources_are 0 es))
    (all_map (λ (source : Source). source.query < length queries) source_of (pieces_from 0 es) (all_weaker (CanMake queries) (λ (x : Placed). x.query < length queries) (λ x mine. mine.query) (pieces_from 0 es) can))

-- ---- the answers of a window

pub answered_parts : (typed_for : ℕ) (tables : Tables) (window : ℕ) (queries : List TypedQuery) (es : List Entry) (kept : Source → Set) (tuples : List (List ℕ)) → ∥ IsTyped typed_for queries ∥₁ → AreEntriesOf queries es
    → AllByRecursion (CanMake queries) (pieces_from 0 es) → AllByRecursion HasWidths tuples
    → parts_of queries (map (left_done queries tables kept tuples window) (pieces_from 0 es)) ≡ parts_from queries kept tuples 0 es
answered_parts typed_for tables window queries es kept tuples t h can widths =
    all_parts typed_for tables window queries kept tuples (pieces_from 0 es) t can (pieces_apart queries 0 es h) widths es h refl

pub answered_count : (typed_for : ℕ) (tables : Tables) (window : ℕ) (queries : List TypedQuery) (es : List Entry) (kept : Source → Set) (tuples : List (List ℕ)) → ∥ IsTyped typed_for queries ∥₁ → AreEntriesOf queries es
    → AllByRecursion (CanMake queries) (pieces_from 0 es) → AllByRecursion HasWidths tuples
    → total (map (done queries tables kept tuples window) (pieces_from 0 es)) ≡ sent_by queries tables (pieces_from 0 es) kept tuples
answered_count typed_for tables window queries es kept tuples t h can widths =
    all_sent typed_for tables window queries kept tuples (pieces_from 0 es) t can (pieces_apart queries 0 es h) widths

-- ---- all windows

from : (queries : List TypedQuery) (tables : Tables) (es : List Entry) (windows : Windows) → AreEntriesOf queries es → (last : Option Answers) (given : List Window) → AreRising (window_of last) given
    → ((v : ℕ) → IsAbove (window_of last) v → windows v ≡ windows_of given v) → Remembers queries es windows last
    → answers_from queries tables es last given ≡ map (λ g. plan_answers queries tables es windows g.0) given
from queries tables es windows h last [] rises agrees remembers = refl
from queries tables es windows h last (g ∷ rest) rises agrees remembers =
    let now = window_answers queries tables es (kept_in queries last g.0) g.0 g.1 in
    let e : now ≡ plan_answers queries tables es windows g.0 =
    window_right queries tables es windows last g.0 g.1 h (agrees g.0 rises.0 ∙ here g rest) (record { above = rises.0; none = λ v above lt. agrees v above ∙ earlier g rest v rises.1 lt }) remembers in
    ap (λ a. a ∷ answers_from queries tables es (Some now) rest) e
    ∙ ap (λ others. plan_answers queries tables es windows g.0 ∷ others)
    (from queries tables es windows h (Some now) rest rises.1 (λ v lt. agrees v (above_last (window_of last) g.0 v rises.0 lt) ∙ later g rest v lt) (ap (λ (a : Answers). a.parts) e))

pub all_windows : (queries : List TypedQuery) (tables : Tables) (es : List Entry) (given : List Window) → AreEntriesOf queries es → AreRising None given
    → answers_from queries tables es None given ≡ map (λ g. plan_answers queries tables es (windows_of given) g.0) given
all_windows queries tables es given h rises = from queries tables es (windows_of given) h None given rises (λ v above. refl) tt

-- ---- one window, from its calls

-- what a close answers
abbrev pub Closed : List TypedQuery → ℕ → Option ℕ → List Set → List Sender → List Intake → Answers → Type 0
Closed queries window closed sets senders intakes a = (typed_for : ℕ) (tables : Tables) (pieces : List Placed) (kept : Source → Set) (tuples : List (List ℕ)) →
    ∥ IsTyped typed_for queries ∥₁ → AllByRecursion (CanMake queries) pieces → AllByRecursion HasWidths tuples → AreAtWork queries tables pieces kept tuples senders intakes →
    (a.emitted ≡ total (map (done queries tables kept tuples window) pieces))
    × (AreKept pieces kept (kept_for closed sets window) → a.parts ≡ parts_of queries (map (left_done queries tables kept tuples window) pieces))

-- what the engine keeps of it
abbrev pub Recalled : List TypedQuery → List Sender → List Intake → Option ℕ → List Set → Answers → Type 0
Recalled queries senders intakes closed_now sets_now a = (typed_for : ℕ) (tables : Tables) (pieces : List Placed) (kept : Source → Set) (tuples : List (List ℕ)) →
    ∥ IsTyped typed_for queries ∥₁ → AllByRecursion (CanMake queries) pieces → AllByRecursion HasWidths tuples → AreAtWork queries tables pieces kept tuples senders intakes →
    Recalls queries pieces (Some a) closed_now sets_now

-- and what it leaves
abbrev pub Emptied : List TypedQuery → List Sender → List Intake → List Sender → List Intake → Type 0
Emptied queries senders intakes senders_now intakes_now = (typed_for : ℕ) (tables : Tables) (pieces : List Placed) (kept : Source → Set) (tuples : List (List ℕ)) →
    ∥ IsTyped typed_for queries ∥₁ → AllByRecursion (CanMake queries) pieces → AllByRecursion HasWidths tuples → AreAtWork queries tables pieces kept tuples senders intakes →
    AreLanesOf queries tables pieces senders → AreIdle queries tables pieces senders_now intakes_now

answers_same : (a b : Answers) → a.window ≡ b.window → a.emitted ≡ b.emitted → a.parts ≡ b.parts → a ≡ b
answers_same a b e f g =
    ap (λ n. made n a.emitted a.parts) e ∙ ap (λ n. made b.window n a.parts) f ∙ ap (made b.window b.emitted) g
  where
    made : ℕ → ℕ → List Part → Answers
    made window emitted parts = record { window = window; emitted = emitted; parts = parts }

pub window_is : (typed_for : ℕ) (tables : Tables) (window : ℕ) (queries : List TypedQuery) (es : List Entry) (kept : Source → Set) (tuples : List (List ℕ)) (a : Answers) → ∥ IsTyped typed_for queries ∥₁ → AreEntriesOf queries es
    → AllByRecursion (CanMake queries) (pieces_from 0 es) → AllByRecursion HasWidths tuples → a.window ≡ window
    → a.emitted ≡ total (map (done queries tables kept tuples window) (pieces_from 0 es)) → a.parts ≡ parts_of queries (map (left_done queries tables kept tuples window) (pieces_from 0 es))
    → a ≡ window_answers queries tables es kept window tuples
window_is typed_for tables window queries es kept tuples a t h can widths is emitted parts =
    answers_same a (window_answers queries tables es kept window tuples) is
    (emitted ∙ answered_count typed_for tables window queries es kept tuples t h can widths) (parts ∙ answered_parts typed_for tables window queries es kept tuples t h can widths)
