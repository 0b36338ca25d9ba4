-- The early items of lanes at the end of a window, and over windows.
use Rattle.std.proofs.Common.{◌≡◌, ℕ, ◌+◌, ◌<◌, ◌≤◌, List, [], ◌∷◌, map, length, take, get_or, Option, Some, None, refl, ap, sym, ◌∙◌, arith}
use Rattle.std.proofs.lemmas.List.Sums.{count_by-le-length, sum_by-cons, sum_by-le-sum_by, sum_by-take-le, sum_by_more}
use Rattle.sn_emit.specs.Plans.{Placed, items_of}
use Rattle.sn_emit.specs.declared.tables.Tables.{Tables}
use Rattle.sn_engine.specs.declared.intake.Intake.{Intake}
use Rattle.sn_engine.specs.Intakes.{total}
use Rattle.sn_plan_fit.specs.Fits.{AreEntriesOf}
use Rattle.sn_plan_grammar.specs.declared.plan.Entry.{Entry}
use Rattle.sn_refine.proofs.Windows.{above_last, earlier, here, later}
use Rattle.sn_refine.specs.Refined.{Windows}
use Rattle.sn_refine.specs.Steps.{Set, windows_of}
use Rattle.sn_report.specs.Items.{Item}
use Rattle.sn_types.specs.declared.answers.Answers.{Answers}
use Rattle.sn_types.specs.declared.typed_query.TypedQuery.{TypedQuery}
use Rattle.sn_engine_lockstep.specs.declared.source.Source.{Source}
use Rattle.sn_engine_lockstep.specs.Early.{early, early_by, early_from, early_in, early_total, is_early, plan_early}
use Rattle.sn_engine_lockstep.specs.Sources.{kept_in, source_of}
use Rattle.sn_engine_lockstep.specs.Windows.{Remembers, plan_answers, window_answers, window_of}
use Rattle.sn_engine_lockstep.specs.Work.{done}
use Rattle.sn_engine_lockstep.proofs.Along.{measure_right, window_right}
use Rattle.sn_windows.specs.Rising.{AreRising, IsAbove, Window}

pub all_early : (queries : List TypedQuery) (tables : Tables) (window : ℕ) (kept : Source → Set) (tuples : List (List ℕ)) (pieces : List Placed)
    → early_total (map (done queries tables kept tuples window) pieces) ≡ early_by queries tables pieces kept tuples
all_early queries tables window kept tuples [] = refl
all_early queries tables window kept tuples (x ∷ xs) =
    let lane = done queries tables kept tuples window in
    let count : Placed → ℕ = λ y. early y (items_of queries tables y (kept (source_of y)) tuples) in
    sum_by-cons (λ (l : Intake). early_in l.cut l.items) (lane x) (map lane xs)
    ∙ ap (λ n. count x + n) (all_early queries tables window kept tuples xs)
    ∙ sym (sum_by-cons (λ (n : ℕ). n) (count x) (map count xs))

-- ---- lane by lane

-- the lanes so far and the next one
pub early_more : (lanes : List Intake) (i n m : ℕ) (lane : Intake) → i < length lanes → lane ≡ get_or lanes i lane → n ≡ early_total (take i lanes) → m ≡ early_in lane.cut lane.items → n + m ≡ early_total (take (i + 1) lanes)
early_more lanes i n m lane lt at before here =
    let of : Intake → ℕ = λ x. early_in x.cut x.items in
    ap (λ k. k + m) before ∙ ap (λ k. early_total (take i lanes) + k) (here ∙ ap of at) ∙ sym (sum_by_more of lanes i lane lt)

-- they are no more than all items
pub early_few : (lanes : List Intake) (i : ℕ) → early_total (take i lanes) ≤ total lanes
early_few lanes i =
    let of : Intake → ℕ = λ x. early_in x.cut x.items in
    let front : early_total (take i lanes) ≤ early_total lanes = sum_by-take-le of lanes i in
    let whole : early_total lanes ≤ total lanes = sum_by-le-sum_by of (λ x. length x.items) lanes (λ x. count_by-le-length (λ (item : Item). is_early x.cut item.tag) x.items) in
    omega (arith, front, whole)

-- ---- all windows

windows_from : (queries : List TypedQuery) (tables : Tables) (es : List Entry) (windows : Windows) → AreEntriesOf queries es → (last : Option Answers) (given : List Window) → AreRising (window_of last) given
    → ((v : ℕ) → IsAbove (window_of last) v → windows v ≡ windows_of given v) → Remembers queries es windows last
    → early_from queries tables es last given ≡ map (λ g. plan_early queries tables es windows g.0) given
windows_from queries tables es windows h last [] rises agrees remembers = refl
windows_from queries tables es windows h last (g ∷ rest) rises agrees remembers =
    let now = window_answers queries tables es (kept_in queries last g.0) g.0 g.1 in
    let is = agrees g.0 rises.0 ∙ here g rest in
    let e : now ≡ plan_answers queries tables es windows g.0 =
    window_right queries tables es windows last g.0 g.1 h is (record { above = rises.0; none = λ v above lt. agrees v above ∙ earlier g rest v rises.1 lt }) remembers in
    ap (λ n. n ∷ early_from queries tables es (Some now) rest)
    (measure_right queries tables es windows last g.0 g.1 early h is (record { above = rises.0; none = λ v above lt. agrees v above ∙ earlier g rest v rises.1 lt }) remembers)
    ∙ ap (λ others. plan_early queries tables es windows g.0 ∷ others)
    (windows_from queries tables es windows h (Some now) rest rises.1 (λ v lt. agrees v (above_last (window_of last) g.0 v rises.0 lt) ∙ later g rest v lt) (ap (λ (a : Answers). a.parts) e))

pub all_early_windows : (queries : List TypedQuery) (tables : Tables) (es : List Entry) (given : List Window) → AreEntriesOf queries es → AreRising None given
    → early_from queries tables es None given ≡ map (λ g. plan_early queries tables es (windows_of given) g.0) given
all_early_windows queries tables es given h rises = windows_from queries tables es (windows_of given) h None given rises (λ v above. refl) tt
