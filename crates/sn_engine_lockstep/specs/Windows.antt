-- to be believed
-- What a plan answers in a window, and how many items it sends.
use Rattle.std.specs.Prelude.{◌≡◌, ◌<◌, ℕ, suc, List, [], ◌∷◌, ◌++◌, map, length, sum, slice_index, Option, None, Some}
use Rattle.sn_emit.specs.Plans.{Placed, items_of, pieces_from}
use Rattle.sn_emit.specs.declared.tables.Tables.{Tables}
use Rattle.sn_plan_fit.specs.Paths.{place_in}
use Rattle.sn_plan_grammar.specs.declared.plan.Entry.{Entry}
use Rattle.sn_refine.specs.Passes.{passes_at}
use Rattle.sn_refine.specs.Refined.{Windows, refined_parts}
use Rattle.sn_refine.specs.Steps.{Set, parts_in}
use Rattle.sn_report.specs.Items.{Item}
use Rattle.sn_engine_split.specs.Branches.{branch_items}
use Rattle.sn_types.specs.declared.answers.Answers.{Answers}
use Rattle.sn_types.specs.declared.answers.Part.{Part}
use Rattle.sn_types.specs.declared.typed_query.TypedQuery.{TypedQuery}
use Rattle.sn_types.specs.Typed.{query_at}
use Rattle.sn_engine_lockstep.specs.declared.source.Source.{Source}
use Rattle.sn_engine_lockstep.specs.Sources.{kept_in, source_at, source_of}
use Rattle.sn_windows.specs.Rising.{IsAbove, Window}

-- ---- with the prefixes that each lane admits

-- the answers of the queries from this number on, level by level
abbrev pub parts_from : List TypedQuery → (Source → Set) → List (List ℕ) → ℕ → List Entry → List Part
parts_from queries kept tuples q [] = []
parts_from queries kept tuples q (e ∷ es) =
    parts_in q (query_at queries q) e.levels (λ j. kept (source_at q (Some (slice_index e.levels j)))) tuples ++ parts_from queries kept tuples (suc q) es

-- how many items the pieces send
abbrev pub sent_by : List TypedQuery → Tables → List Placed → (Source → Set) → List (List ℕ) → ℕ
sent_by queries tables pieces kept tuples = sum (map (λ x. length (items_of queries tables x (kept (source_of x)) tuples)) pieces)

abbrev pub window_answers : List TypedQuery → Tables → List Entry → (Source → Set) → ℕ → List (List ℕ) → Answers
window_answers queries tables entries kept w tuples = record {
  window = w;
  emitted = sent_by queries tables (pieces_from 0 entries) kept tuples;
  parts = parts_from queries kept tuples 0 entries;
}

-- ---- along the plan

-- the refined answers of the queries from this number on, along the paths of a plan
abbrev pub refined_from : List TypedQuery → Windows → ℕ → ℕ → List Entry → List Part
refined_from queries windows w q [] = []
refined_from queries windows w q (e ∷ es) = refined_parts q (query_at queries q) windows e.levels w ++ refined_from queries windows w (suc q) es

-- what is counted of the items that a piece sends, and that of the tuples that come to it
abbrev pub Measure : Type 0
Measure = Placed → List Item → ℕ

abbrev pub measured : Measure → List TypedQuery → ℕ → Placed → Option (List (List ℕ)) → ℕ
measured m queries depth x None = 0
measured m queries depth x (Some seen) = m x (branch_items (query_at queries x.query) x.piece.branch x.piece.level None x.piece.cut depth x.piece.slots seen)

abbrev pub piece_measure : Measure → List TypedQuery → Tables → Windows → ℕ → Placed → ℕ
piece_measure m queries tables windows w x =
    measured m queries tables.depth x (passes_at (query_at queries x.query) tables.entries windows x.path (place_in x.path x.piece.level) w)

-- how many items a piece sends of these tuples
abbrev pub count_all : Measure
count_all x found = length found

abbrev pub count_of : List TypedQuery → ℕ → Placed → Option (List (List ℕ)) → ℕ
count_of queries depth x seen = measured count_all queries depth x seen

abbrev pub piece_count : List TypedQuery → Tables → Windows → ℕ → Placed → ℕ
piece_count queries tables windows w x = piece_measure count_all queries tables windows w x

-- The answers of a plan in a window: the refined answers of its queries along their paths, and the number of the items that its
-- pieces send.
abbrev pub plan_answers : List TypedQuery → Tables → List Entry → Windows → ℕ → Answers
plan_answers queries tables entries windows w = record {
  window = w;
  emitted = sum (map (piece_count queries tables windows w) (pieces_from 0 entries));
  parts = refined_from queries windows w 0 entries;
}

-- ---- one window after another

abbrev pub window_of : Option Answers → Option ℕ
window_of None = None
window_of (Some answers) = Some answers.window

-- a window comes after the last one that was answered, and none between them holds a record
pub record Follows (windows : Windows) (last : Option Answers) (w : ℕ) : Type 0 where
  pub above : IsAbove (window_of last) w
  pub none : (v : ℕ) → IsAbove (window_of last) v → v < w → windows v ≡ None

-- the last answers are those along the plan
abbrev pub Remembers : List TypedQuery → List Entry → Windows → Option Answers → Type 0
Remembers queries entries windows None = Unit {0}
Remembers queries entries windows (Some answers) = answers.parts ≡ refined_from queries windows answers.window 0 entries

-- what windows that are given one after another are answered, where the last one before them was answered so
abbrev pub answers_from : List TypedQuery → Tables → List Entry → Option Answers → List Window → List Answers
answers_from queries tables entries last [] = []
answers_from queries tables entries last (given ∷ rest) =
    window_answers queries tables entries (kept_in queries last given.0) given.0 given.1
    ∷ answers_from queries tables entries (Some (window_answers queries tables entries (kept_in queries last given.0) given.0 given.1)) rest
