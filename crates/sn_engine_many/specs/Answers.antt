-- to be believed
-- What several switches send in a window.
use Rattle.std.specs.Prelude.{ℕ, zero, suc, List, [], ◌∷◌, map, length, slice_index, sum, Option, None, Some, if◌then◌else◌}
use Rattle.sn_emit.specs.Plans.{Placed, gate_before, pieces_from}
use Rattle.sn_emit.specs.declared.tables.Tables.{Tables}
use Rattle.sn_engine_lockstep.specs.Sources.{kept_in, source_of}
use Rattle.sn_engine_lockstep.specs.Windows.{parts_from, refined_from}
use Rattle.sn_engine_lockstep.specs.declared.source.Source.{Source}
use Rattle.sn_engine_split.specs.Opened.{is_open}
use Rattle.sn_multi.specs.Branches.{many_items, together}
use Rattle.sn_multi.specs.Switches.{all_items}
use Rattle.sn_pipe.specs.Pipes.{rows_admitted}
use Rattle.sn_plan_fit.specs.Paths.{place_in}
use Rattle.sn_plan_grammar.specs.declared.plan.Entry.{Entry}
use Rattle.sn_refine.specs.Passes.{prefixes_before}
use Rattle.sn_refine.specs.Refined.{Windows, answered, before, refined_rows}
use Rattle.sn_refine.specs.Steps.{Set}
use Rattle.sn_report.specs.Items.{Item}
use Rattle.sn_types.specs.Cuts.{size_at}
use Rattle.sn_types.specs.Typed.{branch_at, query_at}
use Rattle.sn_types.specs.Values.{op_at}
use Rattle.sn_types.specs.declared.answers.Answers.{Answers}
use Rattle.sn_types.specs.declared.typed_query.TypedQuery.{TypedQuery}
use Rattle.sn_windows.specs.Rising.{Window}

-- the items that a piece sends in all switches over their tuples of a window, with the prefixes that the level before answered in the window before
abbrev pub shared_items : List TypedQuery → Tables → Placed → Set → List (List (List ℕ)) → List Item
shared_items queries tables x kept captures =
    let branch = branch_at queries x.query x.piece.branch in
    all_items tables.depth (size_at branch.ops x.piece.slots) x.piece.cut (map (op_at x.piece.level) branch.ops)
    (map (rows_admitted (query_at queries x.query) x.piece.branch x.piece.level (gate_before tables.entries x.path x.piece.level) kept) captures)

-- how many items all pieces send
abbrev pub shared_sent : List TypedQuery → Tables → List Placed → (Source → Set) → List (List (List ℕ)) → ℕ
shared_sent queries tables pieces kept captures = sum (map (λ x. length (shared_items queries tables x (kept (source_of x)) captures)) pieces)

-- what several switches answer in a window
abbrev pub shared_answers : List TypedQuery → Tables → List Entry → (Source → Set) → ℕ → List (List (List ℕ)) → Answers
shared_answers queries tables entries kept w captures = record {
  window = w;
  emitted = shared_sent queries tables (pieces_from 0 entries) kept captures;
  parts = parts_from queries kept (together captures) 0 entries;
}

-- ---- along the plan

-- Those tuples of one capture in a window that come to the level at a place of a path: all where it is the first or its table stays
-- open, or else those whose prefix the level before it answered in the window before, where the windows are those of all captures
-- together.
abbrev pub passed_of : TypedQuery → Option ℕ → Windows → List ℕ → ℕ → ℕ → List (List ℕ) → List (List ℕ)
passed_of query entries windows path zero w tuples = tuples
passed_of query entries windows path (suc j) w tuples =
    if is_open entries (prefixes_before query windows path j w) then tuples
    else answered query (slice_index path j) (before (refined_rows query windows path j) w) tuples

-- how many items a piece sends in all switches, of what comes to it of each capture
abbrev pub many_sent : List TypedQuery → Tables → Windows → ℕ → List (List (List ℕ)) → Placed → ℕ
many_sent queries tables windows w captures x =
    let query = query_at queries x.query in
    length (many_items query x.piece.branch x.piece.level None x.piece.cut tables.depth x.piece.slots
    (map (passed_of query tables.entries windows x.path (place_in x.path x.piece.level) w) captures))

-- The answers of a plan in a window: the refined answers of its queries along their paths to the tuples of all captures together, and
-- the number of the items that its pieces send in all switches.
abbrev pub many_answers : List TypedQuery → Tables → List Entry → Windows → ℕ → List (List (List ℕ)) → Answers
many_answers queries tables entries windows w captures = record {
  window = w;
  emitted = sum (map (many_sent queries tables windows w captures) (pieces_from 0 entries));
  parts = refined_from queries windows w 0 entries;
}

-- ---- one window after another

-- a window: its number, and the tuples of each switch
abbrev pub SharedWindow : Type 0
SharedWindow = ℕ × List (List (List ℕ))

-- the tuples of all switches together
abbrev pub in_one : SharedWindow → Window
in_one given = (given.0, together given.1)

-- what windows that are closed one after another are answered, where the last one before them was answered so
abbrev pub shared_from : List TypedQuery → Tables → List Entry → Option Answers → List SharedWindow → List Answers
shared_from queries tables entries last [] = []
shared_from queries tables entries last (given ∷ rest) =
    shared_answers queries tables entries (kept_in queries last given.0) given.0 given.1
    ∷ shared_from queries tables entries (Some (shared_answers queries tables entries (kept_in queries last given.0) given.0 given.1)) rest
