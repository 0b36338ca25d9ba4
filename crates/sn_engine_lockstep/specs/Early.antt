-- to be believed
-- The items that leave the switch before the cut of their piece: the rows for which the registers of an operator had no room, and what
-- a reduce holds where they had none for a row at the distinct before it.
use Rattle.std.specs.Prelude.{ℕ, List, [], ◌∷◌, map, sum, sum_by, Bool, true, nat_lt, Option, Some}
use Rattle.std.specs.List.{count_by}
use Rattle.sn_emit.specs.Plans.{Placed, items_of, pieces_from}
use Rattle.sn_emit.specs.declared.tables.Tables.{Tables}
use Rattle.sn_engine.specs.declared.intake.Intake.{Intake}
use Rattle.sn_plan_grammar.specs.declared.plan.Entry.{Entry}
use Rattle.sn_refine.specs.Refined.{Windows}
use Rattle.sn_refine.specs.Steps.{Set}
use Rattle.sn_report.specs.declared.frame.Item.{Item as ItemOf}
use Rattle.sn_report.specs.declared.frame.Tag.{Tag}
use Rattle.sn_report.specs.declared.frame.Tag.TheVariants.{At, Partial}
use Rattle.sn_types.specs.declared.answers.Answers.{Answers}
use Rattle.sn_types.specs.declared.typed_query.TypedQuery.{TypedQuery}
use Rattle.sn_engine_lockstep.specs.declared.source.Source.{Source}
use Rattle.sn_engine_lockstep.specs.Sources.{kept_in, source_of}
use Rattle.sn_engine_lockstep.specs.Windows.{Measure, piece_measure, window_answers}
use Rattle.sn_windows.specs.Rising.{Window}

-- a row comes to an operator before the cut, or is a key of one with the fold of some of its values
abbrev pub is_early : ℕ → Tag → Bool
is_early cut (At place) = nat_lt place cut
is_early cut (Partial place) = true

abbrev pub early_in : {R : Type 0} → ℕ → List (ItemOf R) → ℕ
early_in cut found = count_by (λ item. is_early cut item.tag) found

-- of a piece
abbrev pub early : Measure
early x found = early_in x.piece.cut found

-- of the lanes of the engine
abbrev pub early_total : List Intake → ℕ
early_total lanes = sum_by (λ (x : Intake). early_in x.cut x.items) lanes

-- of all pieces, over the tuples that their lanes admit
abbrev pub early_by : List TypedQuery → Tables → List Placed → (Source → Set) → List (List ℕ) → ℕ
early_by queries tables pieces kept tuples = sum (map (λ x. early x (items_of queries tables x (kept (source_of x)) tuples)) pieces)

-- of all pieces of a plan in a window
abbrev pub plan_early : List TypedQuery → Tables → List Entry → Windows → ℕ → ℕ
plan_early queries tables entries windows w = sum (map (piece_measure early queries tables windows w) (pieces_from 0 entries))

-- of windows that are given one after another, where the last one before them was answered so
abbrev pub early_from : List TypedQuery → Tables → List Entry → Option Answers → List Window → List ℕ
early_from queries tables entries last [] = []
early_from queries tables entries last (given ∷ rest) =
    early_by queries tables (pieces_from 0 entries) (kept_in queries last given.0) given.1
    ∷ early_from queries tables entries (Some (window_answers queries tables entries (kept_in queries last given.0) given.0 given.1)) rest
