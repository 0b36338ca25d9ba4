-- to be believed
-- The answers of a window.
use Rattle.std.specs.Prelude.{◌≡◌, ℕ, List, [], ◌∷◌, map, filter, ◌==◌, unwrap_or, None, Some, Result, Ok, Err}
use Rattle.sn_base.specs.Sorted.{sorted_rows}
use Rattle.sn_engine_split.specs.Branches.{query_value}
use Rattle.sn_types.specs.declared.answers.Answers.{Answers}
use Rattle.sn_types.specs.declared.answers.Part.{Part}
use Rattle.sn_types.specs.declared.typed_query.TypedQuery.{TypedQuery}
use Rattle.sn_types.specs.Typed.{query_at}
use Rattle.sn_engine.specs.declared.intake.Intake.{Intake}
use Rattle.sn_engine.specs.declared.fault.CloseFault.{CloseFault}
use Rattle.sn_engine.specs.declared.fault.CloseFault.TheVariants.{Unfinished, Memory}
use Rattle.sn_engine.specs.Intakes.{items_at, lane_at, total, first_open}
use Rattle.sn_engine.specs.Keeping.{all_left}
use Rattle.sn_refine.specs.Steps.{Set}

-- the answer at the query and level of a lane of the first branch: the value of its items, and of those of the other branch
abbrev pub part_of : List TypedQuery → List Intake → Intake → Part
part_of queries lanes x = record {
  query = x.query;
  level = x.level;
  rows = sorted_rows (query_value (query_at queries x.query) x.level x.items (items_at lanes (lane_at x.query x.place 1)));
}

abbrev pub parts_of : List TypedQuery → List Intake → List Part
parts_of queries lanes = map (part_of queries lanes) (filter (λ x. x.branch == 0) lanes)

-- the window that the lanes have ended
abbrev pub window_of : List Intake → ℕ
window_of [] = 0
window_of (x ∷ xs) = unwrap_or x.end 0

-- The answers with these prefixes, lane by lane: of the items that are left. Those that are dropped are counted too.
abbrev pub answers_of : List TypedQuery → List Set → List Intake → Answers
answers_of queries sets lanes = record { window = window_of lanes; emitted = total lanes; parts = parts_of queries (all_left queries sets lanes) }

-- The answers come where all lanes have ended the window; else, and only then, the first that hasn't is named. Running out of memory may
-- come in the place of the answers.
abbrev pub Closes : List TypedQuery → List Set → List Intake → Result Answers CloseFault → Type 0
Closes queries sets lanes (Ok answers) = (first_open lanes ≡ None) × (answers ≡ answers_of queries sets lanes)
Closes queries sets lanes (Err Memory) = first_open lanes ≡ None
Closes queries sets lanes (Err (Unfinished lane)) = first_open lanes ≡ Some lane
