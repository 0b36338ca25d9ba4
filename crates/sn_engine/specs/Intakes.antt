-- to be believed
-- What came of the lanes of a plan.
use Rattle.std.specs.Prelude.{◌≡◌, ℕ, ◌+◌, ◌<◌, List, [], ◌∷◌, ◌++◌, map, length, sum_by, Bool, true, false, not, ◌&&◌, ◌||◌, ◌==◌, position, Option, None}
use Rattle.std.specs.Prelude.{Some, is_none, is_some, if◌then◌else◌}
use Rattle.std.specs.List.{AllByRecursion, AllByRecursion-prop, find, list_all, list_any}
use Rattle.std.proofs.Math.Bool.{Bool-set}
use Rattle.std.proofs.Math.Bridge.{le_prop}
use Rattle.std.specs.Option.{option_map_or}
use Rattle.sn_base.specs.Changed.{with_first}
use Rattle.sn_base.specs.declared.lane.Lane.{Lane}
use Rattle.sn_plan_fit.specs.Paths.{level_before, place_in}
use Rattle.sn_plan_grammar.specs.declared.plan.Entry.{Entry}
use Rattle.sn_plan_grammar.specs.declared.plan.Piece.{Piece}
use Rattle.sn_report.specs.Items.{Frame}
use Rattle.sn_report.specs.declared.frame.Frame.TheVariants.{Row, End}
use Rattle.sn_report.specs.Items.{Item}
use Rattle.sn_engine_split.specs.Branches.{IsItemOf, tag_columns}
use Rattle.sn_types.specs.declared.typed_query.TypedQuery.{TypedQuery}
use Rattle.sn_types.specs.Typed.{query_at, branch_at}
use Rattle.sn_types.proofs.RowsAfter.{of_prop}
use Rattle.sn_engine.specs.declared.intake.Intake.{Intake}

-- ---- the lanes of a plan

-- a lane of which nothing has come
abbrev pub intake_for : ℕ → List ℕ → Piece → Intake
intake_for q path piece =
    record {
      query = q;
      place = place_in path piece.level;
      level = piece.level;
      before = level_before path piece.level;
      branch = piece.branch;
      cut = piece.cut;
      shared = false;
      items = [];
      end = None;
    }

-- a lane for each piece, entry by entry; the first entry is that of query q
abbrev pub intakes_of : ℕ → List Entry → List Intake
intakes_of q [] = []
intakes_of q (e ∷ es) = map (intake_for q e.levels) e.pieces ++ intakes_of (q + 1) es

-- a lane on which several switches send
abbrev pub shared : Intake → Intake
shared x = record x { shared = true }

-- ---- one lane

abbrev pub is_lane : Lane → Intake → Bool
is_lane lane x = (lane.query == x.query) && (lane.level == x.place) && (lane.branch == x.branch)

-- a lane by its query, the level's place in the path, and its branch
abbrev pub lane_at : ℕ → ℕ → ℕ → Lane
lane_at query place branch = record { query = query; level = place; branch = branch }

abbrev pub with_item : Item → Intake → Intake
with_item item x = record x { items = x.items ++ item ∷ [] }

abbrev pub with_end : ℕ → Intake → Intake
with_end window x = record x { end = Some window }

abbrev pub emptied : Intake → Intake
emptied x = record x { items = []; end = None }

-- the lanes after a frame
abbrev pub after_frame : List Intake → Frame → List Intake
after_frame lanes (Row lane item) = with_first (is_lane lane) (with_item item) lanes
after_frame lanes (End lane window) = with_first (is_lane lane) (with_end window) lanes

-- a frame came
abbrev pub has_started : Intake → Bool
has_started x = not (length x.items == 0) || is_some x.end

-- a lane has ended this window
abbrev pub has_ended : ℕ → Intake → Bool
has_ended window x = option_map_or (λ end. end == window) x.end false

-- a lane hasn't ended another window
abbrev pub agrees : ℕ → Intake → Bool
agrees window x = option_map_or (λ end. end == window) x.end true

-- ---- all lanes

-- how many items came
abbrev pub total : List Intake → ℕ
total lanes = sum_by (λ x. length x.items) lanes

-- the least lane that hasn't ended the window
abbrev pub first_open : List Intake → Option ℕ
first_open lanes = position (λ x. is_none x.end) lanes

-- where one lane has ended a window, no lane has ended another
abbrev pub EndsAgree : List Intake → Type 0
EndsAgree lanes = (window : ℕ) → list_any (has_ended window) lanes ≡ true → list_all (agrees window) lanes ≡ true

-- the items of a lane
abbrev pub items_at : List Intake → Lane → List Item
items_at lanes lane = option_map_or (λ x. x.items) (find (is_lane lane) lanes) []

-- the items that frames bring to a lane
abbrev pub same_lane : Lane → Lane → Bool
same_lane a b = (a.query == b.query) && (a.level == b.level) && (a.branch == b.branch)

abbrev pub items_for : Lane → List Frame → List Item
items_for lane [] = []
items_for lane (Row other item ∷ frames) = if same_lane other lane then item ∷ items_for lane frames else items_for lane frames
items_for lane (End other window ∷ frames) = items_for lane frames

-- how many of the frames are items
abbrev pub is_row : Frame → Bool
is_row (Row lane item) = true
is_row (End lane window) = false

-- a lane is of a branch of a query, and so are its items
pub record IsIntake (queries : List TypedQuery) (x : Intake) : Type 0 where
  pub query : x.query < length queries
  pub branch : x.branch < length (query_at queries x.query).branches
  pub each : AllByRecursion (IsItemOf (branch_at queries x.query x.branch)) x.items

abbrev pub AreIntakes : List TypedQuery → List Intake → Type 0
AreIntakes queries lanes = AllByRecursion (IsIntake queries) lanes

-- this is a proposition
intake_prop : (queries : List TypedQuery) (x : Intake) → IsProp (IsIntake queries x)
intake_prop queries x =
    hlevel (
      le_prop,
      AllByRecursion-prop (IsItemOf (branch_at queries x.query x.branch))
          (λ (item : Item). of_prop (tag_columns (branch_at queries x.query x.branch).schemas item.tag) item.row) x.items,
    )

pub are_intakes_prop : (queries : List TypedQuery) (lanes : List Intake) → IsProp (AreIntakes queries lanes)
are_intakes_prop queries lanes = AllByRecursion-prop (IsIntake queries) (intake_prop queries) lanes

pub ends_agree_prop : (lanes : List Intake) → IsProp (EndsAgree lanes)
ends_agree_prop lanes = hlevel Bool-set
