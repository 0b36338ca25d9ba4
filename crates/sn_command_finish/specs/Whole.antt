-- to be believed
-- The frames of whole windows.
use Rattle.std.specs.Prelude.{◌≡◌, ℕ, List, [], ◌∷◌, ◌++◌, map, filter, length, sum_by, true, false, Option, None, Some}
use Rattle.std.specs.List.{AllByRecursion, flat_map, list_any}
use Rattle.sn_base.specs.declared.lane.Lane.{Lane}
use Rattle.sn_engine.specs.declared.intake.Intake.{Intake}
use Rattle.sn_engine.specs.Answers.{parts_of}
use Rattle.sn_engine.specs.Intakes.{is_lane, lane_at, total}
use Rattle.sn_engine.specs.Keeping.{all_left, gathered, kept_for}
use Rattle.sn_engine.specs.Taking.{is_above, row_fault}
use Rattle.sn_out.specs.Text.{block_text, total_line}
use Rattle.sn_report.specs.Items.{Frame}
use Rattle.sn_report.specs.declared.frame.Frame.TheVariants.{Row, End}
use Rattle.sn_report.specs.Items.{Item}
use Rattle.sn_report.specs.Frames.{lane_of}
use Rattle.sn_refine.specs.Steps.{Set}
use Rattle.sn_types.specs.declared.answers.Answers.{Answers}
use Rattle.sn_types.specs.declared.typed_query.TypedQuery.{TypedQuery}

-- the name of a lane
abbrev pub name_of : Intake → Lane
name_of x = lane_at x.query x.place x.branch

-- no lane has the name of one before it
abbrev pub HaveNames : List Intake → Type 0
HaveNames [] = Unit {0}
HaveNames (x ∷ xs) = AllByRecursion (λ y. is_lane (name_of x) y ≡ false) xs × HaveNames xs

-- nothing has come of a lane
pub record IsIdle (x : Intake) : Type 0 where
  pub items : x.items ≡ []
  pub end : x.end ≡ None

-- the frames of a lane among others
abbrev pub frames_of : Intake → List Frame → List Frame
frames_of x frames = filter (λ frame. is_lane (lane_of frame) x) frames

-- what lanes send in a window: its number, the items of each lane, and the frames of all lanes
pub record Sent : Type 0 where
  pub window : ℕ
  pub items : Intake → List Item
  pub frames : List Frame

-- The frames of a window, in whatever order between the lanes: of each lane those of its items in their order, and then one
-- End; and none besides. Each lane takes its items.
pub record IsWindow (queries : List TypedQuery) (lanes : List Intake) (sent : Sent) : Type 0 where
  pub each : AllByRecursion (λ x. frames_of x sent.frames ≡ map (Row (name_of x)) (sent.items x) ++ End (name_of x) sent.window ∷ []) lanes
  pub known : AllByRecursion (λ frame. list_any (is_lane (lane_of frame)) lanes ≡ true) sent.frames
  pub lawful : AllByRecursion (λ x. AllByRecursion (λ item. row_fault queries x item ≡ None) (sent.items x)) lanes

-- windows come by rising number
abbrev pub Rise : Option ℕ → List Sent → Type 0
Rise closed [] = Unit {0}
Rise closed (sent ∷ later) = (is_above closed sent.window ≡ true) × Rise (Some sent.window) later

-- what came of a lane at the end of a window
abbrev pub filled : Sent → Intake → Intake
filled sent x = record x { items = sent.items x; end = Some sent.window }

-- the answers of a window with these prefixes, lane by lane: the value of the items that are left of all lanes, and the number of all items
abbrev pub answers_to : List TypedQuery → List Set → List Intake → Sent → Answers
answers_to queries sets lanes sent = record {
  window = sent.window;
  emitted = total (map (filled sent) lanes);
  parts = parts_of queries (all_left queries sets (map (filled sent) lanes));
}

-- The answers of windows one after another, where this window was closed before them, and these prefixes were kept of it: each of them
-- with what is kept of the one before it.
abbrev pub answers_from : List TypedQuery → List Intake → Option ℕ → List Set → List Sent → List Answers
answers_from queries lanes closed kept [] = []
answers_from queries lanes closed kept (sent ∷ later) =
    let answers = answers_to queries (kept_for closed kept sent.window) lanes sent in
    answers ∷ answers_from queries lanes (Some sent.window) (gathered queries answers.parts lanes) later

-- the frames of windows, one window after another
abbrev pub frames_in : List Sent → List Frame
frames_in windows = flat_map (λ sent. sent.frames) windows

-- the blocks of answers, each with the number of its items
abbrev pub blocks_of : List TypedQuery → List Answers → List ℕ
blocks_of queries answers = flat_map (λ a. block_text queries a true) answers

-- the blocks of windows, and the total
abbrev pub answered_text : List TypedQuery → List Intake → List Sent → List ℕ
answered_text queries lanes windows =
    let answers = answers_from queries lanes None [] windows in
    blocks_of queries answers ++ total_line (length windows) (Some (sum_by (λ a. a.emitted) answers))
