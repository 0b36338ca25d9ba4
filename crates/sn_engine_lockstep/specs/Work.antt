-- serves proofs
-- The lanes of a plan at work, in the switch and in the engine.
use Rattle.std.specs.Prelude.{◌≡◌, ℕ, ◌<◌, ◌≤◌, List, [], ◌∷◌, map, fold, length, false, Option, Some, slice_get, unwrap_or}
use Rattle.std.specs.List.{AllByRecursion}
use Rattle.std.specs.Option.{option_map, option_to_list}
use Rattle.std.specs.FinSet as set
use Rattle.sn_base.specs.declared.lane.Lane.{Lane}
use Rattle.sn_emit.specs.declared.sender.Sender.{Sender}
use Rattle.sn_emit.specs.Plans.{AreLanesOf, IsLaneOf, Placed, items_of, lane_of}
use Rattle.sn_emit.specs.Runs.{ReadsOut}
use Rattle.sn_emit.specs.Senders.{packet_frames, row_frame, sender_after, sender_start}
use Rattle.sn_emit.specs.declared.tables.Tables.{Tables}
use Rattle.sn_engine.specs.declared.intake.Intake.{Intake}
use Rattle.sn_engine.specs.Answers.{window_of}
use Rattle.sn_engine.specs.Intakes.{after_frame, intake_for, is_lane, with_end, with_item}
use Rattle.sn_engine.specs.Keeping.{all_left, kept_for, with_bits}
use Rattle.sn_engine_split.specs.Opened.{left_in}
use Rattle.sn_pipe.specs.Pipes.{item_of}
use Rattle.sn_plan_fit.specs.Paths.{level_before}
use Rattle.sn_refine.specs.Steps.{Set}
use Rattle.sn_report.specs.Items.{Frame}
use Rattle.sn_report.specs.declared.frame.Frame.TheVariants.{Row, End}
use Rattle.sn_types.specs.Typed.{query_at}
use Rattle.sn_types.specs.declared.answers.Answers.{Answers}
use Rattle.sn_types.specs.declared.typed_query.TypedQuery.{TypedQuery}
use Rattle.sn_engine_lockstep.specs.declared.source.Source.{Source}
use Rattle.sn_engine_lockstep.specs.Sources.{kept_in, source_of}

-- the engine's lane of a piece, of which nothing has come
abbrev pub intake_of : Placed → Intake
intake_of x = intake_for x.query x.path x.piece

-- the name of a piece's lane
abbrev pub name_of : Placed → Lane
name_of x = lane_of x.query x.path x.piece

-- a lane after a frame of its own
abbrev pub taken : Intake → Frame → Intake
taken x (Row lane item) = with_item item x
taken x (End lane window) = with_end window x

-- the frame of the item that a lane gives at a tuple, if it gives one
abbrev pub frames_given : List ℕ → Sender → List Frame
frames_given tuple s = option_to_list (option_map (row_frame s.lane) (item_of s.pipe tuple))

-- no piece has the name of one before it
abbrev pub AreApart : List Placed → Type 0
AreApart [] = Unit {0}
AreApart (x ∷ xs) = AllByRecursion (λ y. is_lane (name_of y) (intake_of x) ≡ false) xs × AreApart xs

-- the lane of a piece in the switch and in the engine, once these tuples of a window came
pub record IsAtWork (queries : List TypedQuery) (tables : Tables) (x : Placed) (kept : Set) (tuples : List (List ℕ)) (s : Sender) (l : Intake) : Type 0 where
  pub base : Sender
  pub lane : IsLaneOf queries tables x base
  pub sender : s ≡ sender_after (sender_start base kept) tuples
  pub intake : l ≡ fold taken (intake_of x) (packet_frames (sender_start base kept) tuples)

-- what holds of each piece and of its lane in the switch and in the engine, by their number
pub record Each (P : ℕ → Placed → Sender → Intake → Type 0) (pieces : List Placed) (senders : List Sender) (intakes : List Intake) : Type 0 where
  pub apart : AreApart pieces
  pub given : length senders ≡ length pieces
  pub taken : length intakes ≡ length pieces
  pub each : (j : ℕ) (x : Placed) (s : Sender) (l : Intake) → slice_get pieces j ≡ Some x → slice_get senders j ≡ Some s
      → slice_get intakes j ≡ Some l → P j x s l

-- all lanes, once these tuples of a window came, where the lanes admit these prefixes
abbrev pub AreAtWork : List TypedQuery → Tables → List Placed → (Source → Set) → List (List ℕ) → List Sender → List Intake → Type 0
AreAtWork queries tables pieces kept tuples senders intakes = Each (λ j x s l. IsAtWork queries tables x (kept (source_of x)) tuples s l) pieces senders intakes

-- all lanes between two windows: those in the engine are empty
pub record AreIdle (queries : List TypedQuery) (tables : Tables) (pieces : List Placed) (senders : List Sender) (intakes : List Intake) : Type 0 where
  pub apart : AreApart pieces
  pub lanes : AreLanesOf queries tables pieces senders
  pub empty : intakes ≡ map intake_of pieces

-- a lane is read out to its end, and the engine takes what it gives
pub record IsReadInto (window : ℕ) (s t : Sender) (before now : List Intake) : Type 0 where
  pub frames : List Frame
  pub read : ReadsOut window s frames t
  pub came : now ≡ fold after_frame before frames

-- the engine's lane of a piece at the end of a window: the items of the piece came, and the End
abbrev pub done : List TypedQuery → Tables → (Source → Set) → List (List ℕ) → ℕ → Placed → Intake
done queries tables kept tuples window x = record (intake_of x) { items = items_of queries tables x (kept (source_of x)) tuples; end = Some window }

-- what is left of it where the items of other prefixes than those of its source are dropped
abbrev pub left_done : List TypedQuery → Tables → (Source → Set) → List (List ℕ) → ℕ → Placed → Intake
left_done queries tables kept tuples window x = record (intake_of x) {
  items = left_in (query_at queries x.query) x.piece.branch (with_bits (level_before x.path x.piece.level) (kept (source_of x)))
      (items_of queries tables x (kept (source_of x)) tuples);
  end = Some window;
}

-- these prefixes, lane by lane, are those of the sources of the pieces
abbrev pub AreKept : List Placed → (Source → Set) → List Set → Type 0
AreKept pieces kept sets = (j : ℕ) (x : Placed) → slice_get pieces j ≡ Some x → unwrap_or (slice_get sets j) set.empty ≡ kept (source_of x)

-- what an engine keeps of the window that it closed last is, for each window, what the last answers give the sources of the pieces
abbrev pub Recalls : List TypedQuery → List Placed → Option Answers → Option ℕ → List Set → Type 0
Recalls queries pieces last closed sets = (window : ℕ) → AreKept pieces (kept_in queries last window) (kept_for closed sets window)

-- lanes without the items that an engine drops at the close of the window that they have ended, where it closed this window last, and
-- kept these prefixes of it
abbrev pub lanes_left : List TypedQuery → Option ℕ → List Set → List Intake → List Intake
lanes_left queries closed sets lanes = all_left queries (kept_for closed sets (window_of lanes)) lanes

-- no lane was read out in this window
abbrev pub AreUnread : List Sender → Type 0
AreUnread senders = AllByRecursion (λ (s : Sender). s.pipe.prefix.place ≡ 0) senders

-- the lanes before this number have begun a window with the prefixes of their sources, and the others are as they were
pub record Begins (kept : Source → Set) (sources : List Source) (i : ℕ) (before now : List Sender) : Type 0 where
  pub count : length now ≡ length before
  pub begun : (j : ℕ) (source : Source) (s : Sender) → j < i → slice_get sources j ≡ Some source → slice_get before j ≡ Some s
      → slice_get now j ≡ Some (sender_start s (kept source))
  pub left : (j : ℕ) → i ≤ j → slice_get now j ≡ slice_get before j
