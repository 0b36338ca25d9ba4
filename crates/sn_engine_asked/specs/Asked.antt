-- serves proofs
-- The lanes whose answers a later level asks for, and what an engine holds that takes the rows of these alone.
use Rattle.std.specs.Prelude.{◌≡◌, ℕ, ◌+◌, List, [], map, length, fold, Bool, true, false, nat_lt, slice_get, if◌then◌else◌}
use Rattle.std.specs.List.{AllByRecursion}
use Rattle.std.specs.Option.{option_map_or}
use Rattle.sn_base.specs.declared.lane.Lane.{Lane}
use Rattle.sn_emit.specs.Plans.{Placed}
use Rattle.sn_emit.specs.Runs.{ReadsOut}
use Rattle.sn_emit.specs.declared.sender.Sender.{Sender}
use Rattle.sn_emit.specs.declared.tables.Tables.{Tables}
use Rattle.sn_engine.specs.Intakes.{after_frame}
use Rattle.sn_engine.specs.Moving.{name_of}
use Rattle.sn_engine.specs.declared.intake.Intake.{Intake}
use Rattle.sn_engine_lockstep.specs.Sources.{prefixes_in, source_of}
use Rattle.sn_engine_lockstep.specs.Work.{AreAtWork}
use Rattle.sn_engine_lockstep.specs.declared.source.Source.{Source}
use Rattle.sn_plan_grammar.specs.declared.plan.Entry.{Entry}
use Rattle.sn_refine.specs.Steps.{Set}
use Rattle.sn_report.specs.Items.{Frame}
use Rattle.sn_report.specs.declared.frame.Frame.TheVariants.{Row, End}
use Rattle.sn_types.specs.declared.answers.Part.{Part}
use Rattle.sn_types.specs.declared.typed_query.TypedQuery.{TypedQuery}

-- ---- what is asked for

-- another level comes after that of a lane on the path of its query: it admits what the lane's level is answered
abbrev pub is_asked : List Entry → Lane → Bool
is_asked entries lane = option_map_or (λ (e : Entry). nat_lt (lane.level + 1) (length e.levels)) (slice_get entries lane.query) false

-- the engine takes the rows of such lanes, and the Ends of all
abbrev pub is_heard : List Entry → Frame → Bool
is_heard entries (Row lane item) = is_asked entries lane
is_heard entries (End lane window) = true

-- its lanes after a frame
abbrev pub after_heard : List Entry → List Intake → Frame → List Intake
after_heard entries lanes frame = if is_heard entries frame then after_frame lanes frame else lanes

-- ---- what the engine holds

-- of a lane of which this came
abbrev pub heard : List Entry → Intake → Intake
heard entries l = record l { items = if is_asked entries (name_of l) then l.items else [] }

-- a lane is read out to its end, and the engine takes of what it gives what it is to
pub record IsHeardInto (entries : List Entry) (window : ℕ) (s t : Sender) (before now : List Intake) : Type 0 where
  pub frames : List Frame
  pub read : ReadsOut window s frames t
  pub came : now ≡ fold (after_heard entries) before frames

-- the engine holds this of lanes of which something is true
pub record AreHeardOf (entries : List Entry) (P : List Intake → Type 0) (intakes : List Intake) : Type 0 where
  pub whole : List Intake
  pub is : P whole
  pub heard : intakes ≡ map (heard entries) whole

-- the engine holds this of lanes at work
abbrev pub AreHeard : List Entry → List TypedQuery → Tables → List Placed → (Source → Set) → List (List ℕ) → List Sender → List Intake → Type 0
AreHeard entries queries tables pieces kept tuples senders intakes = AreHeardOf entries (AreAtWork queries tables pieces kept tuples senders) intakes

-- ---- what is admitted

-- the lanes of these pieces admit the same prefixes of the one answers as of the others
abbrev pub AdmitTheSame : List TypedQuery → List Placed → List Part → List Part → Type 0
AdmitTheSame queries pieces parts others =
    AllByRecursion (λ (x : Placed). prefixes_in queries parts (source_of x) ≡ prefixes_in queries others (source_of x)) pieces
