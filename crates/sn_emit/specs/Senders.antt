-- serves proofs
-- The frames of one lane.
use Rattle.std.specs.Prelude.{ℕ, ◌+◌, ◌-◌, ◌^◌, List, [], ◌∷◌, ◌++◌, map, fold, min, Bool, true, false, Option, Some, None, if◌then◌else◌}
use Rattle.std.specs.FinSet as set
use Rattle.std.specs.Option.{option_map, option_to_list}
use Rattle.std.specs.Ordering.{nat_cmp}
use Rattle.sn_base.specs.declared.lane.Lane.{Lane}
use Rattle.sn_report.specs.Items.{Item}
use Rattle.sn_report.specs.Items.{Frame}
use Rattle.sn_report.specs.declared.frame.Frame.TheVariants.{Row, End}
use Rattle.sn_pipe.specs.Pipes.{after_packet, at_start, item_of}
use Rattle.sn_pipe.specs.Prefixes.{left_in}
use Rattle.sn_plan_fit.specs.Capped.{capped}
use Rattle.sn_emit.specs.declared.sender.Sender.{Sender}

-- an item as a frame of a lane
abbrev pub row_frame : Lane → Item → Frame
row_frame lane item = Row lane item

-- one more where an item was given
abbrev pub counted : ℕ → Option Item → ℕ
counted given None = given
counted given (Some item) = capped (given + 1)

-- whether the End was given, once this is what was read out
abbrev pub ended_after : Bool → Option Item → Bool
ended_after ended None = true
ended_after ended (Some item) = ended

-- the frames that are still to be read out: those of the rows, and the End if it wasn't given
abbrev pub frames_left : Sender → ℕ → List Frame
frames_left s window = map (row_frame s.lane) (left_in s.pipe.prefix) ++ (if s.ended then [] else End s.lane window ∷ [])

abbrev pub sender_next : Sender → List ℕ → Sender
sender_next s tuple = record s { pipe = after_packet s.pipe tuple; given = counted s.given (item_of s.pipe tuple) }

abbrev pub sender_after : Sender → List (List ℕ) → Sender
sender_after s tuples = fold sender_next s tuples

-- what tuples give that come one after another
abbrev pub packet_frames : Sender → List (List ℕ) → List Frame
packet_frames s [] = []
packet_frames s (tuple ∷ tuples) = option_to_list (option_map (row_frame s.lane) (item_of s.pipe tuple)) ++ packet_frames (sender_next s tuple) tuples

-- a lane at the start of a window
abbrev pub sender_start : Sender → set.FinSet nat_cmp → Sender
sender_start s kept = record s { pipe = at_start s.pipe kept; given = 0; ended = false }
