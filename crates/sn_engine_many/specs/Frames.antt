-- serves proofs
-- The frames of what a switch of several has gathered in a window.
use Rattle.std.specs.Prelude.{ℕ, List, map}
use Rattle.sn_engine.specs.Moving.{name_of}
use Rattle.sn_engine.specs.Turns.{lane_tag, turn}
use Rattle.sn_engine.specs.declared.intake.Intake.{Intake}
use Rattle.sn_report.specs.Items.{Frame}
use Rattle.sn_report.specs.declared.frame.Frame.TheVariants.{Row, End}
use Rattle.sn_types.specs.declared.typed_query.TypedQuery.{TypedQuery}

-- the frames of a lane's items
abbrev pub frames_of : List TypedQuery → Intake → List Frame
frames_of queries x = map (λ item. Row (name_of x) (turn (lane_tag queries x) item)) x.items

-- the End of a lane
abbrev pub end_of : ℕ → Intake → Frame
end_of window x = End (name_of x) window
