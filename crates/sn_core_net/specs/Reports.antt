-- serves proofs
-- The frames that lanes hold for the engine.
use Rattle.std.specs.Prelude.{ℕ, Bool, ◌&&◌, ◌==◌}
use Rattle.sn_base.specs.declared.lane.Lane.{Lane}
use Rattle.sn_core.specs.declared.supply.Frame.{Frame}
use Rattle.sn_core.specs.declared.supply.Frame.TheVariants.{Row, Last}
use Rattle.sn_core.specs.declared.supply.Window.{Window}
use Rattle.sn_core.specs.declared.supply.Window.TheVariants.{Idle, Begun, Closed}
use Rattle.sn_report.specs.Items.{Frame as Report}
use Rattle.sn_report.specs.declared.frame.Frame.TheVariants.{Row as Sent, End}
use Rattle.sn_report.specs.Items.{Item}

-- what the engine learns from a frame of the lane of this name, in this window
abbrev pub report_of : Lane → ℕ → Frame Item → Report
report_of name window (Row item) = Sent name item
report_of name window Last = End name window

-- a frame that a lane holds, as the state of a net has it
abbrev pub frame_of : Report → Frame Item
frame_of (Sent name item) = Row item
frame_of (End name window) = Last

abbrev pub are_same : Lane → Lane → Bool
are_same a b = (a.query == b.query) && (a.level == b.level) && (a.branch == b.branch)

-- a frame is one of the lane of this name in this window
abbrev pub is_own : Lane → ℕ → Report → Bool
is_own name window (Sent other item) = are_same other name
is_own name window (End other number) = are_same other name && (number == window)

-- the number of the window that is begun or closed
abbrev pub window_number : Window → ℕ
window_number Idle = 0
window_number (Begun number) = number
window_number (Closed number) = number
