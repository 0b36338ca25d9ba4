-- to be believed
-- Items and frames as contracts see them. Whatever kind of row an item holds, its row is the list of its columns.
use Rattle.std.specs.Prelude.{ℕ, List}
use Rattle.sn_report.specs.declared.frame.Item.{Item as ItemOf}
use Rattle.sn_report.specs.declared.frame.Frame.{Frame as FrameOf}
use Rattle.sn_report.specs.declared.frame.Frame.TheVariants.{Row, End}

abbrev pub Item : Type 0
Item = ItemOf (List ℕ)

abbrev pub Frame : Type 0
Frame = FrameOf (List ℕ)

-- an item, by the columns of its row
abbrev pub item_by : {R : Type 0} → (R → List ℕ) → ItemOf R → Item
item_by columns item = record { tag = item.tag; row = columns item.row }

-- a frame, by the columns of its row
abbrev pub frame_by : {R : Type 0} → (R → List ℕ) → FrameOf R → Frame
frame_by columns (Row lane item) = Row lane (item_by columns item)
frame_by columns (End lane window) = End lane window
