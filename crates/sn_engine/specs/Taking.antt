-- to be believed
-- Which frames an engine takes.
use Rattle.std.specs.Prelude.{◌≡◌, ℕ, ◌^◌, List, [], ◌∷◌, Bool, true, false, not, ◌&&◌, ◌⊎◌, nat_lt, ◌==◌, take, is_some, Option, None, Some, Result, Ok, Err}
use Rattle.std.specs.Prelude.{if◌then◌else◌}
use Rattle.std.specs.List.{find, list_all, list_any}
use Rattle.std.specs.Option.{option_map_or}
use Rattle.sn_base.specs.Groups.{Row as Numbers}
use Rattle.sn_base.specs.declared.column.Column.{Column}
use Rattle.sn_report.specs.Items.{Frame}
use Rattle.sn_report.specs.declared.frame.Frame.TheVariants.{Row, End}
use Rattle.sn_report.specs.Items.{Item}
use Rattle.sn_report.specs.declared.frame.Tag.{Tag}
use Rattle.sn_report.specs.declared.frame.Tag.TheVariants.{At, Partial}
use Rattle.sn_engine_split.specs.Branches.{is_at_place, is_reduce, is_tag_of, tag_columns}
use Rattle.sn_types.specs.Cuts.{is_stateful}
use Rattle.sn_types.specs.declared.typed_op.TOp.{TOp}
use Rattle.sn_types.specs.declared.typed_query.TypedBranch.{TypedBranch}
use Rattle.sn_types.specs.declared.typed_query.TypedQuery.{TypedQuery}
use Rattle.sn_types.specs.Typed.{branch_at}
use Rattle.sn_engine.specs.declared.intake.Intake.{Intake}
use Rattle.sn_engine.specs.declared.fault.TakeFault.{TakeFault}
use Rattle.sn_engine.specs.declared.fault.TakeFault.TheVariants.{Stranger, Width, AfterEnd, Window, Memory}
use Rattle.sn_engine.specs.Intakes.{is_lane, agrees, after_frame}

-- ---- columns

-- a row has these columns, each below 2 to its width
abbrev pub has_columns : List Column → Numbers → Bool
has_columns [] [] = true
has_columns [] (x ∷ xs) = false
has_columns (c ∷ cs) [] = false
has_columns (c ∷ cs) (x ∷ xs) = nat_lt x (2 ^ c.width) && has_columns cs xs

-- ---- windows

abbrev pub is_above : Option ℕ → ℕ → Bool
is_above None window = true
is_above (Some closed) window = nat_lt closed window

-- ---- tags

-- the first operator that has registers stands at this place
abbrev pub is_first_stateful : List TOp → ℕ → Bool
is_first_stateful os i = is_at_place is_stateful os i && not (list_any is_stateful (take i os))

-- The tags of a prefix that several switches run, each up to the first operator that has registers: At this operator, and Partial of it where
-- it is a reduce; At the cut where none has registers.
abbrev pub is_shared_tag : List TOp → ℕ → Tag → Bool
is_shared_tag os cut (At i) = if list_any is_stateful (take cut os) then is_first_stateful os i else i == cut
is_shared_tag os cut (Partial i) = nat_lt i cut && is_at_place is_reduce os i && is_first_stateful os i

-- the tags of a lane
abbrev pub is_tag_on : Bool → List TOp → ℕ → Tag → Bool
is_tag_on shared os cut tag = if shared then is_shared_tag os cut tag else is_tag_of os cut tag

-- ---- the first refusal

abbrev pub item_fault : TypedBranch → Intake → Item → Option TakeFault
item_fault branch x item =
    if not (is_tag_on x.shared branch.ops x.cut item.tag) then Some Stranger
    else if not (has_columns (tag_columns branch.schemas item.tag) item.row) then Some Width
    else if is_some x.end then Some AfterEnd
    else None

abbrev pub row_fault : List TypedQuery → Intake → Item → Option TakeFault
row_fault queries x item = item_fault (branch_at queries x.query x.branch) x item

abbrev pub end_fault : List Intake → Option ℕ → Intake → ℕ → Option TakeFault
end_fault lanes closed x window =
    if is_some x.end then Some AfterEnd
    else if not (is_above closed window && list_all (agrees window) lanes) then Some Window
    else None

abbrev pub take_fault : List TypedQuery → List Intake → Option ℕ → Frame → Option TakeFault
take_fault queries lanes closed (Row lane item) = option_map_or (λ x. row_fault queries x item) (find (is_lane lane) lanes) (Some Stranger)
take_fault queries lanes closed (End lane window) = option_map_or (λ x. end_fault lanes closed x window) (find (is_lane lane) lanes) (Some Stranger)

-- frames that are taken one after another
abbrev pub AreTaken : List TypedQuery → Option ℕ → List Intake → List Frame → Type 0
AreTaken queries closed lanes [] = Unit {0}
AreTaken queries closed lanes (frame ∷ frames) = (take_fault queries lanes closed frame ≡ None) × AreTaken queries closed (after_frame lanes frame) frames

-- a frame is answered by the first refusal, if any; out of memory is answered only where there is none
abbrev pub Refuses : {A : Type 0} → Result A TakeFault → Option TakeFault → Type 0
Refuses (Ok a) fault = fault ≡ None
Refuses (Err f) fault = ((f ≡ Memory) × (fault ≡ None)) ⊎ (fault ≡ Some f)

-- the place of the lane that takes a frame, or the first refusal
abbrev pub Places : Result ℕ TakeFault → Option ℕ → Option TakeFault → Type 0
Places (Ok at) place fault = (place ≡ Some at) × (fault ≡ None)
Places (Err f) place fault = fault ≡ Some f
