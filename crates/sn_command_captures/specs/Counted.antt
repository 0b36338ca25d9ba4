-- to be believed
-- Several captures, counted.
use Rattle.std.specs.Prelude.{ℕ, List, map, min, Option, None, Some, Result, Ok, Err, if◌then◌else◌}
use Rattle.sn_command.specs.declared.fault.Fault.{Fault}
use Rattle.sn_command.specs.declared.fault.Fault.TheVariants as faults
use Rattle.sn_command.specs.Outcomes.{Stage}
use Rattle.sn_command.specs.Stages.{Gives}
use Rattle.sn_command_captures.specs.declared.capture.Capture.{Capture}
use Rattle.sn_command_captures.specs.declared.share.Share.{Share}
use Rattle.sn_command_captures.specs.Recorded.{shown}
use Rattle.sn_command_captures.specs.Windows.{none_full, records_since, start_of}
use Rattle.sn_windows.specs.Blocks.{all_few}

-- what a switch saw: the tuples of a capture, with the numbers of windows of this many nanoseconds, where window 0 begins at this time
abbrev pub share_of : ℕ → ℕ → Capture → Share
share_of window start c = record { records = map (shown c.link c.file) (records_since window start c); ending = c.ending }

abbrev pub shares_of : ℕ → List Capture → List Share
shares_of window captures = map (share_of window (start_of captures)) captures

-- captures with a window of too many records are refused
abbrev pub counted : ℕ → List Capture → Result (List Share) Fault
counted window captures = if none_full window captures then Ok (shares_of window captures) else Err faults.TooLarge

abbrev pub Counted : ℕ → List Capture → Stage (List Share)
Counted window captures = Gives (counted window captures)

-- ---- what is left

-- the tuples of the records that weren't taken, each with its number
abbrev pub left_of : Share → List (ℕ × List ℕ)
left_of s = s.records

-- ---- one capture

-- the earlier of two times, of which the first may be missing
abbrev pub start_found : Option ℕ → ℕ → ℕ
start_found None time = time
start_found (Some least) time = min least time

-- what a switch saw, where no window has too many records
abbrev pub share_if_few : ℕ → ℕ → Capture → Option Share
share_if_few window start c = if all_few (records_since window start c) then Some (share_of window start c) else None

abbrev pub share_verdict : ℕ → ℕ → Capture → Result Share Fault
share_verdict window start c = if all_few (records_since window start c) then Ok (share_of window start c) else Err faults.TooLarge
