-- to be believed
-- How the windows of several captures are answered, and what is written of it.
use Rattle.std.specs.Prelude.{ℕ, suc, List, [], ◌∷◌, ◌++◌, map, Result, Ok, Err}
use Rattle.std.specs.List.{flat_map}
use Rattle.sn_command.specs.declared.fault.Fault.{Fault}
use Rattle.sn_command.specs.declared.fault.Fault.TheVariants as faults
use Rattle.sn_command.specs.Outcomes.{Outcome, Stage}
use Rattle.sn_command.specs.Refusals.{refusing}
use Rattle.sn_command.specs.Stages.{Does}
use Rattle.sn_command_captures.specs.Counted.{left_of}
use Rattle.sn_command_captures.specs.declared.share.Share.{Share}
use Rattle.sn_pcap.specs.declared.packet.Ending.{Ending}
use Rattle.sn_pcap.specs.declared.packet.Ending.TheVariants as endings
use Rattle.sn_windows_together.specs.Together.{windows_of}

-- a window: its number, and of each capture the tuples in it
abbrev pub Shared : Type 0
Shared = ℕ × List (List (List ℕ))

-- The block of a window of captures that have these windows; and what stands after the blocks of captures with these windows, whose
-- records end so.
pub record JointWording : Type 0 where
  pub block : List Shared → Shared → List ℕ
  pub last : List Shared → List Ending → List ℕ

-- how the records of a capture end
abbrev pub ending_of : Share → Ending
ending_of s = s.ending

-- the windows that hold a record of any capture
abbrev pub windows_in : List Share → List Shared
windows_in shares = windows_of (map left_of shares)

-- the damage of the capture of this number, or else what is said of the others
abbrev pub damage_or : ℕ → Ending → Result (Unit {0}) Fault → Result (Unit {0}) Fault
damage_or number endings.Clean others = others
damage_or number (endings.Cut at) others = Err (faults.CutOf at number)
damage_or number (endings.Bad at) others = Err (faults.BadOf at number)

-- the damage of the first damaged capture, where the first of them has this number
abbrev pub damage_from : ℕ → List Ending → Result (Unit {0}) Fault
damage_from number [] = Ok tt
damage_from number (e ∷ es) = damage_or number e (damage_from (suc number) es)

-- the blocks of these of all windows, and what stands after all of them; a damaged capture is a refusal after it
abbrev pub rest_outcome : JointWording → List Shared → List Ending → List Shared → Outcome (Unit {0})
rest_outcome wording all ends windows = record { text = flat_map (wording.block all) windows ++ wording.last all ends; end = refusing (damage_from 1 ends) }

-- captures that were counted are answered
abbrev pub Answered : JointWording → List Share → Stage (Unit {0})
Answered wording shares = Does (rest_outcome wording (windows_in shares) (map ending_of shares) (windows_in shares))
