-- to be believed
-- What is answered where a window is closed.
use Rattle.std.specs.Prelude.{◌≡◌, Option, Some}
use Rattle.sn_command.specs.declared.fault.Fault.{Fault}
use Rattle.sn_command.specs.declared.refusal.Refusal.{Refusal}
use Rattle.sn_command.specs.declared.refusal.Refusal.TheVariants.{Memory, Refused}
use Rattle.sn_command_capture.specs.declared.stop.Stop.{Stop}
use Rattle.sn_command_capture.specs.declared.stop.Stop.TheVariants as stops

-- the refusal that comes of it
abbrev pub refusal_of : Stop → Refusal
refusal_of stops.Memory = Memory
refusal_of (stops.Refused fault) = Refused fault

-- A window that stops for this reason, if there is one, is refused for it. Memory may run out instead.
abbrev pub IsDue : Option Fault → Stop → Type 0
IsDue due stops.Memory = Unit {0}
IsDue due (stops.Refused fault) = due ≡ Some fault
