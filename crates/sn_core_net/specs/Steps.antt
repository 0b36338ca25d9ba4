-- serves proofs
-- What a step answers.
use Rattle.std.specs.Prelude.{◌≡◌, ◌<◌, ℕ, Bool, true, false, None, Some, Result, Ok, Err}
use Rattle.sn_core.specs.Needs.{first_need_that_fails}
use Rattle.sn_core.specs.Events.{after_event}
use Rattle.sn_core.specs.declared.event.Event.{Event}
use Rattle.sn_core.specs.declared.event.Event.TheVariants.{Packet, ReadOut, Deliver, CloseWindow, Install}
use Rattle.sn_core_net.specs.States.{State, Works}
use Rattle.sn_core_net.specs.declared.fault.StepFault.{StepFault}
use Rattle.sn_core_net.specs.declared.fault.StepFault.TheVariants.{NotEnabled, Memory}

-- an event names a lane of n
abbrev pub IsOneOf : ℕ → Event → Type 0
IsOneOf count Packet = Unit {0}
IsOneOf count (ReadOut lane) = lane < count
IsOneOf count (Deliver lane) = lane < count
IsOneOf count CloseWindow = Unit {0}
IsOneOf count Install = Unit {0}

-- an event takes memory
abbrev pub takes_memory : Event → Bool
takes_memory Packet = false
takes_memory (ReadOut lane) = false
takes_memory (Deliver lane) = true
takes_memory CloseWindow = true
takes_memory Install = false

-- An event happens only where no need fails; else the first that fails is named, and nothing changes. Nothing changes either
-- where memory runs out, for an event that takes memory and may happen.
abbrev pub Steps : Works → State → Event → State → Result (Unit {0}) StepFault → Type 0
Steps w before event after (Ok u) = (first_need_that_fails before event ≡ None) × (after ≡ after_event w before event)
Steps w before event after (Err (NotEnabled why)) = (first_need_that_fails before event ≡ Some why) × (after ≡ before)
Steps w before event after (Err Memory) = (takes_memory event ≡ true) × (first_need_that_fails before event ≡ None) × (after ≡ before)
