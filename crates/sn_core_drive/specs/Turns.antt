-- to be believed
-- What happens in a machine that is given one supply after another, as a function of the number from which draws follow.
use Rattle.std.specs.Prelude.{ℕ, zero, suc, List, [], ◌∷◌, ◌++◌, Bool, true, false, if◌then◌else◌}
use Rattle.std.specs.Option.{option_map_or}
use Rattle.sn_core.specs.Debt.{work}
use Rattle.sn_core.specs.Events.{after_event, given, without_answers}
use Rattle.sn_core.specs.declared.event.Event.{Event}
use Rattle.sn_core.specs.declared.event.Event.TheVariants.{Packet, ReadOut, Deliver, CloseWindow, Install}
use Rattle.sn_core.specs.declared.supply.Supply.{Supply}
use Rattle.sn_core_drive.specs.Schedules.{is_still, picked}
use Rattle.sn_core_drive.specs.declared.note.Note.{Note}
use Rattle.sn_core_drive.specs.declared.note.Note.TheVariants.{Happened, Reported}
use Rattle.sn_gen.specs.Generated.{drawn, next_number}
use Rattle.sn_core_net.specs.States.{State, Works}

-- ---- between two supplies

-- what happened, the number that was drawn last, and the state
pub record Turns : Type 0 where
  pub events : List Event
  pub number : ℕ
  pub state : State

abbrev pub no_turn : ℕ → State → Turns
no_turn x s = record { events = []; number = x; state = s }

abbrev pub led_by : Event → Turns → Turns
led_by event later = record later { events = event ∷ later.events }

-- From this state, where x was drawn last, events happen until a supply is wanted or all is done, at most this many: a number is drawn, the
-- event that it picks happens, and the answers that wait are taken.
abbrev pub turns : Works → ℕ → ℕ → State → Turns
turns w zero x s = no_turn x s
turns w (suc n) x s =
    if is_still s then no_turn x s
    else option_map_or (λ event. led_by event (turns w n (next_number x) (without_answers (after_event w s event)))) (picked s (drawn (next_number x)))
    (no_turn x s)

-- The same once a supply is given. Each event does some of the work, so no more of them are to come.
abbrev pub turns_on : Works → ℕ → State → Supply (List ℕ) → Turns
turns_on w x s next = let now = given s next in turns w (work w now []) x now

-- the events among notes
abbrev pub events_in : List Note → List Event
events_in [] = []
events_in (Happened event ∷ notes) = event ∷ events_in notes
events_in (Reported answers ∷ notes) = events_in notes

-- ---- from one close to the next

-- a window closes
abbrev pub is_close : Event → Bool
is_close Packet = false
is_close (ReadOut lane) = false
is_close (Deliver lane) = false
is_close CloseWindow = true
is_close Install = false

abbrev pub note_closes : Note → Bool
note_closes (Happened event) = is_close event
note_closes (Reported answers) = false

-- After what happened since a window closed come these events. Where the next window closes among them, all up to its close is parted from
-- what comes after it, and else nothing is.
abbrev pub parted : List Event → List Event → List Event × List Event
parted since [] = ([], since)
parted since (event ∷ later) = if is_close event then (since ++ event ∷ [], later) else parted (since ++ event ∷ []) later

-- what happened since a window closed, the number that was drawn last, and the state
pub record Watch : Type 0 where
  pub since : List Event
  pub number : ℕ
  pub state : State

-- what happens where a supply is given
abbrev pub watched_on : Works → Watch → Supply (List ℕ) → Turns
watched_on w watch next = turns_on w watch.number watch.state next

-- all that happened up to the close of a window that is at an end with this supply
abbrev pub up_to_close : Works → Watch → Supply (List ℕ) → List Event
up_to_close w watch next = (parted watch.since (watched_on w watch next).events).0

-- and what is kept after the supply
abbrev pub watch_on : Works → Watch → Supply (List ℕ) → Watch
watch_on w watch next = let now = watched_on w watch next in record { since = (parted watch.since now.events).1; number = now.number; state = now.state }

-- after one supply after another
abbrev pub watch_over : Works → Watch → List (Supply (List ℕ)) → Watch
watch_over w watch [] = watch
watch_over w watch (next ∷ later) = watch_over w (watch_on w watch next) later
