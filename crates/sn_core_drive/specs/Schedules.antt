-- to be believed
-- A machine that is driven by draws.
use Rattle.std.specs.Prelude.{◌≡◌, ℕ, ◌%◌, ◌||◌, List, [], ◌∷◌, ◌++◌, filter, length, map, slice_get, Bool, true, false, is_none, Option, None, Some}
use Rattle.std.specs.List.{range_with_len}
use Rattle.sn_core.specs.Events.{after_event, without_answers}
use Rattle.sn_core.specs.Needs.{first_need_that_fails, is_done, wants}
use Rattle.sn_core.specs.declared.event.Event.{Event}
use Rattle.sn_core.specs.declared.event.Event.TheVariants.{Packet, ReadOut, Deliver, CloseWindow, Install}
use Rattle.sn_core.specs.declared.supply.Supply.{Supply}
use Rattle.sn_core.specs.declared.supply.Supply.TheVariants.{Numbered, End}
use Rattle.sn_core.specs.declared.supply.Window.TheVariants.{Begun}
use Rattle.sn_gen.specs.Generated.{drawn, next_number}
use Rattle.sn_core_net.specs.States.{State, Works}
use Rattle.sn_types.specs.declared.answers.Answers.{Answers}
use Rattle.sn_core_drive.specs.declared.note.Note.{Note}
use Rattle.sn_core_drive.specs.declared.note.Note.TheVariants.{Happened, Reported}

-- ---- which events there are

-- all events of this many lanes, in their order
abbrev pub events_of : ℕ → List Event
events_of lanes = Packet ∷ (map ReadOut (range_with_len 0 lanes) ++ (map Deliver (range_with_len 0 lanes) ++ (CloseWindow ∷ Install ∷ [])))

abbrev pub may_happen : State → Event → Bool
may_happen s event = is_none (first_need_that_fails s event)

-- those that may happen
abbrev pub enabled_events : State → List Event
enabled_events s = filter (may_happen s) (events_of (length s.lanes))

-- the one that a draw picks: by the draw modulo their number
abbrev pub picked : State → ℕ → Option Event
picked s draw = slice_get (enabled_events s) (draw % length (enabled_events s))

-- ---- runs

-- it waits for what is given next, or all is done
abbrev pub is_still : State → Bool
is_still s = wants s || is_done s

-- From this state, where x was drawn last, these notes are taken until a supply is wanted or all is done, and then y was drawn
-- last. Answers are reported as soon as they wait; else a number is drawn, and the event that it picks happens.
abbrev pub IsRun : Works → (Answers → Answers) → ℕ → State → List Note → ℕ → State → Type 0
IsRun w reported x s [] y t = (s.waiting ≡ None) × (is_still s ≡ true) × (y ≡ x) × (t ≡ s)
IsRun w reported x s (Happened event ∷ notes) y t =
    (s.waiting ≡ None) × (is_still s ≡ false) × (picked s (drawn (next_number x)) ≡ Some event) × IsRun w reported (next_number x) (after_event w s event) notes y t
IsRun w reported x s (Reported answers ∷ notes) y t =
    ((found : Answers) × (s.waiting ≡ Some found) × (answers ≡ reported found)) × IsRun w reported x (without_answers s) notes y t

-- the answers that were reported
abbrev pub answers_in : List Note → List Answers
answers_in [] = []
answers_in (Happened event ∷ notes) = answers_in notes
answers_in (Reported answers ∷ notes) = answers ∷ answers_in notes

-- these notes lead from one state to another, whatever notes are taken then
abbrev pub Leads : Works → (Answers → Answers) → ℕ → State → List Note → ℕ → State → Type 0
Leads w reported x s notes y t = (more : List Note) (z : ℕ) (u : State) → IsRun w reported y t more z u → IsRun w reported x s (notes ++ more) z u

-- What was given is used up: the window of the tuple is begun, and the next supply is wanted; or all is done.
abbrev pub IsAfter : Supply (List ℕ) → State → Type 0
IsAfter (Numbered number tuple) s = (s.held ≡ None) × (s.window ≡ Begun number)
IsAfter End s = is_done s ≡ true
