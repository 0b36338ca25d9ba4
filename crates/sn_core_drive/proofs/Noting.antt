-- Notes that are held in two parts.
use Rattle.std.proofs.Common.{◌≡◌, List, [], ◌∷◌, ◌++◌, map, refl, sym, ap}
use Rattle.sn_core.specs.declared.event.Event.{Event}
use Rattle.sn_types.specs.declared.answers.Answers.{Answers}
use Rattle.sn_core_drive.specs.Schedules.{answers_in}
use Rattle.sn_core_drive.specs.declared.note.Note.{Note}
use Rattle.sn_core_drive.specs.declared.note.Note.TheVariants.{Happened, Reported}

-- events hold no answers
no_answers : (events : List Event) → answers_in (map Happened events) ≡ []
no_answers [] = refl
no_answers (e ∷ events) = no_answers events

pub answers_before : (notes : List Note) (events : List Event) → answers_in notes ≡ answers_in (notes ++ map Happened events)
answers_before [] events = sym (no_answers events)
answers_before (Happened e ∷ notes) events = answers_before notes events
answers_before (Reported answers ∷ notes) events = ap (λ (all : List Answers). answers ∷ all) (answers_before notes events)
