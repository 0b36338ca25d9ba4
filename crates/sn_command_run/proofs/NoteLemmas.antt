-- The last answers among notes.
use Rattle.std.proofs.Common.{◌≡◌, ◌<◌, List, [], ◌∷◌, ◌++◌, length, None, Some, refl, ap, ◌∙◌, arith, append-nil, length-append}
use Rattle.sn_core.specs.declared.event.Event.{Event}
use Rattle.sn_core_drive.specs.Schedules.{answers_in}
use Rattle.sn_core_drive.specs.declared.note.Note.{Note}
use Rattle.sn_core_drive.specs.declared.note.Note.TheVariants.{Happened, Reported}
use Rattle.sn_types.specs.declared.answers.Answers.{Answers}
use Rattle.sn_engine_lockstep.specs.Known.{last_from}
use Rattle.sn_engine_lockstep.proofs.Driving.{last_is}

in_both : (xs ys : List Note) → answers_in (xs ++ ys) ≡ answers_in xs ++ answers_in ys
in_both [] ys = refl
in_both (Happened event ∷ xs) ys = in_both xs ys
in_both (Reported answers ∷ xs) ys = ap (λ (rest : List Answers). answers ∷ rest) (in_both xs ys)

pub last_event : (notes front : List Note) (event : Event) → notes ≡ front ++ Happened event ∷ [] → last_from None (answers_in notes) ≡ last_from None (answers_in front)
last_event notes front event is = ap (λ (xs : List Note). last_from None (answers_in xs)) is ∙ ap (last_from None) (in_both front (Happened event ∷ []) ∙ append-nil (answers_in front))

pub last_answers : (notes front : List Note) (answers : Answers) → notes ≡ front ++ Reported answers ∷ [] → last_from None (answers_in notes) ≡ Some answers
last_answers notes front answers is = ap (λ (xs : List Note). last_from None (answers_in xs)) is ∙ ap (last_from None) (in_both front (Reported answers ∷ [])) ∙ last_is None (answers_in front) answers

pub one_fewer : (notes front : List Note) (note : Note) → notes ≡ front ++ note ∷ [] → length front < length notes
one_fewer notes front note is = let both = length-append front (note ∷ []) in let same = ap (λ (xs : List Note). length xs) is in omega arith
