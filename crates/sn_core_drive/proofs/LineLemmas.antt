-- The lines of notes, up to a close and after it.
use Rattle.std.proofs.Common.{◌≡◌, ℕ, List, [], ◌∷◌, ◌++◌, true, false, refl, ap, sym, ◌∙◌, append-nil}
use Rattle.std.specs.List.{flat_map}
use Rattle.std.proofs.lemmas.Grind.{flat_map-append}
use Rattle.sn_core.specs.declared.event.Event.{Event}
use Rattle.sn_core_drive.specs.declared.note.Note.{Note}
use Rattle.sn_core_drive.specs.declared.note.Note.TheVariants.{Happened, Reported}
use Rattle.sn_core_drive.specs.Lines.{event_line, lines_of, note_lines}
use Rattle.sn_core_drive.specs.Turns.{events_in, note_closes, parted}

pub lines_more : (since more : List Event) → lines_of (since ++ more) ≡ lines_of since ++ lines_of more
lines_more since more = flat_map-append event_line since more

pub all_lines : (notes : List Note) → flat_map note_lines notes ≡ lines_of (events_in notes)
all_lines [] = refl
all_lines (Happened event ∷ notes) = ap (λ (rest : List ℕ). note_lines (Happened event) ++ rest) (all_lines notes) ∙ sym (lines_more (event ∷ []) (events_in notes))
all_lines (Reported answers ∷ notes) = all_lines notes

-- one note more
pub stays_open : (since : List Event) (note : Note) (later : List Note) → note_closes note ≡ false → parted since (events_in (note ∷ later)) ≡ parted (since ++ events_in (note ∷ [])) (events_in later)
stays_open since (Happened event) later open_is = rw open_is refl
stays_open since (Reported answers) later open_is = ap (λ (more : List Event). parted more (events_in later)) (sym (append-nil since))

pub closes_here : (since : List Event) (note : Note) (later : List Note) → note_closes note ≡ true → parted since (events_in (note ∷ later)) ≡ (since ++ events_in (note ∷ []), events_in later)
closes_here since (Happened event) later closed = rw closed refl
closes_here since (Reported answers) later closed = absurd cc

module _ (since more : List Event) (all rest later : List Note) (note : Note) (lines : List ℕ) (are : lines ≡ lines_of more) (so_far : parted since (events_in all) ≡ parted more (events_in rest)) (next : rest ≡ note ∷ later) where
  own : (now : List ℕ) → now ≡ lines ++ note_lines note → now ≡ lines_of (more ++ events_in (note ∷ []))
  own now is = is ∙ ap (λ (text : List ℕ). text ++ note_lines note) are ∙ sym (lines_more more (events_in (note ∷ [])))

  pub more_open : (now : List ℕ) → note_closes note ≡ false → now ≡ lines ++ note_lines note → (x : List Event) × (now ≡ lines_of x) × (parted since (events_in all) ≡ parted x (events_in later))
  more_open now open_is is = (more ++ events_in (note ∷ []), own now is, so_far ∙ ap (λ (notes : List Note). parted more (events_in notes)) next ∙ stays_open more note later open_is)

  pub more_closed : (front afterwards : List ℕ) → note_closes note ≡ true → front ≡ lines ++ note_lines note → afterwards ≡ flat_map note_lines later
      → (front ≡ lines_of (parted since (events_in all)).0) × (afterwards ≡ lines_of (parted since (events_in all)).1)
  more_closed front afterwards closed is are_after =
      let both = so_far ∙ ap (λ (notes : List Note). parted more (events_in notes)) next ∙ closes_here more note later closed in (
        own front is ∙ ap (λ (p : List Event × List Event). lines_of p.0) (sym both),
        are_after ∙ all_lines later ∙ ap (λ (p : List Event × List Event). lines_of p.1) (sym both),
      )
