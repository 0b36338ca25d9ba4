use Rattle.std.proofs.Common.{[], ◌∷◌, ◌++◌, ap, sym, ◌∙◌}
use Rattle.sn_core_drive.specs.declared.note.Note.{Note}
use Rattle.sn_command_run.proofs.NoteLemmas.{last_answers, last_event}
use Rattle.sn_command_run.proofs.reported.last_reported.Goals as goal

pub returns-in-Some-Reported : goal.returns-in-Some-Reported
returns-in-Some-Reported c =
    sym (last_answers c.notes.notes c.pop.new.self c.in-Some-Reported.answers (c.in-Some-Reported.ensures.some ∙ ap (λ (note : Note). c.pop.new.self ++ note ∷ []) c.in-Some-Reported.field-0-is))
    ∙ c.notes.invariant

pub notes-preserved : goal.notes-preserved
notes-preserved c =
    sym (last_event c.notes.notes c.pop.new.self c.in-Some-Happened.field-0-0 (c.in-Some-Happened.ensures.some ∙ ap (λ (note : Note). c.pop.new.self ++ note ∷ []) c.in-Some-Happened.field-0-is))
    ∙ c.notes.invariant
