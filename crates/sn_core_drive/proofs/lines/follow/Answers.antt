use Rattle.std.proofs.Common.{◌++◌, List, ℕ, ap, sym, ◌∙◌}
use Rattle.std.specs.List.{flat_map}
use Rattle.sn_core_drive.specs.Lines.{note_lines}
use Rattle.sn_core_drive.proofs.LineLemmas.{more_closed, more_open}
use Rattle.sn_core_drive.proofs.lines.follow.Goals as goal

pub returns-then-closes : goal.returns-then-closes
returns-then-closes c = λ since are.
    let so_far = c.notes.invariant since are in
    let later = c.in-Some.later.now in
    more_closed since so_far.0 c.args.notes.now c.notes.rest.now later c.in-Some.note.now c.notes.lines.items so_far.1 so_far.2 c.in-Some.ensures.cases.0 c.replace.result.items c.replace.new.dest.items
    (sym c.closes.ensures ∙ c.if-closes.true) (ap (λ v. v.items) c.replace.ensures.value ∙ c.in_ok-push_note_line.ensures)
    (ap (λ v. v.items) c.replace.ensures.after ∙ c.in_ok-push_note_lines.ensures ∙ ap (λ (text : List ℕ). text ++ flat_map note_lines later) c.new-afterwards.ensures.items)

pub notes-preserved : goal.notes-preserved
notes-preserved c = λ since are.
    let so_far = c.notes.invariant since are in
    more_open since so_far.0 c.args.notes.now c.notes.rest.now c.in-Some.later.now c.in-Some.note.now c.notes.lines.items so_far.1 so_far.2 c.in-Some.ensures.cases.0 c.push_note_line.new.text.items
    (sym c.closes.ensures ∙ c.if-closes.false) c.in_ok-push_note_line.ensures
