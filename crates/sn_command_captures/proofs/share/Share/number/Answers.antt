use Rattle.std.proofs.Common.{List, ℕ, ap, subst, ◌∙◌}
use Rattle.sn_command_captures.proofs.WalkLemmas.{number_found}
use Rattle.sn_command_captures.specs.Recorded.{Untaken}
use Rattle.sn_command_captures.specs.Walks.{IsNextRecord}
use Rattle.sn_windows.specs.NumberingOf.{numbering}
use Rattle.sn_windows_together.specs.Merging.{head_number}
use Rattle.sn_command_captures.proofs.share.Share.number.Goals as goal

pub returns : goal.returns
returns c =
    let a = c.self.inside in
    let n =
    subst (λ (bytes : List ℕ). IsNextRecord a.header bytes a.at (numbering a.windows) c.in_ok-number.number c.in_ok-number.field-0-1 (numbering c.next_record.new.windows)) c.as_slice.ensures
    c.in_ok-number.ensures.some in
    number_found n ∙ ap (λ (u : Untaken). head_number u.records) c.self.view_is
