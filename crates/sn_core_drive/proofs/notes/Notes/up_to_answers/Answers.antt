use Rattle.std.proofs.Common.{◌++◌, ap, ◌∙◌}
use Rattle.std.specs.Option.{option_to_list}
use Rattle.sn_core_drive.specs.Schedules.{answers_in}
use Rattle.sn_core_drive.proofs.Noting.{answers_before}
use Rattle.sn_core_drive.proofs.notes.Notes.up_to_answers.Goals as goal

pub returns : goal.returns
returns c = answers_before c.self.inside.front (c.self.inside.events ++ option_to_list c.self.inside.last) ∙ ap answers_in c.self.view_is
