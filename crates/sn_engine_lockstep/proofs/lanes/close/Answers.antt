use Rattle.std.proofs.Common.{Some, ap, ◌∙◌}
use Rattle.sn_types.specs.declared.answers.Answers.{Answers}
use Rattle.sn_engine_lockstep.proofs.lanes.close.Goals as goal

pub returns-in-Ok-clause-closed : goal.returns-in-Ok-clause-closed
returns-in-Ok-clause-closed c = c.in-Ok.ensures.last ∙ ap (λ (a : Answers). Some a.window) c.in-Ok.ensures.answers.1
