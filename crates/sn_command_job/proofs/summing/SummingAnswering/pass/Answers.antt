use Rattle.sn_command_job.proofs.SummingLemmas.{shown_next}
use Rattle.sn_command_run.specs.Along.{plan_of}
use Rattle.sn_command_job.proofs.summing.SummingAnswering.pass.Goals as goal

pub pass_window-requires-clause-hand : goal.pass_window-requires-clause-hand
pass_window-requires-clause-hand g c = let h = c.requires.hand in (h.0, h.1, h.2, h.3.along, h.4)

pub returns-clause-begun : goal.returns-clause-begun
returns-clause-begun g c = λ closed tuples some h rising.
    let e = c.in_ok-answers.ensures in
    record {
      along = e.begun closed tuples some h.along;
      shown = shown_next g.M.Machine c.args.self.now closed c.args.at_hand tuples c.in_ok-answers.answers _ (plan_of c.pass_window.new.self) e.plan h (e.answers closed tuples some h.along) c.in_ok-push_shown.ensures;
    }
