use Rattle.sn_command_job.proofs.SummingLemmas.{shown_next}
use Rattle.sn_command_run.specs.Along.{plan_of}
use Rattle.sn_command_job.proofs.summing.SummingAnswering.close.Goals as goal

pub close_window-requires : goal.close_window-requires
close_window-requires g c = let h = c.requires in (h.0, h.1, h.2, h.3.along, h.4)

pub returns-clause-closed : goal.returns-clause-closed
returns-clause-closed g c = λ closed tuples some h.
    let e = c.in_ok-answers.ensures in
    record {
      along = e.closed closed tuples some h.along;
      shown = shown_next g.M.Machine c.args.self.now closed c.args.number tuples c.in_ok-answers.answers _ (plan_of c.close_window.new.self) e.plan h (e.answers closed tuples some h.along) c.in_ok-push_shown.ensures;
    }
