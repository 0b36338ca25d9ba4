use Rattle.sn_command.specs.Desks.{world}
use Rattle.sn_command_capture.specs.Gathering.{unfinished_text}
use Rattle.sn_command_capture.proofs.StreamLemmas.{runs_refused, runs_unrefused}
use Rattle.sn_command_capture.proofs.capture.refuse_large.Goals as goal

pub returns-in-Ok : goal.returns-in-Ok
returns-in-Ok g c = λ state s.
    runs_refused (unfinished_text (g.A.Answering.wording c.args.answering.now) state) (world g.I.Inputs g.O.Sink c.args.desk.now) (world g.I.Inputs g.O.Sink c.write_unfinished.new.desk) (c.in-Ok.ensures state s)

pub returns-in-Err : goal.returns-in-Err
returns-in-Err g c = λ state s.
    runs_unrefused (unfinished_text (g.A.Answering.wording c.args.answering.now) state) (world g.I.Inputs g.O.Sink c.args.desk.now) (world g.I.Inputs g.O.Sink c.write_unfinished.new.desk) (c.in-Err.ensures state s)
