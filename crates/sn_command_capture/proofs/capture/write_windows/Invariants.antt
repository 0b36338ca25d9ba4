use Rattle.std.specs.Prelude.{◌-◌, ◌^◌}
use Rattle.sn_command.specs.Desks.{world}
use Rattle.sn_command_capture.proofs.TurnLemmas.{Midway}
use Rattle.sn_command_capture.proofs.capture.write_windows.Given as goal

abbrev pub invariant-records : goal.invariant-records
invariant-records g l =
    Midway (g.A.Answering.hand l.answering) (g.A.Answering.wording l.initial.answering) (g.A.Answering.wording l.answering) l.window_ns l.header l.capture l.reader l.gathered
    (world g.I.Inputs g.O.Sink l.initial.desk) (world g.I.Inputs g.O.Sink l.desk)

abbrev pub decreases-records : goal.decreases-records
decreases-records g l = 2 ^ 40 - l.reader.offset
