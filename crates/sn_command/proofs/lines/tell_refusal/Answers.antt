use Rattle.sn_command.specs.Desks.{sunk}
use Rattle.sn_command.proofs.ReportedLemmas.{tells_read_fault}
use Rattle.sn_command.proofs.lines.tell_refusal.Goals as goal

pub returns-in-Missing : goal.returns-in-Missing
returns-in-Missing g c =
    tells_read_fault c.args.refusal c.tell_text-in-Missing.result (sunk g.E.Sink c.args.err.now) (sunk g.E.Sink c.tell_text-in-Missing.new.err) c.in-Missing.is c.tell_text-in-Missing.ensures

pub returns-in-WriteFault : goal.returns-in-WriteFault
returns-in-WriteFault g c = rw c.in-WriteFault.is c.tell_text-in-WriteFault.ensures
