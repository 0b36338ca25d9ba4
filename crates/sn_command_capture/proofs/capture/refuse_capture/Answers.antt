use Rattle.sn_command.specs.Desks.{world}
use Rattle.sn_command_capture.proofs.TurnLemmas.{stops_unread}
use Rattle.sn_command_capture.proofs.capture.refuse_capture.Goals as goal

pub returns-in_default : goal.returns-in_default
returns-in_default g c =
    let answering = c.args.answering.now in
    stops_unread (g.A.Answering.hand answering) (g.A.Answering.wording answering) c.args.gathered c.args.error c.read_refusal.result (world g.I.Inputs g.O.Sink c.args.desk.now) c.in_default.not-TooLarge c.read_refusal.ensures
